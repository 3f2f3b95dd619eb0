-- Each table is read of the rows that the one before found, since reading changes none. Once the others are read, the
-- connection is open.
use Rattle.exam_tables.proofs.Words.{Form, Trees}
use Rattle.std.proofs.Common.{◌≡◌, ◌⊎◌, List, Err, inl, inr, rules}
use Rattle.exam_rules.specs.Relations.{Relations}
use Rattle.exam_rules.specs.Tables as table
use Rattle.exam_tables.specs.Forms.{sessions, papers, halls, openings, candidates, entries, arrangements, appeals}
use Rattle.exam_tables.specs.Held.{HasTable, HoldsRelations}
use Rattle.exam_tables.specs.Parts.{facts_part, marks_part}
use Rattle.exam_tables.proofs.PartByPart.{all_load, loaded_as, next_fails, not_loaded, opened}
use Rattle.exam_tables.proofs.loading.load_facts.Goals as goal

-- each of the eight tables that every version has can be loaded
eight : {P : Type 0} → P → P × (P × (P × (P × (P × (P × (P × P))))))
eight p = (p, (p, (p, (p, (p, (p, (p, p)))))))

abbrev Lacks : {K X : Type 0} → Form K X → Trees → Type 0
Lacks {K} {X} form all = (entries : List (K × X)) → HasTable form entries all → ⊥

-- where one of them holds none, no facts are held
lacking : (all : Trees)
    → Lacks sessions all ⊎ (Lacks papers all ⊎ (Lacks halls all ⊎ (Lacks openings all ⊎ (Lacks candidates all
    ⊎ (Lacks entries all ⊎ (Lacks arrangements all ⊎ Lacks appeals all))))))
    → (r : Relations) → HoldsRelations all r → ⊥
lacking all (inl of) r held = of r.sessions (held table.Sessions)
lacking all (inr (inl of)) r held = of r.papers (held table.Papers)
lacking all (inr (inr (inl of))) r held = of r.halls (held table.Halls)
lacking all (inr (inr (inr (inl of)))) r held = of r.openings (held table.Openings)
lacking all (inr (inr (inr (inr (inl of))))) r held = of r.candidates (held table.Candidates)
lacking all (inr (inr (inr (inr (inr (inl of)))))) r held = of r.entries (held table.Entries)
lacking all (inr (inr (inr (inr (inr (inr (inl of))))))) r held = of r.arrangements (held table.Arrangements)
lacking all (inr (inr (inr (inr (inr (inr (inr of))))))) r held = of r.appeals (held table.Appeals)

pub returns-in_err-tables : goal.returns-in_err-tables
returns-in_err-tables g c =
    let is : c.from_residual.result ≡ Err c.in_err-tables.field-0.0 = search rules in
    rw is (not_loaded g.S.Store c.args.conn.now c.load.new.conn _ facts_part (λ all was. eight was)
    c.in_err-tables.field-0.0 (λ clean all was. lacking all) c.in_err-tables.ensures)

pub returns-in_err-standing : goal.returns-in_err-standing
returns-in_err-standing g c =
    let is : c.from_residual-in_err-standing.result ≡ Err c.in_err-standing.field-0.0 = search rules in
    let first = c.in_ok-tables.ensures in
    let next = c.in_err-standing.ensures.loads
    (opened g.S.Store c.args.conn.now c.load.new.conn c.load_marks.new.conn _ c.in_ok-tables.tables first
    c.load_marks.ensures.early) in
    let both = next_fails g.S.Store c.args.conn.now c.load.new.conn c.load_marks.new.conn _ marks_part
    c.in_ok-tables.tables first c.in_err-standing.field-0.0 next in
    rw is (not_loaded g.S.Store c.args.conn.now c.load_marks.new.conn _ facts_part (λ all was. (eight was, was))
    c.in_err-standing.field-0.0 (λ clean all was none r held. elim none [
      | inl of ↦ lacking all of r held
      | inr of ↦ of r.standing (held table.Standing)
    ]) both)

pub returns : goal.returns
returns g c =
    let first = c.in_ok-tables.ensures in
    let next = c.in_ok-standing.ensures.loads
    (opened g.S.Store c.args.conn.now c.load.new.conn c.load_marks.new.conn _ c.in_ok-tables.tables first
    c.load_marks.ensures.early) in
    let both = all_load g.S.Store c.args.conn.now c.load.new.conn c.load_marks.new.conn _ marks_part
    c.in_ok-tables.tables first c.in_ok-standing.standing next in
    loaded_as g.S.Store c.args.conn.now c.load_marks.new.conn _ facts_part (λ all was. (eight was, was)) _ _ both
    (λ clean all was is. elim [
      | table.Sessions ↦ is.0.0
      | table.Papers ↦ is.0.1.0
      | table.Halls ↦ is.0.1.1.0
      | table.Openings ↦ is.0.1.1.1.0
      | table.Candidates ↦ is.0.1.1.1.1.0
      | table.Entries ↦ is.0.1.1.1.1.1.0
      | table.Arrangements ↦ is.0.1.1.1.1.1.1.0
      | table.Appeals ↦ is.0.1.1.1.1.1.1.1
      | table.Standing ↦ is.1
    ]) tt (λ clean is.
    let of = is.0 in (
      (
        of.0,
        (
          of.1.0,
          (
            of.1.1.0,
            (of.1.1.1.1.0, (of.1.1.1.0, (of.1.1.1.1.1.0, (of.1.1.1.1.1.1.0, (of.1.1.1.1.1.1.1, tt))))),
          ),
        ),
      ),
      is.1,
    ))
