-- For each table the difference is taken between what it was before the command and what it is after. The command
-- takes no row away but openings and seats, so for all other tables the puts are enough.
use Rattle.std.proofs.Common.{◌≡◌, List, Ordering, ap, map, refl, subst, sym}
use Rattle.std.specs.Cmp.{IsTotalOrder, nat_cmp_total}
use Rattle.std.specs.Cmp.Lexicographic.{nat_list_cmp_total}
use Rattle.std.specs.Map.Iter.{deref_pair}
use Rattle.std.proofs.lemmas.Map.Lookups.{CmpEqualImpliesEq}
use Rattle.exam_rules.specs.Relations.{Relations}
use Rattle.exam_rules.specs.Tables as table
use Rattle.exam_commands.proofs.KeyedRows.{appeals_total}
use Rattle.exam_commands.specs.KeptRows.{KeepsKeys}
use Rattle.exam_changes.specs.declared.before.Before.{Before}
use Rattle.exam_changes.specs.TablesBefore.{WasTable}
use Rattle.exam_tables.specs.declared.differences.Difference.{Difference}
use Rattle.exam_tables.proofs.Exact.{sessions_exact, papers_exact, halls_exact, openings_exact, candidates_exact}
use Rattle.exam_tables.proofs.Exact.{entries_exact, arrangements_exact, appeals_exact, standing_exact}
use Rattle.exam_store.specs.Saves.{TurnsRows, TurnsTable}
use Rattle.exam_store.proofs.PutsAlone.{puts_alone}
use Rattle.exam_store.proofs.saving.changes_of.Goals as goal

-- the rows after the command are those that the facts show
shown : {K X : Type 0} {cmp : K → K → Ordering} (told : Before K X) (old now after : List (K × X)) (d : Difference K X)
    → now ≡ after → WasTable cmp told old after → (WasTable cmp told old now → TurnsTable cmp old now d)
    → TurnsTable cmp old after d
shown {cmp} told old now after d is was turns =
    subst (λ rows. TurnsTable cmp old rows d) is (turns (subst (λ rows. WasTable cmp told old rows) (sym is) was))

-- and where no key is gone, what is put makes them
put_alone : {K X : Type 0} {cmp : K → K → Ordering} (total : IsTotalOrder cmp) (exact : CmpEqualImpliesEq cmp)
    (told : Before K X) (old now after : List (K × X)) (d : Difference K X) → now ≡ after → KeepsKeys cmp old after
    → WasTable cmp told old after
    → (WasTable cmp told old now → TurnsTable cmp old now d) → TurnsRows cmp old after d.put.items
put_alone total exact told old now after d is keeps was turns =
    puts_alone total exact old after (map deref_pair d.put.items) (map (λ k. k.now) d.delete.items)
    (shown told old now after d is was turns) keeps

pub returns-clause-turns : goal.returns-clause-turns
returns-clause-turns c =
    let before = c.args.draft.now.before.relations in
    let after = c.args.draft.now.after.relations in
    let rise = c.show_good.ensures.before_rises in
    let kept = c.requires c.show_good.ensures.before in
    let told = c.tables_before-before.ensures in
    let was = c.tables_before-before.result in
    let facts = c.facts-after.result.now in
    let is = c.facts-after.ensures in
    record {
      sessions = put_alone nat_list_cmp_total sessions_exact.keys was.sessions before.sessions facts.sessions.entries
          after.sessions c.in_ok-difference_since.field-0
          (ap (λ (r : Relations). r.sessions) is) (kept table.Sessions refl) (told table.Sessions)
          (c.in_ok-difference_since.ensures before.sessions sessions_exact (rise.tables table.Sessions));
      papers = put_alone nat_list_cmp_total papers_exact.keys was.papers before.papers facts.papers.entries
          after.papers c.in_ok-difference_since-2.field-0 (ap (λ (r : Relations). r.papers) is)
          (kept table.Papers refl) (told table.Papers)
          (c.in_ok-difference_since-2.ensures before.papers papers_exact (rise.tables table.Papers));
      halls = put_alone nat_list_cmp_total halls_exact.keys was.halls before.halls facts.halls.entries after.halls
          c.in_ok-difference_since-3.field-0 (ap (λ (r : Relations). r.halls) is) (kept table.Halls refl)
          (told table.Halls)
          (c.in_ok-difference_since-3.ensures before.halls halls_exact (rise.tables table.Halls));
      openings = shown was.openings before.openings facts.openings.entries after.openings
          c.in_ok-difference_since-4.field-0 (ap (λ (r : Relations). r.openings) is) (told table.Openings)
          (c.in_ok-difference_since-4.ensures before.openings openings_exact (rise.tables table.Openings));
      candidates = put_alone nat_cmp_total candidates_exact.keys was.candidates before.candidates
          facts.candidates.entries after.candidates c.in_ok-difference_since-5.field-0
          (ap (λ (r : Relations). r.candidates) is) (kept table.Candidates refl) (told table.Candidates)
          (c.in_ok-difference_since-5.ensures before.candidates candidates_exact (rise.tables table.Candidates));
      entries = put_alone appeals_total entries_exact.keys was.entries before.entries facts.entries.entries
          after.entries c.in_ok-difference_since-6.field-0
          (ap (λ (r : Relations). r.entries) is) (kept table.Entries refl) (told table.Entries)
          (c.in_ok-difference_since-6.ensures before.entries entries_exact (rise.tables table.Entries));
      arrangements = put_alone nat_cmp_total arrangements_exact.keys was.arrangements before.arrangements
          facts.arrangements.entries after.arrangements c.in_ok-difference_since-7.field-0
          (ap (λ (r : Relations). r.arrangements) is) (kept table.Arrangements refl) (told table.Arrangements)
          (c.in_ok-difference_since-7.ensures before.arrangements arrangements_exact (rise.tables table.Arrangements));
      appeals = put_alone appeals_total appeals_exact.keys was.appeals before.appeals facts.appeals.entries
          after.appeals c.in_ok-difference_since-8.field-0
          (ap (λ (r : Relations). r.appeals) is) (kept table.Appeals refl) (told table.Appeals)
          (c.in_ok-difference_since-8.ensures before.appeals appeals_exact (rise.tables table.Appeals));
      standing = put_alone appeals_total standing_exact.keys was.standing before.standing facts.standing.entries
          after.standing c.in_ok-difference_since-9.field-0
          (ap (λ (r : Relations). r.standing) is) (kept table.Standing refl) (told table.Standing)
          (c.in_ok-difference_since-9.ensures before.standing standing_exact (rise.tables table.Standing));
      seats = c.in_ok-seats_since.ensures c.args.draft.now.before.seats c.args.draft.now.after.seats rise.seats
          c.show_good.ensures.after_rises.seats c.plans_before.ensures;
    }
