-- The table of standing grants must be there exactly where the version has it, and the office be within its limits;
-- otherwise the rows are none of that version.
use Rattle.std.proofs.Common.{◌≡◌, true, Ok, Err, inr, refl, sym, ap, ◌∙◌, true≢false, rules}
use Rattle.sqlite.specs.Effect.{Database}
use Rattle.sqlite.specs.Held.{state}
use Rattle.exam_types.specs.declared.refusal.Refusal.TheVariants.{BadStore}
use Rattle.exam_sql.specs.Made.{lists_marks}
use Rattle.exam_tables.specs.Versions.{marks_since}
use Rattle.exam_tables.proofs.PartByPart.{loaded_as, not_loaded}
use Rattle.exam_store.specs.Parts.{held_part, office_part}
use Rattle.exam_store.specs.Refused.{is_within}
use Rattle.exam_store.proofs.Marking.{found_different, found_equal, known_marks, listed_of, understood_of}
use Rattle.exam_store.proofs.Newest.{none_good, within_of}
use Rattle.exam_store.proofs.loading.load_version.Goals as goal

pub returns-in_err-office-clause-loads : goal.returns-in_err-office-clause-loads
returns-in_err-office-clause-loads g c =
    let is : c.from_residual.result ≡ Err c.in_err-office.field-0.0 = search rules in
    let v = c.args.version in
    rw is (not_loaded g.S.Store c.args.conn.now c.load_office.new.conn held_part (office_part v)
    (λ all was. was) c.in_err-office.field-0.0
    (λ clean all was none of. inr (none_good v.number all none)) c.in_err-office.ensures)

pub returns-then-has_marks-version-clause-loads : goal.returns-then-has_marks-version-clause-loads
returns-then-has_marks-version-clause-loads g c =
    let v = c.args.version in
    loaded_as g.S.Store c.args.conn.now c.load_office.new.conn held_part (office_part v)
    (λ all was. was) c.in_ok-office.office (Err BadStore) c.in_ok-office.ensures (λ clean. tt) (inr (
      refl,
      λ clean all was held of.
          let lists : lists_marks (state g.S.Store c.load_office.new.conn).now.schema ≡ marks_since v.number =
          ap (λ (db : Database). lists_marks db.schema) (c.in_ok-office.ensures.left clean).0.now_is
          ∙ listed_of v.number (state g.S.Store c.args.conn.now).now all of in
          absurd (found_different c.has_marks.result v.has_marks c.if-has_marks-version.true
          (c.has_marks.ensures ∙ lists ∙ sym (known_marks v c.requires.known))),
    )) (λ clean. tt)

pub returns-then-not-is_within-clause-loads : goal.returns-then-not-is_within-clause-loads
returns-then-not-is_within-clause-loads g c =
    let v = c.args.version in
    loaded_as g.S.Store c.args.conn.now c.load_office.new.conn held_part (office_part v)
    (λ all was. was) c.in_ok-office.office (Err BadStore) c.in_ok-office.ensures (λ clean. tt) (inr (
      refl,
      λ clean all was held of. inr (inr (inr (
        c.in_ok-office.office,
        held,
        λ good.
            let within : is_within v c.in_ok-office.office ≡ true =
            within_of v c.in_ok-office.office c.requires.known good.1 in
            true≢false (sym within ∙ sym c.is_within.ensures ∙ c.if-not-is_within.true),
      ))),
    )) (λ clean. tt)

pub returns-clause-loads : goal.returns-clause-loads
returns-clause-loads g c =
    let v = c.args.version in
    loaded_as g.S.Store c.args.conn.now c.load_office.new.conn held_part (office_part v)
    (λ all was. was) c.in_ok-office.office (Ok c.in_ok-office.office) c.in_ok-office.ensures
    (λ clean all was held. held) tt
    (λ clean knows.
    let db = (state g.S.Store c.args.conn.now).now in
    let marks : lists_marks db.schema ≡ v.has_marks =
    ap (λ (db : Database). lists_marks db.schema) (sym (c.in_ok-office.ensures.left clean).0.now_is)
    ∙ sym c.has_marks.ensures
    ∙ found_equal c.has_marks.result v.has_marks c.if-has_marks-version.false in
    (marks, understood_of v.number db knows.0 (marks ∙ known_marks v c.requires.known) knows.1))
