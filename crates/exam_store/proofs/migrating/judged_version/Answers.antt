-- The office is read of the rows of which the version was read, so it is a good office of that version.
use Rattle.std.proofs.Common.{◌≡◌, Ok, Err, inl, inr, ◌∙◌, rules}
use Rattle.std.proofs.lemmas.Bool.{both_ways}
use Rattle.sqlite.specs.Held.{state}
use Rattle.exam_sql.specs.Texts.{load_office}
use Rattle.exam_tables.specs.OurTables.{office_loads}
use Rattle.exam_tables.specs.Parts.{then_part, version_part}
use Rattle.exam_tables.proofs.PartByPart.{all_load, by_queries, loaded_as, next_fails, not_loaded}
use Rattle.exam_store.specs.Parts.{judged_part, office_part}
use Rattle.exam_store.proofs.Marking.{is_of, known_marks}
use Rattle.exam_store.proofs.Newest.{none_of_any, within_as}
use Rattle.exam_store.proofs.migrating.judged_version.Goals as goal

pub returns-in_err-version-clause-judges : goal.returns-in_err-version-clause-judges
returns-in_err-version-clause-judges g c =
    let is : c.from_residual.result ≡ Err c.in_err-version.field-0.0 = search rules in
    let first = by_queries g.S.Store c.args.conn.now c.version_of.new.conn load_office office_loads
    (Err c.in_err-version.field-0.0) version_part c.in_err-version.ensures.reads in
    rw is (not_loaded g.S.Store c.args.conn.now c.version_of.new.conn version_part judged_part
    (λ all was. was) c.in_err-version.field-0.0 (λ clean all was none v known of. inl (none v known)) first)

pub returns-in_err-office-clause-judges : goal.returns-in_err-office-clause-judges
returns-in_err-office-clause-judges g c =
    let is : c.from_residual-in_err-office.result ≡ Err c.in_err-office.field-0.0 = search rules in
    let v = c.in_ok-version.version in
    let first = by_queries g.S.Store c.args.conn.now c.version_of.new.conn load_office office_loads
    (Ok v) version_part c.in_ok-version.ensures.reads in
    let both = next_fails g.S.Store c.args.conn.now c.version_of.new.conn c.load_version.new.conn version_part
    (office_part v) v first c.in_err-office.field-0.0 c.in_err-office.ensures.loads in
    rw is (not_loaded g.S.Store c.args.conn.now c.load_version.new.conn
    (then_part version_part (office_part v)) judged_part (λ all was. (was, was)) c.in_err-office.field-0.0
    (λ clean all was none w known of. elim none [
      | inl no_version ↦ inl (no_version w known)
      | inr no_office ↦ none_of_any v.number w all (first.rows (c.load_version.ensures.loads.early clean) all was)
          (λ same. no_office (rw same of))
    ]) both)

pub returns-clause-judges : goal.returns-clause-judges
returns-clause-judges g c =
    let v = c.in_ok-version.version in
    let office = c.in_ok-office.office in
    let first = by_queries g.S.Store c.args.conn.now c.version_of.new.conn load_office office_loads
    (Ok v) version_part c.in_ok-version.ensures.reads in
    let both = all_load g.S.Store c.args.conn.now c.version_of.new.conn c.load_version.new.conn version_part
    (office_part v) v first office c.in_ok-office.ensures.loads in
    loaded_as g.S.Store c.args.conn.now c.load_version.new.conn (then_part version_part (office_part v)) judged_part
    (λ all was. (was, was)) (v, office) (Ok v) both
    (λ clean all was held. (
      is_of v.number (state g.S.Store c.args.conn.now).now all
          ((both.understood clean).1.0 ∙ known_marks v c.in_ok-version.ensures.known) was,
      held.0,
      office,
      held.1,
      (c.show_good.ensures, within_as v office c.in_ok-version.ensures.known c.in_ok-office.ensures.within),
    )) tt (λ clean knows. (knows.0, knows.1.1))

-- where the names of the tables are not those of tables

pub returns-in_err-office-clause-unlisted : goal.returns-in_err-office-clause-unlisted
returns-in_err-office-clause-unlisted g c = λ clean none. absurd (both_ways _ none c.in_ok-version.ensures.listed)

pub returns-in_err-version-clause-unlisted : goal.returns-in_err-version-clause-unlisted
returns-in_err-version-clause-unlisted g c = λ clean none.
    let is : c.from_residual.result ≡ Err c.in_err-version.field-0.0 = search rules in
    rw is (c.in_err-version.ensures.unlisted clean none)
