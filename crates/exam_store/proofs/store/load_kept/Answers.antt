-- The version and the office are read of the same rows. A version that is not the newest is refused before any other
-- row is read.
use Rattle.std.proofs.Common.{◌≡◌, Ok, Err, inl, inr, refl, subst, rules}
use Rattle.std.proofs.lemmas.Bool.{both_ways}
use Rattle.std.proofs.lemmas.Result.{IfErr-weaker}
use Rattle.sqlite.specs.Held.{state}
use Rattle.exam_sql.specs.Texts.{load_office}
use Rattle.exam_tables.specs.Parts.{version_part}
use Rattle.exam_tables.specs.Versions.{HasVersion, version}
use Rattle.exam_tables.proofs.Asking.{never_unlisted}
use Rattle.exam_tables.specs.OurTables.{office_loads}
use Rattle.exam_tables.proofs.Leaving.{both_survive, still_itself, still_then, then_reads}
use Rattle.exam_tables.proofs.PartByPart.{by_queries}
use Rattle.exam_tables.proofs.Refusing.{part_failed}
use Rattle.exam_store.proofs.Marking.{made_of, older, one_version, opens_as, still_of}
use Rattle.exam_store.proofs.Rekeeping.{finds_kept, loaded}
use Rattle.exam_store.proofs.store.load_kept.Goals as goal

pub returns-clause-found : goal.returns-clause-found
returns-clause-found g c =
    let v = c.in_ok-version.version in
    let newest : v.number ≡ version = search rules in
    loaded g.S.Store c.args.conn.now c.version_of.new.conn c.load_version.new.conn v c.load_version.result
    c.in_ok-version.ensures.known newest c.in_ok-version.ensures.listed
    (by_queries g.S.Store c.args.conn.now c.version_of.new.conn load_office office_loads
    (Ok v) version_part c.in_ok-version.ensures.reads) c.load_version.ensures.loads

pub returns-clause-kept : goal.returns-clause-kept
returns-clause-kept g c =
    finds_kept (state g.S.Store c.args.conn.now) (state g.S.Store c.load_version.new.conn) c.load_version.result
    (returns-clause-found g c)

pub returns-clause-left : goal.returns-clause-left
returns-clause-left g c = λ clean.
    then_reads (state g.S.Store c.args.conn.now) (state g.S.Store c.version_of.new.conn)
    (state g.S.Store c.load_version.new.conn) c.load_version.result
    (c.in_ok-version.ensures.reads.left (c.load_version.ensures.loads.early clean))
    (c.load_version.ensures.loads.left clean)

pub returns-clause-survives : goal.returns-clause-survives
returns-clause-survives g c =
    both_survive (state g.S.Store c.args.conn.now) (state g.S.Store c.version_of.new.conn)
    (state g.S.Store c.load_version.new.conn) c.version_of.ensures.reads.survives c.load_version.ensures.loads.survives

pub returns-clause-refusal : goal.returns-clause-refusal
returns-clause-refusal g c = λ clean.
    let old = state g.S.Store c.args.conn.now in
    let mid = state g.S.Store c.version_of.new.conn in
    let same = c.in_ok-version.ensures.reads.left (c.load_version.ensures.loads.early clean) in
    let newest : c.in_ok-version.version.number ≡ version = search rules in
    IfErr-weaker c.load_version.result _ _ (λ e why.
    inl (part_failed e (λ told. (
      told.0,
      still_then old mid (state g.S.Store told.0) same c.version_of.ensures.reads.survives told.1,
      told.2,
      told.3,
      told.4,
    ))
    (λ none. (
      λ all was. let there =
          still_of version old mid all same was in none all (made_of version mid.now all there) there,
      λ v known all was has. one_version v version all has
          (subst (λ v. HasVersion v all) newest
          (c.in_ok-version.ensures.reads.rows (c.load_version.ensures.loads.early clean) all was)),
    )) why))
    (rw newest at c.load_version.ensures.loads.bad clean)

pub returns-in_err-version-clause-refusal : goal.returns-in_err-version-clause-refusal
returns-in_err-version-clause-refusal g c = λ clean.
    let is : c.from_residual.result ≡ Err c.in_err-version.field-0.0 = search rules in
    rw is (inl (part_failed c.in_err-version.field-0.0
    (λ told. (c.args.conn.now, still_itself (state g.S.Store c.args.conn.now), load_office, office_loads, told))
    (λ none. (
      λ all was. inl (none all (made_of version _ all was) version (inr refl)),
      λ v known all was has. absurd (none all was v known has),
    )) (c.in_err-version.ensures.reads.bad clean)))

pub returns-then-version-clause-refusal : goal.returns-then-version-clause-refusal
returns-then-version-clause-refusal g c = λ clean.
    let v = c.in_ok-version.version.number in
    inr (
      refl,
      λ all was.
          (v, older v c.in_ok-version.ensures.known.0 (search rules), c.in_ok-version.ensures.reads.rows clean all was),
    )

pub returns-clause-told : goal.returns-clause-told
returns-clause-told g c = IfErr-weaker c.load_version.result _ _ opens_as c.load_version.ensures.loads.told

pub returns-in_err-version-clause-told : goal.returns-in_err-version-clause-told
returns-in_err-version-clause-told g c =
    let is : c.from_residual.result ≡ Err c.in_err-version.field-0.0 = search rules in
    rw is (opens_as c.in_err-version.field-0.0 c.in_err-version.ensures.reads.told)

-- where the names of the tables are not those of tables

pub returns-clause-unlisted : goal.returns-clause-unlisted
returns-clause-unlisted g c = λ clean none. never_unlisted _ c.load_version.result c.in_ok-version.ensures.listed none

pub returns-then-version-clause-unlisted : goal.returns-then-version-clause-unlisted
returns-then-version-clause-unlisted g c = λ clean none. absurd (both_ways _ none c.in_ok-version.ensures.listed)

pub returns-in_err-version-clause-unlisted : goal.returns-in_err-version-clause-unlisted
returns-in_err-version-clause-unlisted g c = λ clean none.
    let is : c.from_residual.result ≡ Err c.in_err-version.field-0.0 = search rules in
    rw is (c.in_err-version.ensures.unlisted clean none)
