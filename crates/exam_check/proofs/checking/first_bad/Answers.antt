-- Each step looks at the database that the one before left, so all looks are at one set of rows. The version comes
-- first, then the tables in order: the first that cannot be read or that the judge finds bad, whichever comes sooner.
use Rattle.std.proofs.Common.{◌≡◌, true, Ok, Err, inl, inr, refl, sym, ap, subst, rules, ◌∙◌}
use Rattle.std.proofs.lemmas.Bool.{both_ways}
use Rattle.sqlite_trees.specs.declared.store.Store.{Ghosts}
use Rattle.sqlite.specs.Effect.{Database}
use Rattle.sqlite.specs.Held.{Held, state}
use Rattle.exam_sql.specs.Made.{lists_marks}
use Rattle.exam_sql.specs.Texts.{load_office}
use Rattle.exam_sql.proofs.Listed.{newest_listed}
use Rattle.exam_types.specs.declared.refusal.Refusal.TheVariants.{BadStore, OldSchema}
use Rattle.exam_tables.specs.OurTables.{office_loads}
use Rattle.exam_tables.specs.Parts.{Loading, LoadingBy, Part, then_part, version_part}
use Rattle.exam_tables.specs.Versions.{HasVersion, version}
use Rattle.exam_tables.specs.declared.version.Version.{Version}
use Rattle.exam_tables.proofs.PartByPart.{all_load, by_queries, next_fails}
use Rattle.exam_store.proofs.Marking.{is_of, made_of, of_newest, older}
use Rattle.exam_commands.specs.Good.{tables}
use Rattle.exam_check.specs.Reading.{office_in, tables_part}
use Rattle.exam_check.specs.declared.reading.Tables.{Tables}
use Rattle.exam_check.proofs.First.{first_in}
use Rattle.exam_check.proofs.Found.{in_load_order}
use Rattle.exam_check.proofs.Looking.{looks_fails, looks_old, looks_on, looks_unmarked, read_newest, unread_newest}
use Rattle.exam_check.proofs.Looking.{version_looks}
use Rattle.exam_check.proofs.checking.first_bad.Goals as goal

abbrev both_part : Part (Version × Tables)
both_part = then_part version_part tables_part

module _ {S : Type 0} (g : Ghosts S) (old mid new : Held S) (v : Version) where
  read_version : LoadingBy load_office g old mid (Ok v) version_part → Loading g old mid (Ok v) version_part
  read_version = by_queries g old mid load_office office_loads (Ok v) version_part

  -- the version and the tables, of one set of rows
  read_both : (read : Tables) → LoadingBy load_office g old mid (Ok v) version_part
      → Loading g mid new (Ok read) tables_part → Loading g old new (Ok (v, read)) both_part
  read_both read first = all_load g old mid new version_part tables_part v (read_version first) read

pub returns-in_err-version-clause-looks : goal.returns-in_err-version-clause-looks
returns-in_err-version-clause-looks g c =
    let is : c.from_residual.result ≡ Err c.in_err-version.field-0.0 = search rules in
    rw is (version_looks g.S.Store c.args.conn.now c.version_of.new.conn c.in_err-version.field-0.0
    c.in_err-version.ensures.reads)

pub returns-then-version-clause-looks : goal.returns-then-version-clause-looks
returns-then-version-clause-looks g c =
    let v = c.in_ok-version.version in
    looks_old g.S.Store c.args.conn.now c.version_of.new.conn v c.in_ok-version.ensures.reads
    (older v.number c.in_ok-version.ensures.known.0 (search rules))

pub returns-in_err-read-clause-looks : goal.returns-in_err-read-clause-looks
returns-in_err-read-clause-looks g c =
    let is : c.from_residual-in_err-read.result ≡ Err c.in_err-read.field-0.0 = search rules in
    let db = (state g.S.Store c.args.conn.now).now in
    let both = next_fails g.S.Store c.args.conn.now c.version_of.new.conn c.read_tables.new.conn version_part
    tables_part
    c.in_ok-version.version
    (read_version g.S.Store c.args.conn.now c.version_of.new.conn c.read_tables.new.conn c.in_ok-version.version
    c.in_ok-version.ensures.reads)
    c.in_err-read.field-0.0 c.in_err-read.ensures in
    rw is (looks_fails g.S.Store c.args.conn.now c.read_tables.new.conn c.in_err-read.field-0.0
    both_part (λ all good. (
      (made_of version db all good.0, good.0.0),
      λ none. elim none [ inl of ↦ of version (inr refl) good.1 | inr of ↦ of ],
    )) both)

pub returns-in_err-bad-clause-looks : goal.returns-in_err-bad-clause-looks
returns-in_err-bad-clause-looks g c =
    let is : c.from_residual-in_err-bad.result ≡ Err c.in_err-bad.field-0.0 = search rules in
    let both = read_both g.S.Store c.args.conn.now c.version_of.new.conn c.read_tables.new.conn c.in_ok-version.version
    c.in_ok-read.read c.in_ok-version.ensures.reads c.in_ok-read.ensures in
    rw is (looks_on g.S.Store c.args.conn.now c.read_tables.new.conn _ both_part (Err c.in_err-bad.field-0.0) both
    c.in_err-bad.ensures.memory)

pub returns-clause-looks : goal.returns-clause-looks
returns-clause-looks g c =
    looks_on g.S.Store c.args.conn.now c.read_tables.new.conn _ both_part _
    (read_both g.S.Store c.args.conn.now c.version_of.new.conn c.read_tables.new.conn c.in_ok-version.version
    c.in_ok-read.read c.in_ok-version.ensures.reads c.in_ok-read.ensures) tt

pub returns-clause-understood : goal.returns-clause-understood
returns-clause-understood g c = λ clean.
    let both = read_both g.S.Store c.args.conn.now c.version_of.new.conn c.read_tables.new.conn c.in_ok-version.version
    c.in_ok-read.read c.in_ok-version.ensures.reads c.in_ok-read.ensures in
    let knows = both.understood clean in
    in_load_order (state g.S.Store c.args.conn.now).now knows.0 knows.1

pub returns-clause-found : goal.returns-clause-found
returns-clause-found g c = λ clean all was.
    let db = (state g.S.Store c.args.conn.now).now in
    let same = c.in_ok-version.ensures.reads.left (c.in_ok-read.ensures.early clean) in
    let newest : c.in_ok-version.version.number ≡ version = search rules in
    let marks : lists_marks db.schema ≡ true = ap (λ (db : Database). lists_marks db.schema) (sym same.0.now_is)
    ∙ (sym c.has_marks.ensures ∙ c.if-not-has_marks.false) in
    let contains = (is_of version db all marks was).0 in
    let both = read_both g.S.Store c.args.conn.now c.version_of.new.conn c.read_tables.new.conn c.in_ok-version.version
    c.in_ok-read.read c.in_ok-version.ensures.reads c.in_ok-read.ensures in
    let held = both.rows clean all (was, contains) in (
      (of_newest db all contains, subst (λ v. HasVersion v all) newest held.0),
      office_in c.in_ok-read.read,
      first_in all (office_in c.in_ok-read.read) c.in_ok-bad.bad c.in_ok-read.read.unread c.first_of.result tables
          held.1 c.in_ok-bad.ensures.ok c.first_of.ensures,
    )

-- ---- the names of the tables

pub returns-clause-listed : goal.returns-clause-listed
returns-clause-listed g c = λ clean.
    let same = c.in_ok-version.ensures.reads.left (c.in_ok-read.ensures.early clean) in
    newest_listed (state g.S.Store c.args.conn.now).now.schema c.in_ok-version.ensures.listed
    (ap (λ (db : Database). lists_marks db.schema) (sym same.0.now_is)
    ∙ (sym c.has_marks.ensures ∙ c.if-not-has_marks.false))

pub returns-then-not-has_marks-clause-looks : goal.returns-then-not-has_marks-clause-looks
returns-then-not-has_marks-clause-looks g c =
    looks_unmarked g.S.Store c.args.conn.now c.version_of.new.conn c.in_ok-version.version
    c.in_ok-version.ensures.reads (sym c.has_marks.ensures ∙ c.if-not-has_marks.true)

pub returns-in_err-version-clause-unlisted : goal.returns-in_err-version-clause-unlisted
returns-in_err-version-clause-unlisted g c = λ clean none.
    let is : c.from_residual.result ≡ Err c.in_err-version.field-0.0 = search rules in
    rw is (c.in_err-version.ensures.unlisted clean none)

pub returns-then-version-clause-unlisted : goal.returns-then-version-clause-unlisted
returns-then-version-clause-unlisted g c = λ clean none. absurd (both_ways _ none c.in_ok-version.ensures.listed)

pub returns-then-not-has_marks-clause-unlisted : goal.returns-then-not-has_marks-clause-unlisted
returns-then-not-has_marks-clause-unlisted g c = λ clean none. absurd (both_ways _ none c.in_ok-version.ensures.listed)

pub returns-in_err-read-clause-unlisted : goal.returns-in_err-read-clause-unlisted
returns-in_err-read-clause-unlisted g c = λ clean none. absurd (both_ways _ none c.in_ok-version.ensures.listed)

pub returns-in_err-bad-clause-unlisted : goal.returns-in_err-bad-clause-unlisted
returns-in_err-bad-clause-unlisted g c = λ clean none. absurd (both_ways _ none c.in_ok-version.ensures.listed)

-- an older version

pub returns-in_err-version-clause-newest : goal.returns-in_err-version-clause-newest
returns-in_err-version-clause-newest g c = λ clean.
    let is : c.from_residual.result ≡ Err c.in_err-version.field-0.0 = search rules in
    rw is (unread_newest g.S.Store c.args.conn.now c.version_of.new.conn c.in_err-version.field-0.0
    c.in_err-version.ensures.reads clean)

pub returns-then-version-clause-newest : goal.returns-then-version-clause-newest
returns-then-version-clause-newest g c = λ clean bad. let same : OldSchema ≡ BadStore = bad in absurd cc

pub returns-then-not-has_marks-clause-newest : goal.returns-then-not-has_marks-clause-newest
returns-then-not-has_marks-clause-newest g c = λ clean bad.
    let newest : c.in_ok-version.version.number ≡ version = search rules in
    read_newest g.S.Store c.args.conn.now c.version_of.new.conn c.in_ok-version.version c.in_ok-version.ensures.reads
    clean newest

pub returns-in_err-read-clause-newest : goal.returns-in_err-read-clause-newest
returns-in_err-read-clause-newest g c = λ clean.
    let is : c.from_residual-in_err-read.result ≡ Err c.in_err-read.field-0.0 = search rules in
    let newest : c.in_ok-version.version.number ≡ version = search rules in
    rw is (λ bad. read_newest g.S.Store c.args.conn.now c.version_of.new.conn c.in_ok-version.version
    c.in_ok-version.ensures.reads (c.in_err-read.ensures.early clean) newest)

pub returns-in_err-bad-clause-newest : goal.returns-in_err-bad-clause-newest
returns-in_err-bad-clause-newest g c = λ clean.
    let is : c.from_residual-in_err-bad.result ≡ Err c.in_err-bad.field-0.0 = search rules in
    let newest : c.in_ok-version.version.number ≡ version = search rules in
    rw is (λ bad. read_newest g.S.Store c.args.conn.now c.version_of.new.conn c.in_ok-version.version
    c.in_ok-version.ensures.reads (c.in_ok-read.ensures.early clean) newest)

pub returns-clause-newest : goal.returns-clause-newest
returns-clause-newest g c = λ clean.
    let newest : c.in_ok-version.version.number ≡ version = search rules in
    read_newest g.S.Store c.args.conn.now c.version_of.new.conn c.in_ok-version.version c.in_ok-version.ensures.reads
    (c.in_ok-read.ensures.early clean) newest
