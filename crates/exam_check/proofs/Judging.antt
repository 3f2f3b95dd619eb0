-- No table is bad exactly where the tables of the newest version hold a good office.
use Rattle.std.proofs.Common.{◌≡◌, ◌≢◌, ◌⊎◌, List, [], ◌∷◌, Option, None, Some, false}
use Rattle.std.proofs.Common.{IsTrue, inl, inr, refl, sym, subst, ◌∙◌}
use Rattle.std.specs.Prelude.{option_map}
use Rattle.std.specs.Cmp.Derive.{both_true}
use Rattle.std.specs.List.{AllByRecursion}
use Rattle.std.specs.List.Sorted.{IsPermutation}
use Rattle.std.proofs.lemmas.Bool.{and_parts, both_ways}
use Rattle.std.proofs.lemmas.List.Sorted.{IsPermutation-sym, IsPermutation-trans}
use Rattle.sqlite_trees.specs.declared.store.Store.{Ghosts}
use Rattle.sqlite_trees.specs.Tree.{Trees}
use Rattle.sqlite_resolve.specs.declared.error.CompileError.TheVariants.{NoSuchTable, NoSuchColumn}
use Rattle.sqlite.specs.declared.error.Error.{Error}
use Rattle.sqlite.specs.declared.error.Error.TheVariants.{SqliteFailure, SqlInputError}
use Rattle.sqlite.specs.declared.error.ErrorCode.TheVariants.{OutOfMemory}
use Rattle.sqlite.specs.Effect.{Database}
use Rattle.sqlite.specs.Held.{Held, state}
use Rattle.sqlite.specs.State.{HasCleanDisk}
use Rattle.exam_rules.specs.Tables as fact
use Rattle.exam_types.specs.declared.refusal.Refusal.{Refusal}
use Rattle.exam_types.specs.declared.refusal.Refusal.TheVariants.{NoMemory, Store, BadStore}
use Rattle.exam_commands.specs.Good.{IsGood, IsTableGood, tables}
use Rattle.exam_commands.specs.State.{State}
use Rattle.exam_commands.specs.declared.table.Table.{Table as OfficeTable}
use Rattle.exam_sql.specs.Made.{ContainsMade, lists_newest}
use Rattle.exam_sql.specs.Tables.{store_schema}
use Rattle.exam_sql.proofs.Listed.{marks_newest, newest_listed, tables_listed}
use Rattle.exam_tables.specs.Faults.{refusal_of}
use Rattle.exam_tables.specs.Inside.{Contains}
use Rattle.exam_tables.specs.Versions.{HasVersion, version, version_row}
use Rattle.exam_tables.proofs.Versioned.{version_held}
use Rattle.exam_store.specs.Found.{Finds, FailsToOpen, HoldsGood}
use Rattle.exam_store.specs.Refused.{HoldsFormed, HoldsNone, IsGoodIn}
use Rattle.exam_store.proofs.Marking.{is_of, listed_of, made_of, no_older, of_newest, one_version}
use Rattle.exam_store.proofs.Unique.{one_office}
use Rattle.exam_check.specs.FirstBad.{HasGoodVersion, HoldsTableOf, IsFirstBadIn, IsFirstBadTable}
use Rattle.exam_check.specs.declared.tables.Table.{Table}
use Rattle.exam_check.specs.declared.tables.Table.TheVariants as table

-- ---- none of these tables is bad

abbrev AreGood : Trees → State → List OfficeTable → Type 0
AreGood all o = AllByRecursion (λ t. HoldsTableOf all o t × IsTableGood o t)

none_is_some : {X : Type 0} (x : X) → ◌≡◌ {A = Option X} None (Some x) → ⊥
none_is_some x is = cc

are_good : (all : Trees) (o : State) (ts : List OfficeTable) → IsFirstBadIn all o ts None → AreGood all o ts
are_good all o [] is = tt
are_good all o (t ∷ ts) (inl (bad, is)) = absurd (none_is_some t is)
are_good all o (t ∷ ts) (inr (held, good, more)) = ((held, good), are_good all o ts more)

none_bad : (all : Trees) (o : State) (ts : List OfficeTable) → AreGood all o ts → IsFirstBadIn all o ts None
none_bad all o [] good = refl
none_bad all o (t ∷ ts) good = inr (good.0.0, good.0.1, none_bad all o ts good.1)

no_table : (bad : Option OfficeTable) → None ≡ option_map table.Of bad → bad ≡ None
no_table None is = refl
no_table (Some t) is = absurd (none_is_some (table.Of t) is)

good_office : (all : Trees) (o : State) → AreGood all o tables → HoldsFormed all o × IsGood o
good_office all o (
  sessions,
  (papers, (halls, (openings, (candidates, (entries, (arrangements, (appeals, (standing, (seats, end))))))))),
) =
    let paper = and_parts _ _ papers.1 in
    let opening = and_parts _ _ openings.1 in
    let entry = and_parts _ _ entries.1 in
    let appeal = and_parts _ _ appeals.1.0 in (
      (
        elim [
          | fact.Sessions ↦ sessions.0
          | fact.Papers ↦ papers.0
          | fact.Halls ↦ halls.0
          | fact.Openings ↦ openings.0
          | fact.Candidates ↦ candidates.0
          | fact.Entries ↦ entries.0
          | fact.Arrangements ↦ arrangements.0
          | fact.Appeals ↦ appeals.0
          | fact.Standing ↦ standing.0
        ],
        seats.0,
      ),
      record {
        refer = both_true paper.1 (both_true opening.1 (both_true entry.1 (both_true arrangements.1 appeal.1)));
        limits = both_true sessions.1
            (both_true paper.0 (both_true halls.1
            (both_true opening.0 (both_true candidates.1 (both_true entry.0 appeal.0)))));
        single = appeals.1.1;
        marks = standing.1;
        best = seats.1;
      },
    )

office_good : (all : Trees) (o : State) → HoldsFormed all o → IsGood o → AreGood all o tables
office_good all o (facts, seats) good =
    let r = o.relations in
    let refer_1 = and_parts _ _ good.refer in
    let refer_2 = and_parts _ _ refer_1.1 in
    let refer_3 = and_parts _ _ refer_2.1 in
    let refer_4 = and_parts _ _ refer_3.1 in
    let limit_1 = and_parts _ _ good.limits in
    let limit_2 = and_parts _ _ limit_1.1 in
    let limit_3 = and_parts _ _ limit_2.1 in
    let limit_4 = and_parts _ _ limit_3.1 in
    let limit_5 = and_parts _ _ limit_4.1 in
    let limit_6 = and_parts _ _ limit_5.1 in (
      (facts fact.Sessions, limit_1.0),
      (
        (facts fact.Papers, both_true limit_2.0 refer_1.0),
        (
          (facts fact.Halls, limit_3.0),
          (
            (facts fact.Openings, both_true limit_4.0 refer_2.0),
            (
              (facts fact.Candidates, limit_5.0),
              (
                (facts fact.Entries, both_true limit_6.0 refer_3.0),
                (
                  (facts fact.Arrangements, refer_4.0),
                  (
                    (facts fact.Appeals, (both_true limit_6.1 refer_4.1, good.single)),
                    (
                      (facts fact.Standing, good.marks),
                      ((seats, good.best), tt),
                    ),
                  ),
                ),
              ),
            ),
          ),
        ),
      ),
    )

-- what is found of an office's tables is found of the database
pub found_as : (db : Database) (all : Trees) (bad : Option OfficeTable)
    → HasGoodVersion db all × (o : State) × IsFirstBadIn all o tables bad
    → IsFirstBadTable db all (option_map table.Of bad)
found_as db all bad (good, o, judged) = inr (good, o, bad, judged, refl)

pub holds_good : (db : Database) (all : Trees) → IsFirstBadTable db all None → HoldsGood version db all
holds_good db all (inl (wrong, is)) = absurd (none_is_some table.Office is)
holds_good db all (inr (good, o, bad, judged, is)) =
    let it = good_office all o (are_good all o tables (subst (IsFirstBadIn all o tables) (no_table bad is) judged)) in
    (good.0, good.1, o, it.0, (it.1, refl))

pub none_found : (db : Database) (all : Trees) → HoldsGood version db all → IsFirstBadTable db all None
none_found db all (contains, has, o, formed, good) =
    inr ((contains, has), o, None, none_bad all o tables (office_good all o formed good.0), refl)

-- ---- opening

-- each error is reported as one of three refusals
named : (error : Error) → (refusal_of error ≡ BadStore) ⊎ ((refusal_of error ≡ NoMemory) ⊎ (refusal_of error ≡ Store))
named (SqliteFailure OutOfMemory) = inr (inl refl)
named (SqlInputError NoSuchTable) = inl refl
named (SqlInputError NoSuchColumn) = inl refl
named _ = inr (inr refl)

-- two lists of rows of the table `office`, both as it has them
version_of_all : (db : Database) (one other : Trees) → Contains db one → Contains db other → HasVersion version one
    → HasVersion version other
unfolding store_schema
version_of_all db one other a b has =
    let same : IsPermutation (other 0) (one 0) =
    IsPermutation-trans _ _ _ (IsPermutation-sym _ _ b.rows.0.same) a.rows.0.same in
    version_held version (other 0) (version_row version ∷ []) (subst (IsPermutation (other 0)) has same) refl

module _ {S : Type 0} (g : Ghosts S) (old new : Held S) (all : Trees) where
  -- what is opened has no bad table
  pub accepted : (IsTrue (lists_newest (state g old).now.schema) → ContainsMade (state g old).now all) → (o : State)
      → HasCleanDisk (state g new) → Finds (state g old) (state g new) o → IsGood o
      → IsFirstBadTable (state g old).now all None
  accepted was o clean finds good =
      let db = (state g old).now in
      let listed = finds.listed clean in
      let contains = (is_of version db all (marks_newest db.schema listed) (was listed)).0 in
      let kept = finds.kept clean (all, contains) in
      none_found db all (
        of_newest db all contains,
        version_of_all db kept.all all kept.contains contains kept.version,
        o,
        finds.formed clean all contains,
        (good, refl),
      )

  none_held : (e : Refusal) → HoldsNone version all → HoldsGood version (state g old).now all → ⊥
  none_held e (inl none) (contains, has, o, formed, good) = none has
  none_held e (inr (inl none)) (contains, has, o, formed, good) = none o.relations formed.0
  none_held e (inr (inr (inl none))) (contains, has, o, formed, good) = none o.seats formed.1
  none_held e (inr (inr (inr (p, held, wrong)))) (contains, has, o, formed, good) =
      wrong (subst (IsGoodIn version) (one_office all o p formed held) good)

  -- what is refused has one, unless the refusal is `NoMemory` or `Store`
  pub refused : (e : Refusal) → FailsToOpen g old new e → e ≢ NoMemory → e ≢ Store
      → IsFirstBadTable (state g old).now all None → ⊥
  refused e (inl (inl lacks)) some sound none = some lacks
  refused e (inl (inr (inl (mid, still, text, loads, fails)))) some sound none = told fails.0.0 fails.0.1
    where
      was : ContainsMade (state g old).now all
      was = made_of version (state g old).now all (holds_good (state g old).now all none).0

      told : (error : Error) → e ≡ refusal_of error → ⊥
      told error is = elim (named error) [
        | inl bad ↦ fails.1 (all, subst (λ (db : Database). ContainsMade db all) (sym still.now) was) (is ∙ bad)
        | inr (inl lacks) ↦ some (is ∙ lacks)
        | inr (inr store) ↦ sound (is ∙ store)
      ]
  refused e (inl (inr (inr (is, (none, newest))))) some sound first =
      let good = holds_good (state g old).now all first in
      none_held e (none all good.0) good
  refused e (inr (is, old_one)) some sound first =
      let good = holds_good (state g old).now all first in
      let before = old_one all (made_of version (state g old).now all good.0) in
      absurd (no_older before.0 before.1 (one_version before.0 version all before.2 good.1))

  -- where one of the names is that of no table, nothing is opened, and the tables are not those of the newest version
  module _ (none : lists_newest (state g old).now.schema ≡ false) where
    pub not_opened : (o : State) → HasCleanDisk (state g new) → Finds (state g old) (state g new) o → ⊥
    not_opened o clean finds = both_ways _ none (finds.listed clean)

    pub office_bad : (found : Option Table) → IsFirstBadTable (state g old).now all found → found ≡ Some table.Office
    office_bad found (inl (wrong, is)) = is
    office_bad found (inr (good, o, bad, judged, is)) =
        let db = (state g old).now in
        let listed = newest_listed db.schema (tables_listed db all (made_of version db all good.0))
        (listed_of version db all good.0) in
        absurd (both_ways _ none listed)
