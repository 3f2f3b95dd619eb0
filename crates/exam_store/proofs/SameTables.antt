-- Two databases that keep one office have the same tables.
use Rattle.std.proofs.Common.{List, [], ◌∷◌}
use Rattle.std.specs.List.{AllByRecursion}
use Rattle.std.specs.List.Sorted.{IsPermutation}
use Rattle.std.proofs.lemmas.List.Sorted.{IsPermutation-refl, IsPermutation-sym, IsPermutation-trans}
use Rattle.sqlite_value.specs.Order.{Row}
use Rattle.sqlite_trees.specs.Tree.{Trees}
use Rattle.sqlite_schema.specs.declared.schema.Table.{Table}
use Rattle.sqlite.specs.Effect.{Database}
use Rattle.exam_rules.specs.Tables as table
use Rattle.exam_sql.specs.Content.{Holds, places}
use Rattle.exam_sql.specs.Tables as tables
use Rattle.exam_sql.specs.Tables.{store_schema}
use Rattle.exam_commands.specs.State.{State}
use Rattle.exam_tables.specs.Inside.{Contains}
use Rattle.exam_store.specs.Kept.{HaveSameTables, Keeps}

-- what one database holds, another with the same rows holds too
carried : (tables : List Table) (here there one other all : Trees)
    → AllByRecursion (λ t. IsPermutation (one t.tree) (other t.tree)) tables
    → AllByRecursion (λ t. Holds (places t) (here t.tree) (one t.tree)) tables
    → AllByRecursion (λ t. Holds (places t) (there t.tree) (other t.tree)) tables
    → AllByRecursion (λ t. Holds (places t) (here t.tree) (all t.tree)) tables
    → AllByRecursion (λ t. Holds (places t) (there t.tree) (all t.tree)) tables
carried [] here there one other all same of_here of_there meant = tt
carried (t ∷ tables) here there one other all same of_here of_there meant = (
  record {
    shaped = of_there.0.shaped;
    same = IsPermutation-trans _ _ _ of_there.0.same
        (IsPermutation-trans _ _ _ (IsPermutation-sym _ _ same.0)
        (IsPermutation-trans _ _ _ (IsPermutation-sym _ _ of_here.0.same) meant.0.same));
  },
  carried tables here there one other all same.1 of_here.1 of_there.1 meant.1,
)

-- what holds of each of the eleven tables
each_table : (P : Table → Type 0) → P tables.office.table → P tables.session.table → P tables.paper.table
    → P tables.hall.table → P tables.candidate.table → P tables.opening.table → P tables.entry.table
    → P tables.arrangement.table → P tables.appeal.table → P tables.seat.table → P tables.standing.table
    → AllByRecursion P store_schema.tables
unfolding store_schema
each_table P office session paper hall candidate opening entry arrangement appeal seat standing = (
  office,
  (
    session,
    (
      paper,
      (hall, (candidate, (opening, (entry, (arrangement, (appeal, (seat, (standing, tt)))))))),
    ),
  ),
)

both : (xs ys rows : List Row) → IsPermutation xs rows → IsPermutation ys rows → IsPermutation xs ys
both xs ys rows here there = IsPermutation-trans xs rows ys here (IsPermutation-sym ys rows there)

module _ (here there : Database) (office : State) (one : Keeps here office) (other : Keeps there office) where
  same_rows : AllByRecursion (λ t. IsPermutation (one.all t.tree) (other.all t.tree)) store_schema.tables
  same_rows =
      let x = one.held.facts in
      let y = other.held.facts in
      each_table (λ t. IsPermutation (one.all t.tree) (other.all t.tree))
      (rw (one.version, other.version) (IsPermutation-refl _)) (both _ _ _ (x table.Sessions) (y table.Sessions))
      (both _ _ _ (x table.Papers) (y table.Papers)) (both _ _ _ (x table.Halls) (y table.Halls))
      (both _ _ _ (x table.Candidates) (y table.Candidates))
      (both _ _ _ (x table.Openings) (y table.Openings)) (both _ _ _ (x table.Entries) (y table.Entries))
      (both _ _ _ (x table.Arrangements) (y table.Arrangements))
      (both _ _ _ (x table.Appeals) (y table.Appeals)) (both _ _ _ one.held.seats other.held.seats)
      (both _ _ _ (x table.Standing) (y table.Standing))

  over : (all : Trees) → Contains here all → Contains there all
  over all meant = record {
    schema_is = other.contains.schema_is;
    rows =
        carried store_schema.tables here.trees there.trees one.all other.all all same_rows one.contains.rows
        other.contains.rows meant.rows;
  }

pub same_tables : (here there : Database) (office : State) → Keeps here office → Keeps there office
    → HaveSameTables here there
same_tables here there office one other =
    record {
      ours = (one.all, one.contains);
      same = λ all. (over here there office one other all, over there here office other one all);
    }
