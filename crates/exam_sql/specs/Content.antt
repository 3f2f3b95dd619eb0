-- What a table holds: its rows in any order, read by columns, with NULL in the place of each rowid.
use Rattle.std.specs.Prelude.{◌≡◌, ℕ, Bool, not, List, [], ◌∷◌, map, filter, length}
use Rattle.std.specs.Prelude.{IsPermutation}
use Rattle.std.specs.List.{range_with_len, AllByRecursion}
use Rattle.sqlite_value.specs.declared.value.Value.TheVariants.{Null}
use Rattle.sqlite_value.specs.Order.{Row, column}
use Rattle.sqlite_value.specs.Keys.{plain}
use Rattle.sqlite_trees.specs.declared.store.Shape.TheVariants.{Table as TableShape}
use Rattle.sqlite_trees.specs.Tree.{Trees}
use Rattle.sqlite_trees.specs.View.{IsShaped}
use Rattle.sqlite_schema.specs.Names.{place_of}
use Rattle.sqlite_schema.specs.Rules.{agree}
use Rattle.sqlite_schema.specs.declared.schema.Table.{Table}
use Rattle.sqlite_schema.specs.declared.schema.Schema.{Schema}
use Rattle.sqlite.specs.Effect.{Database}

-- the place in a stored row of the value of each column; a column that is the rowid is at 0
abbrev pub places : Table → List ℕ
places table = map (place_of table) (range_with_len 0 (length table.columns))

-- A row may lack its last columns, which read as NULL.
abbrev pub bare : List ℕ → Row → Row
bare places row = Null ∷ map (column row) places

-- the stored rows `kept`, read by columns and in any order, are `rows`
pub record Holds (places : List ℕ) (kept rows : List Row) : Type 0 where
  -- the rowids are numbers that rise, so none comes twice
  pub shaped : IsShaped TableShape kept
  pub same : IsPermutation (map (bare places) kept) rows

-- Each table of the schema has these rows: `all` gives the rows of each of its trees, read by columns.
pub record ContainsIn (schema : Schema) (db : Database) (all : Trees) : Type 0 where
  pub schema_is : db.schema ≡ schema
  pub rows : AllByRecursion (λ t. Holds (places t) (db.trees t.tree) (all t.tree)) schema.tables

-- the row replaces the row with its key
abbrev pub put : List ℕ → Row → List Row → List Row
put key row rows = row ∷ filter (λ r. not (agree plain key r key row)) rows

-- the rows without those that have the key of this one
abbrev pub delete : List ℕ → Row → List Row → List Row
delete key row rows = filter (λ r. not (agree plain key r key row)) rows

-- both rows have the same key, as SQL compares
abbrev pub same_key : List ℕ → Row → Row → Bool
same_key key a b = agree plain key a key b

-- both stored rows have the same rowid, as SQL compares
abbrev pub same_rowid : Row → Row → Bool
same_rowid a b = agree plain (0 ∷ []) a (0 ∷ []) b
