-- A table that has one key and no action on its rows.
use Rattle.std.specs.Prelude.{◌≡◌, bytes_eq, ℕ, true, false, not, ◌||◌, ◌==◌, List, [], Some, None, slice_get}
use Rattle.std.specs.List.{AllByRecursion, list_all}
use Rattle.sqlite_value.specs.Order.{Row}
use Rattle.sqlite_trees.specs.declared.store.Shape.TheVariants.{Table as TableShape}
use Rattle.sqlite_trees.specs.Tree.{Trees}
use Rattle.sqlite_trees.specs.View.{IsShaped}
use Rattle.sqlite_schema.specs.declared.schema.Constraint.TheVariants.{Unique}
use Rattle.sqlite_schema.specs.declared.schema.Keys.TheVariants.{Enforced}
use Rattle.sqlite_schema.specs.declared.schema.Schema.{Schema}
use Rattle.sqlite_schema.specs.declared.schema.Table.{Table}
use Rattle.sqlite_schema.specs.Rules.{passes}
use Rattle.sqlite_rules.specs.Keys.{conflicts}
use Rattle.sqlite_rules.specs.Action.{works}
use Rattle.sqlite_rules.specs.Lists.{Has}
use Rattle.exam_sql.specs.Content.{places, bare, same_key, same_rowid}

-- if each row of the table passes UNIQUE, no two rows have the same key
abbrev pub IsAlone : Schema → Table → List ℕ → Type 0
IsAlone schema table key =
    (db : Trees) → IsShaped TableShape (db table.tree)
    → AllByRecursion (λ row. passes Unique schema db table row ≡ true) (db table.tree)
    → (r s : Row) → Has (db table.tree) r → Has (db table.tree) s
    → same_key key (bare (places table) r) (bare (places table) s) ≡ true → r ≡ s

-- `key` has the places of the key among the columns, from 1, and `target` its places in a stored row.
pub record IsKeyed (schema : Schema) (at : ℕ) (table : Table) (key target : List ℕ) : Type 0 where
  pub place : slice_get schema.tables at ≡ Some table
  pub uncounted : table.is_counted ≡ false
  pub unstamped : table.stamps.terms ≡ []
  -- all tables with this tree are read alike
  pub apart :
      list_all (λ t. not (t.tree == table.tree) || bytes_eq (places t) (places table)) schema.tables ≡ true
  -- a row conflicts with one that has its rowid or its key
  pub barred : (a b : Row)
      → conflicts None schema.indexes table b a
      ≡ (same_rowid a b || same_key key (bare (places table) a) (bare (places table) b))
  -- ON CONFLICT with the key finds the rows with the key
  pub aimed : (a b : Row)
      → conflicts (Some target) schema.indexes table b a
      ≡ same_key key (bare (places table) a) (bare (places table) b)
  pub alone : IsAlone schema table key
  -- no foreign key to the table changes or deletes rows
  pub still : (olds news : List Row) → works schema Enforced 0 table.tree olds news ≡ []
