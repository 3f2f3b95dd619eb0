-- The text that loads a table.
use Rattle.std.specs.Prelude.{◌≡◌, ℕ, false, List, [], ◌∷◌, Some, slice_get}
use Rattle.sqlite_value.specs.declared.value.Value.TheVariants.{Null}
use Rattle.sqlite_value.specs.Order.{Row}
use Rattle.sqlite_trees.specs.Tree.{Trees}
use Rattle.sqlite_sql.specs.Term.{Term, eval_all}
use Rattle.sqlite_sql.specs.Program.{overlay}
use Rattle.sqlite_schema.specs.declared.command.Command.TheVariants.{Select}
use Rattle.sqlite_schema.specs.declared.schema.Schema.{Schema}
use Rattle.sqlite_schema.specs.declared.schema.Table.{Table}
use Rattle.sqlite.specs.Given.{IsPlain}
use Rattle.sqlite.specs.Listing.{understood, reads_listing}
use Rattle.sqlite.proofs.Callers.{command_of}
use Rattle.exam_sql.specs.Content.{places, bare}
use Rattle.exam_sql.specs.Plain.{one_table}

-- the text is a query that shows each column of the table with this tree, row by row
pub record IsLoad (schema : Schema) (tree : ℕ) (text : List ℕ) : Type 0 where
  pub at : ℕ
  pub table : Table
  pub project : List Term
  pub names : List (List ℕ)
  pub tree_is : table.tree ≡ tree
  pub place : slice_get schema.tables at ≡ Some table
  pub is : command_of (understood schema text)
      ≡ Select (record { lets = []; body = one_table table.tree [] project [] }) names
  pub plain : IsPlain (understood schema text)
  pub unlisted : reads_listing schema text ≡ false
  -- no query of its own stands for the table
  pub own : (db : Trees) → overlay db [] table.tree ≡ db table.tree
  pub shows : (r : Row) → Null ∷ eval_all project ([] ∷ r ∷ []) ≡ bare (places table) r
