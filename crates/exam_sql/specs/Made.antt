-- The databases that this product has made: with the table of marks, or without it, as they were in version 1.
use Rattle.std.specs.Prelude.{◌≡◌, ◌&&◌, ◌||◌, ℕ, List, [], codes, is_some, Bool, true, false, map, not}
use Rattle.std.specs.List.{list_all}
use Rattle.sqlite_trees.specs.Tree.{Trees}
use Rattle.sqlite_schema.specs.declared.schema.Schema.{Schema}
use Rattle.sqlite_schema.specs.Names.{index_named, table_named, view_named}
use Rattle.sqlite.specs.Effect.{Database}
use Rattle.exam_sql.specs.Content.{ContainsIn}
use Rattle.exam_sql.specs.Tables.{first_schema, first_tables, store_schema}

-- the schema with the table of marks, or without it
abbrev pub made_schema : Bool → Schema
made_schema true = store_schema
made_schema false = first_schema

-- The name is that of a table of the schema, whatever the case of its letters. A query on the name then reads this
-- table, and no view.
abbrev pub is_table : Schema → List ℕ → Bool
is_table schema name = is_some (table_named schema name)

-- nothing in the schema has the name
abbrev pub is_free : Schema → List ℕ → Bool
is_free schema name =
    not (is_table schema name)
    && (not (is_some (index_named schema name)) && not (is_some (view_named schema name)))

-- the table of marks is one of those of the schema
abbrev pub lists_marks : Schema → Bool
lists_marks schema = is_table schema (codes "standing")

-- the names of the tables of version 1
abbrev pub first_names : List (List ℕ)
first_names = map (λ d. d.table.name) first_tables

-- The tables of version 1 are tables of the schema, and so is that of the marks, or nothing has its name.
unfoldable pub lists_tables : Schema → Bool
lists_tables schema =
    list_all (is_table schema) first_names && (lists_marks schema || is_free schema (codes "standing"))

-- the eleven names are those of tables
unfoldable pub lists_newest : Schema → Bool
lists_newest schema = list_all (is_table schema) first_names && lists_marks schema

-- The tables that exist have these rows. If there is no table of marks, there are no marks.
pub record ContainsMade (db : Database) (all : Trees) : Type 0 where
  pub has_marks : Bool
  pub contains : ContainsIn (made_schema has_marks) db all
  pub unmarked : has_marks ≡ false → all 17 ≡ []
