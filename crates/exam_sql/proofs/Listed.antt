-- The tables of each version are tables of its schema.
use Rattle.exam_sql.proofs.Words.{list_all, and_parts, Schema, Trees, Database, made_schema, first_schema, store_schema}
use Rattle.std.proofs.Common.{◌≡◌, ◌&&◌, ◌||◌, codes, Bool, true, false, refl, ap, ◌∙◌}
use Rattle.sqlite_schema.specs.Names.{same_name}
use Rattle.exam_sql.specs.Made.{ContainsMade, first_names, is_free, is_table, lists_marks, lists_newest, lists_tables}

made_listed : (has_marks : Bool) → lists_tables (made_schema has_marks) ≡ true
unfolding store_schema first_schema same_name lists_tables
made_listed true = refl
made_listed false = refl

pub tables_listed : (db : Database) (all : Trees) → ContainsMade db all → lists_tables db.schema ≡ true
tables_listed db all was = ap lists_tables was.contains.schema_is ∙ made_listed was.has_marks

-- ---- what is asked of the names, one after the other

module _ (s : Schema) where
  abbrev free : Bool
  free = is_free s (codes "standing")

  pub listed_with_marks : list_all (is_table s) first_names ≡ true → lists_marks s ≡ true → lists_tables s ≡ true
  unfolding lists_tables
  listed_with_marks tables marks = ap (λ t. t && (lists_marks s || free)) tables ∙ ap (λ m. m || free) marks

  pub listed_if_free : list_all (is_table s) first_names ≡ true → lists_marks s ≡ false → lists_tables s ≡ free
  unfolding lists_tables
  listed_if_free tables none = ap (λ t. t && (lists_marks s || free)) tables ∙ ap (λ m. m || free) none

  pub not_listed : list_all (is_table s) first_names ≡ false → lists_tables s ≡ false
  unfolding lists_tables
  not_listed none = ap (λ t. t && (lists_marks s || free)) none

  -- the tables of version 1, and that of the marks
  pub newest_listed : lists_tables s ≡ true → lists_marks s ≡ true → lists_newest s ≡ true
  unfolding lists_tables lists_newest
  newest_listed listed marks = ap (λ t. t && lists_marks s) (and_parts _ _ listed).0 ∙ marks

  pub marks_newest : lists_newest s ≡ true → lists_marks s ≡ true
  unfolding lists_newest
  marks_newest newest = (and_parts _ _ newest).1

  pub listed_newest : lists_newest s ≡ true → lists_tables s ≡ true
  unfolding lists_newest
  listed_newest newest = let both = and_parts _ _ newest in listed_with_marks both.0 both.1
