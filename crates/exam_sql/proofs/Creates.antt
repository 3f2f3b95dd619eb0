-- What CREATE TABLE adds to the tables that are there.
use Rattle.exam_sql.proofs.Words.{AllByRecursion, list_all, not-true, IsPermutation-refl, Row, Trees, with_tree}
use Rattle.exam_sql.proofs.Words.{CreateTable, Schema, Table, all_has, all_from, test_has, Error, table_defined_by}
use Rattle.exam_sql.proofs.Words.{created, next_tree, Database, IsDatabase, Tally, lacks_sequence, understood, State}
use Rattle.exam_sql.proofs.Words.{Executes, Writes, IsPlain, command_of, statement_of, runs_as, places, Holds}
use Rattle.exam_sql.proofs.Words.{ContainsIn}
use Rattle.std.proofs.Common.{◌≡◌, ℕ, List, [], ◌∷◌, true, false, not, ◌==◌, Ok, Err, Result, OnOk, None, sym, ap}
use Rattle.std.proofs.Common.{subst, ◌∙◌}
use Rattle.sqlite_trees.proofs.ListLemmas.{all-append}
use Rattle.exam_sql.proofs.Statements.{went, same_value}
use Rattle.exam_sql.proofs.Changes.{set_here}

new_holds : (at : List ℕ) (kept rows : List Row) → kept ≡ [] → rows ≡ [] → Holds at kept rows
new_holds at kept rows a b = rw (a, b) (record { shaped = (tt, tt); same = IsPermutation-refl _ })

module _ (schema : Schema) (table : Table) (text : List ℕ) (is : command_of (understood schema text) ≡ CreateTable)
    (simple : IsPlain (understood schema text))
    (whole : statement_of text (understood schema text) ≡ text) (defined : table_defined_by text ≡ Ok table)
    (uncounted : lacks_sequence (created schema table) ≡ false)
    (fresh : list_all (λ t. not (t.tree == next_tree schema)) schema.tables ≡ true) where
  -- the new table is empty, and the others hold what they held
  pub create_by : (old new : State) (r : Result ℕ Error) → Executes text [] old new r
      → OnOk r ((all : Trees) → ContainsIn schema old.now all
      → ContainsIn (created schema table) new.now (with_tree all (next_tree schema) []))
  create_by old new (Err e) h = tt
  create_by old new (Ok count) h = λ all was.
      let w = subst (λ t. Writes old new None CreateTable t [] count) whole
      (runs_as text [] old new schema was.schema_is CreateTable is simple count h) in
      let all_parts = went w.changed in
      let first = went all_parts.1 in
      let made = first.1 in
      let both : Ok made.table ≡ Ok table = sym made.defined ∙ defined in
      let same : made.table ≡ table = cc in
      let now_schema : first.0.schema ≡ created schema table =
      made.is ∙ ap (λ s. created s made.table) was.schema_is ∙ ap (created schema) same in
      let none : lacks_sequence first.0.schema ≡ false = ap lacks_sequence now_schema ∙ uncounted in
      let now : new.now ≡ first.0 =
      ap (λ (p : Tally × Database). p.1) (same_value all_parts.2) ∙ same_value (rw none at first.2) in
      let empty : new.now.trees (next_tree schema) ≡ [] =
      ap (λ (d : Database). d.trees (next_tree schema)) now
      ∙ subst (λ s. first.0.trees (next_tree s) ≡ []) was.schema_is made.empty in
      let kept = subst (λ s. AllByRecursion (λ t. first.0.trees t.tree ≡ old.now.trees t.tree) s.tables) was.schema_is
      made.others in
      record {
        schema_is = ap (λ (d : Database). d.schema) now ∙ now_schema;
        rows = all-append (λ t. Holds (places t) (new.now.trees t.tree) (with_tree all (next_tree schema) [] t.tree))
            schema.tables (record table { tree = next_tree schema } ∷ [])
            (all_from _ schema.tables (λ t has.
            let apart : (t.tree == next_tree schema) ≡ false = not-true _ (test_has _ schema.tables t fresh has) in
            let rows_same : new.now.trees t.tree ≡ old.now.trees t.tree =
            ap (λ (d : Database). d.trees t.tree) now ∙ all_has _ schema.tables t kept has in
            rw apart (subst (λ l. Holds (places t) l (all t.tree)) (sym rows_same)
            (all_has _ schema.tables t was.rows has)))) (
              new_holds (places table) (new.now.trees (next_tree schema)) _ empty (set_here all (next_tree schema) []),
              tt,
            );
      }

  -- the database is sound after it
  pub sound_by : (old new : State) (count : ℕ) → old.now.schema ≡ schema → Executes text [] old new (Ok count)
      → IsDatabase new.now
  sound_by old new count has h = (runs_as text [] old new schema has CreateTable is simple count h).sound
