-- A statement whose rows would have what they refer to is refused by no foreign key.
use Rattle.exam_sql.proofs.Words.{Null, Row, Trees, with_tree, Term, Conflict, Upsert, Command, InsertOr, Delete}
use Rattle.exam_sql.proofs.Words.{Values, Enforced, Schema, Table, Refers, Error, Does, AtPlace, OnRows, Database}
use Rattle.exam_sql.proofs.Words.{understood, Task, Written, text_of, IsPlain, command_of, ContainsIn, put, delete}
use Rattle.exam_sql.proofs.Words.{IsKeyed, Refuses}
use Rattle.std.proofs.Common.{◌≡◌, inl, inr, ℕ, List, [], ◌∷◌, Some, None, Option, Ok, Err, Result, option_and_then}
use Rattle.std.proofs.Common.{slice_get, refl, sym, ap, subst, ◌∙◌}
use Rattle.sqlite_schema.specs.declared.schema.Among.TheVariants as among
use Rattle.sqlite.specs.Does.{WritesRows}
use Rattle.exam_sql.specs.Refusals.{RefusesRows, at_once, written_table}
use Rattle.exam_sql.proofs.Statements.{SetsRow, task, database_is}
use Rattle.exam_sql.proofs.Deletes.{TakesRow, taking}

-- a part that stopped at its first part
pub first_of : {B : Type 0} {First : Option Error → Type 0} (stop : Option Error)
    → ((s : Option Error) × First s × ◌≡◌ {A = Result B (Option Error)} (Err stop) (Err s)) → First stop
first_of {B} {First} stop it = let same : it.0 ≡ stop = cc in subst First same it.1

-- where the foreign keys hold after what is written, it stops before
stops_writing : (task : Task) (command : Command) (db : Trees) (stop : Option Error)
    → ((w : Written) → WritesRows task db command (Ok w) → Refers among.All task.schema w.trees)
    → OnRows task at_once None command db (Err stop) → WritesRows task db command (Err stop)
stops_writing task command db stop sound (inl it) = first_of {First = λ s. WritesRows task db command (Err s)} stop it
stops_writing task command db stop sound (inr (w, wrote, inl tested)) = absurd (tested.1.0 (sound w wrote))
stops_writing task command db stop sound (inr (w, wrote, inr (in_doubt, holds, inl returns))) =
    absurd (let e = returns.1 in cc)
stops_writing task command db stop sound (inr (w, wrote, inr (in_doubt, holds, inr ended))) =
    absurd (let e = ended.2 in cc)

module _ (schema : Schema) (at : ℕ) (table : Table) (key target : List ℕ)
    (keyed : IsKeyed schema at table key target) where
  abbrev pub IsOn : Command → Type 0
  IsOn command =
      (limit : Option ℕ) (params : Row) (text : List ℕ) (trees : Trees) (stop : Option Error)
      → Does limit at_once params (record { schema = schema; trees = trees }) text None command (Err stop)
      → OnRows (task schema at table key target keyed limit params) at_once None command trees (Err stop)

  pub on_insert : (way : Conflict) (clauses : List Upsert) (terms : List Term) (width : ℕ)
      → IsOn (InsertOr at way (Values terms width) clauses)
  on_insert way clauses terms width limit params text trees stop does =
      let command = InsertOr at way (Values terms width) clauses in
      subst (λ o. AtPlace (λ t. OnRows
      (record { limit = limit; keys = Enforced; schema = schema; table = t; params = params }) at_once None command
      trees) o (Err stop)) keyed.place does

  on_delete : (terms : List Term) → IsOn (Delete at (taking schema at table key target keyed terms table.tree))
  on_delete terms limit params text trees stop does =
      let command = Delete at (taking schema at table key target keyed terms table.tree) in
      subst (λ o. AtPlace (λ t. OnRows
      (record { limit = limit; keys = Enforced; schema = schema; table = t; params = params }) at_once None command
      trees) o (Err stop)) keyed.place does

  module _ (text : List ℕ) (command : Command) (is : command_of (understood schema text) ≡ command)
      (plain : IsPlain (understood schema text)) (on : IsOn command) (aims : written_table command ≡ Some at) where
    refused_rows : (limit : Option ℕ) (trees : Trees) (params : Row)
        → ((w : Written) → WritesRows (task schema at table key target keyed limit params) trees command (Ok w)
        → Refers among.All schema w.trees)
        → Refuses limit (record { schema = schema; trees = trees }) text params
        → RefusesRows limit (record { schema = schema; trees = trees }) text params
    refused_rows limit trees params sound (c, known, stop, does) =
        let its_plain : (c.returning ≡ None) × (c.formats ≡ []) = subst IsPlain known plain in
        let its_command : c.command ≡ command = sym (ap command_of known) ∙ is in
        let ran : Does limit at_once params (record { schema = schema; trees = trees }) (text_of text c) None command
        (Err stop) = rw (its_plain.0, its_command) at does in
        let task = task schema at table key target keyed limit params in
        let stopped = stops_writing task command trees stop sound (on limit params _ trees stop ran) in
        let place : option_and_then (slice_get schema.tables) (written_table c.command) ≡ Some table =
        ap (λ k. option_and_then (slice_get schema.tables) (written_table k)) its_command
        ∙ ap (option_and_then (slice_get schema.tables)) aims ∙ keyed.place in
        (c, known, stop, table, place, subst (λ k. WritesRows task trees k (Err stop)) (sym its_command) stopped)

  module _ (limit : Option ℕ) (db : Database) (all : Trees) (was : ContainsIn schema db all) where
    -- the database has this schema
    in_schema : db ≡ record { schema = schema; trees = db.trees }
    in_schema = database_is db was.schema_is refl

    within : (text : List ℕ) (params : Row)
        → (Refuses limit (record { schema = schema; trees = db.trees }) text params
        → RefusesRows limit (record { schema = schema; trees = db.trees }) text params) → Refuses limit db text params
        → RefusesRows limit db text params
    within text params narrow refused =
        subst (λ d. RefusesRows limit d text params) (sym in_schema)
        (narrow (subst (λ d. Refuses limit d text params) in_schema refused))

    held : ContainsIn schema (record { schema = schema; trees = db.trees }) all
    held = subst (λ d. ContainsIn schema d all) in_schema was

    -- A put after which the foreign keys hold is refused by none.
    pub put_refused : (text : List ℕ) (way : Conflict) (clauses : List Upsert) (terms : List Term) (width : ℕ)
        → command_of (understood schema text) ≡ InsertOr at way (Values terms width) clauses
        → IsPlain (understood schema text) → (params values : Row)
        → SetsRow schema at table key target keyed limit way clauses terms width params values
        → ((next : Database)
        → ContainsIn schema next (with_tree all table.tree (put key (Null ∷ values) (all table.tree)))
        → Refers among.All schema next.trees) → Refuses limit db text params → RefusesRows limit db text params
    put_refused text way clauses terms width is plain params values sets sound =
        within text params (refused_rows text _ is plain (on_insert way clauses terms width) refl limit db.trees params
        (λ w wrote. sound (record { schema = schema; trees = w.trees }) (sets db.trees w wrote all held)))

    -- A delete after which the foreign keys hold is refused by none.
    pub delete_refused : (text : List ℕ) (terms : List Term)
        → command_of (understood schema text) ≡ Delete at (taking schema at table key target keyed terms table.tree)
        → IsPlain (understood schema text) → (params : Row)
        → TakesRow schema at table key target keyed terms limit params
        → ((next : Database)
        → ContainsIn schema next (with_tree all table.tree (delete key (Null ∷ params) (all table.tree)))
        → Refers among.All schema next.trees) → Refuses limit db text params → RefusesRows limit db text params
    delete_refused text terms is plain params takes sound =
        within text params (refused_rows text _ is plain (on_delete terms) refl limit db.trees params
        (λ w wrote. sound (record { schema = schema; trees = w.trees }) (takes db.trees w wrote all held)))
