-- What a text that puts or deletes a row does, why it fails, and that no foreign key refuses it if each row then has
-- what it refers to.
use Rattle.exam_sql.proofs.Words.{list_all, Value, Null, Int, Row, Trees, rowid, overlay, Term, col, eval_all, holds}
use Rattle.exam_sql.proofs.Words.{Command, InsertOr, Delete, Conflict, Abort, Replace, Values, Upsert, Schema, Table}
use Rattle.exam_sql.proofs.Words.{Error, Database, understood, shown, State, Executes, IsPlain, command_of, without_row}
use Rattle.exam_sql.proofs.Words.{ContainsIn, bare, places, same_key, same_rowid, IsKeyed, on_conflict, one_table}
use Rattle.exam_sql.proofs.Words.{Refuses, store_schema}
use Rattle.std.proofs.Common.{◌≡◌, ◌++◌, ◌/◌, ℕ, ℤ, true, List, [], ◌∷◌, length, Option, Result, OnOk, refl, subst}
use Rattle.sqlite.specs.Effect.{value_rows}
use Rattle.exam_sql.specs.Changes.{with_row}
use Rattle.exam_sql.specs.Refusals.{RefusesRows}
use Rattle.exam_sql.proofs.Deletes.{delete_by, delete_takes}
use Rattle.exam_sql.proofs.Failing.{Answers, answers}
use Rattle.exam_sql.proofs.StatementFails.{IsWhole}
use Rattle.exam_sql.proofs.Fits.{Fits}
use Rattle.exam_sql.proofs.KeysHold.{delete_refused, put_refused}
use Rattle.exam_sql.proofs.References.{AllRefer, refers}
use Rattle.exam_sql.proofs.Statements.{SetsRow, put_sets, sets_by, upsert_sets}

-- the text, with these parameters, makes this of the rows
pub record Edits (change : Trees → Trees) (text : List ℕ) (params : Row) : Type 1 where
  pub does : (old new : State) (r : Result ℕ Error) → Executes text params old new r
      → OnOk r ((all : Trees) → ContainsIn store_schema old.now all → ContainsIn store_schema new.now (change all))
  pub answers : (old new : State) → old.now.schema ≡ store_schema → Answers text params old new
  -- if each row then has what it refers to, no foreign key refuses it
  pub narrows : (limit : Option ℕ) (db : Database) (all : Trees) → ContainsIn store_schema db all
      → AllRefer (change all) → Refuses limit db text params → RefusesRows limit db text params

-- the text is this one statement, with so many parameters
abbrev pub Means : Schema → List ℕ → Command → ℕ → Type 0
Means schema text command count =
    (command_of (understood schema text) ≡ command) × IsPlain (understood schema text)
    × IsWhole text count (understood schema text)

-- The text puts the row into the table of this tree, in the place of the row with its key if there is one.
pub record PutsRow (tree : ℕ) (key : List ℕ) (text : List ℕ) (row : Row) : Type 0 where
  pub at : ℕ
  pub table : Table
  pub tree_is : table.tree ≡ tree
  pub target : List ℕ
  pub keyed : IsKeyed store_schema at table key target
  pub way : Conflict
  pub clauses : List Upsert
  pub terms : List Term
  pub width : ℕ
  pub means : Means store_schema text (InsertOr at way (Values terms width) clauses) (length row)
  pub sets : (limit : Option ℕ) → SetsRow store_schema at table key target keyed limit way clauses terms width row row

-- so it does no more than that
pub put_edits : {tree : ℕ} {key : List ℕ} {text : List ℕ} {row : Row} → PutsRow tree key text row
    → Edits (with_row tree key row) text row
put_edits {tree} {key} {text} {row} puts = subst (λ n. Edits (with_row n key row) text row) puts.tree_is (record {
  does = λ old new r h. sets_by store_schema puts.at puts.table key puts.target puts.keyed puts.way puts.clauses text
      puts.terms puts.width puts.means.0 puts.means.1 old new row row r puts.sets h;
  answers = λ old new has. answers text row old new store_schema has _ puts.means.0 tt puts.means.1 puts.means.2;
  narrows = λ limit db all was all_refer.
      put_refused store_schema puts.at puts.table key puts.target puts.keyed limit db all was text puts.way
      puts.clauses puts.terms puts.width puts.means.0 puts.means.1 row row (puts.sets limit)
      (λ next holds. refers next _ holds all_refer);
})

module _ {at : ℕ} {table : Table} {key target : List ℕ} (keyed : IsKeyed store_schema at table key target)
    (text : List ℕ) (terms : List Term) where
  module _ (width : ℕ) (first : Value) (columns row : Row) (fits : Fits table key first columns row)
      (source : value_rows row width (length terms / width) terms ≡ (first ∷ columns) ∷ []) where
    -- INSERT OR REPLACE
    pub replaces : Means store_schema text (InsertOr at Replace (Values terms width) []) (length row)
        → PutsRow table.tree key text row
    replaces means = record {
      at = at;
      table = table;
      tree_is = refl;
      target = target;
      keyed = keyed;
      way = Replace;
      clauses = [];
      terms = terms;
      width = width;
      means = means;
      sets = λ limit. put_sets store_schema at table key target keyed limit terms width row first columns row fits
          source;
    }

    -- INSERT .. ON CONFLICT .. DO UPDATE
    pub upserts : (filter project : List Term)
        → Means store_schema text
        (InsertOr at Abort (Values terms width) (on_conflict target table.tree filter project ∷ [])) (length row)
        → ((db : Trees) → overlay db [] table.tree ≡ db table.tree)
        → ((t r : Row) (id : ℤ)
        → list_all (holds ((row ++ rowid t ∷ shown table (Int id ∷ columns)) ∷ r ∷ [])) filter ≡ same_rowid r t)
        → ((t : Row) (id : ℤ) → same_key key (bare (places table) t) (Null ∷ row) ≡ true
        → eval_all project ((row ++ rowid t ∷ shown table (Int id ∷ columns)) ∷ t ∷ []) ≡ rowid t ∷ rowid t
        ∷ columns) → PutsRow table.tree key text row
    upserts filter project means own picked written = record {
      at = at;
      table = table;
      tree_is = refl;
      target = target;
      keyed = keyed;
      way = Abort;
      clauses = on_conflict target table.tree filter project ∷ [];
      terms = terms;
      width = width;
      means = means;
      sets = λ limit. upsert_sets store_schema at table key target keyed limit terms width filter project own row first
          columns row fits source picked written;
    }

  -- DELETE by the key
  pub removes : (params : Row)
      → Means store_schema text (Delete at (record { lets = []; body = one_table table.tree terms (col 1 0 ∷ []) [] }))
      (length params) → ((db : Trees) → overlay db [] table.tree ≡ db table.tree)
      → ((r : Row) → list_all (holds (params ∷ r ∷ [])) terms ≡ same_key key (bare (places table) r) (Null ∷ params))
      → Edits (without_row table.tree key params) text params
  removes params means own picked = record {
    does = λ old new r h. delete_by store_schema at table key target keyed terms text means.0 means.1 own old new
        params r picked h;
    answers = λ old new has. answers text params old new store_schema has _ means.0 tt means.1 means.2;
    narrows = λ limit db all was all_refer.
        delete_refused store_schema at table key target keyed limit db all was text terms means.0 means.1 params
        (delete_takes store_schema at table key target keyed terms limit own params picked)
        (λ next holds. refers next _ holds all_refer);
  }
