-- What is loaded from tables, and what a call that only reads them answers and leaves.
use Rattle.std.specs.Prelude.{◌≡◌, ◌⊎◌, ℕ, IsTrue, List, Option, Result, IfOk, IfErr}
use Rattle.std.specs.declared.cmp.Ordering.{Ordering}
use Rattle.std.specs.BTreeMap.{BTreeMap}
use Rattle.sqlite_trees.specs.Tree.{Trees}
use Rattle.sqlite_trees.specs.declared.store.Store.{Ghosts}
use Rattle.sqlite.specs.Effect.{Database}
use Rattle.sqlite.specs.Held.{Held, state}
use Rattle.sqlite.specs.State.{HasCleanDisk, IsUnchanged, Survives}
use Rattle.exam_types.specs.declared.refusal.Refusal.{Refusal}
use Rattle.exam_types.specs.declared.refusal.Refusal.TheVariants.{BadStore}
use Rattle.exam_sql.specs.Made.{ContainsMade, lists_marks}
use Rattle.exam_sql.specs.Texts.{fact_texts, load_office, load_standing}
use Rattle.exam_rules.specs.Relations.{Code, Relations, relations_of}
use Rattle.exam_rules.specs.declared.facts.Facts.{Facts}
use Rattle.exam_tables.specs.Faults.{is_store_refusal}
use Rattle.exam_tables.specs.Forms.{Form, standing}
use Rattle.exam_tables.specs.Held.{HoldsRelations}
use Rattle.exam_tables.specs.Loaded.{AreUnderstood, FailsThenFrom, FailsToLoadFrom, HoldsTable, IsLoadRefusal}
use Rattle.exam_tables.specs.Loaded.{IsUnderstood, OnlyReads}
use Rattle.exam_tables.specs.Scanned.{IsReadAs}
use Rattle.exam_tables.specs.Versions.{HasVersion, IsVersion}
use Rattle.exam_tables.specs.declared.version.Version.{Version}

-- what is loaded from some of the tables: values of this type
pub record Part (A : Type 0) : Type 1 where
  -- the databases from which it can be loaded, with the rows of their tables
  pub Holds : Database → Trees → Type 0
  -- the rows are those of this value
  pub Has : A → Database → Trees → Type 0
  -- no such value has the rows
  pub HasNone : Database → Trees → Type 0
  -- the database understands the texts that load this value
  pub Understands : A → Database → Type 0

-- one table
abbrev pub table_part : {K X : Type 0} → (K → K → Ordering) → Form K X → Part (BTreeMap K X)
table_part {K} {X} cmp form = record {
  Holds = form.Holds;
  Has = λ table db all. HoldsTable cmp form.IsRow form.row table.entries (all form.tree);
  HasNone = λ db all. (entries : List (K × X)) → HoldsTable cmp form.IsRow form.row entries (all form.tree) → ⊥;
  Understands = λ table db. IsUnderstood db form.load;
}

-- one table, or none if its rows are those of no entries
abbrev pub scanned_part : {K X : Type 0} → (K → K → Ordering) → Form K X → Part (Option (BTreeMap K X))
scanned_part cmp form = record {
  Holds = form.Holds;
  Has = λ found db all. IsReadAs cmp form (all form.tree) found;
  HasNone = λ db all. ⊥;
  Understands = λ found db. IsUnderstood db form.load;
}

-- the marks; version 1 has no table for them
abbrev pub marks_part : Part (BTreeMap (ℕ × Code) (Unit {0}))
marks_part = record (table_part standing.cmp standing) {
  Holds = ContainsMade;
  Understands = λ marks db. IsTrue (lists_marks db.schema) → IsUnderstood db load_standing;
}

-- some tables, and then more
abbrev pub then_part : {A B : Type 0} → Part A → Part B → Part (A × B)
then_part one more = record {
  Holds = λ db all. one.Holds db all × more.Holds db all;
  Has = λ rows db all. one.Has rows.0 db all × more.Has rows.1 db all;
  HasNone = λ db all. one.HasNone db all ⊎ more.HasNone db all;
  Understands = λ rows db. one.Understands rows.0 db × more.Understands rows.1 db;
}

-- the facts of an office
abbrev pub facts_part : Part Facts
facts_part = record {
  Holds = ContainsMade;
  Has = λ facts db all. HoldsRelations all (relations_of facts);
  HasNone = λ db all. (r : Relations) → HoldsRelations all r → ⊥;
  Understands = λ facts db.
      AreUnderstood db fact_texts × (IsTrue (lists_marks db.schema) → IsUnderstood db load_standing);
}

-- the version of an office
abbrev pub version_part : Part Version
version_part = record {
  Holds = ContainsMade;
  Has = λ v db all. HasVersion v.number all;
  HasNone = λ db all. (v : ℕ) → IsVersion v → HasVersion v all → ⊥;
  Understands = λ v db. IsUnderstood db load_office;
}

-- What a call that only reads the tables of a part answers and leaves. `Fails` says how a query fails.
pub record LoadsOr {S A : Type 0} (Fails : Refusal → Type 0) (g : Ghosts S) (old new : Held S)
    (result : Result A Refusal) (part : Part A) : Type 0 where
  pub rows : HasCleanDisk (state g new) → IfOk result (λ value. (all : Trees)
      → part.Holds (state g old).now all → part.Has value (state g old).now all)
  pub bad : HasCleanDisk (state g new) → IfErr result (IsLoadRefusal Fails
      ((all : Trees) → part.Holds (state g old).now all → part.HasNone (state g old).now all))
  pub left : HasCleanDisk (state g new) → OnlyReads (state g old) (state g new) result
  pub unchanged : HasCleanDisk (state g new) → IfErr result (λ e. e ≡ BadStore
      → IsUnchanged (state g old) (state g new))
  pub understood : HasCleanDisk (state g new) → IfOk result (λ value. part.Understands value (state g old).now)
  pub survives : Survives (state g old) (state g new) (λ _. ⊥)
  pub early : HasCleanDisk (state g new) → HasCleanDisk (state g old)
  pub told : IfErr result (λ e. IsTrue (is_store_refusal e))

-- by queries one after the other: one fails while the database is still as it was
abbrev pub Loading : {S A : Type 0} → Ghosts S → Held S → Held S → Result A Refusal → Part A → Type 0
Loading g old new result part = LoadsOr (FailsThenFrom part.Holds g old new) g old new result part

-- by the query of this text
abbrev pub LoadingBy : {S A : Type 0} → List ℕ → Ghosts S → Held S → Held S → Result A Refusal → Part A → Type 0
LoadingBy text g old new result part =
    LoadsOr (FailsToLoadFrom part.Holds text (state g old) (state g new)) g old new result part
