-- The tables are made one after another.
use Rattle.exam_tables.proofs.Words.{Bor, IsPermutation, both_ways, cases_Bool, IsPermutation-refl, Row, Trees, Held}
use Rattle.exam_tables.proofs.Words.{state, Database, Error, State, HasCleanDisk, Survives, survives_then, Refusal}
use Rattle.exam_tables.proofs.Words.{NoMemory, made, HasFirst, HasNoRows, HasRuled, IsBlank, Leads, FailsToMake}
use Rattle.std.proofs.Common.{◌≡◌, ◌==◌, ◌≤◌, ◌<◌, IsSome, false, inl, inr, ℕ, get_or, length, map, pos, List, [], ◌∷◌}
use Rattle.std.proofs.Common.{Ok, Err, Result, IfErr, refl, subst, sym, ap, arith, ◌∙◌}
use Rattle.std.proofs.lemmas.Bool.{eqb-true}
use Rattle.std.proofs.lemmas.List.{get_or-map, length-map}
use Rattle.sqlite_value.specs.declared.value.Value.TheVariants.{Int}
use Rattle.sqlite_trees.specs.Tree.{with_tree}
use Rattle.sqlite_trees.proofs.ListLemmas.{all_of}
use Rattle.sqlite_schema.specs.declared.schema.Schema.{Schema}
use Rattle.sqlite_trees.specs.declared.memory.MemStore.{MemStore}
use Rattle.sqlite.specs.Held.{IsNew}
use Rattle.sqlite.specs.Steps.{over_memory, IsEmpty}
use Rattle.sqlite.specs.State.{Executes, ExecutesInside}
use Rattle.sqlite.proofs.InsideLemmas.{keeps_then}
use Rattle.exam_sql.specs.Content.{ContainsIn}
use Rattle.exam_sql.specs.Refusals.{Fails}
use Rattle.exam_sql.specs.Tables as tables
use Rattle.exam_sql.specs.Tables.{Described, first_tables, store_schema}
use Rattle.exam_sql.proofs.Changes.{contains_same}
use Rattle.exam_sql.proofs.AllTables.{first_is}
use Rattle.exam_sql.proofs.Making.{AddsTable, adding_fails, adds_table}
use Rattle.exam_sql.proofs.OfOffice as office
use Rattle.exam_sql.proofs.VersionFails.{version_fails}
use Rattle.exam_tables.specs.Inside.{Runs}
use Rattle.exam_tables.specs.Versions.{FailsToCreate}
use Rattle.exam_tables.specs.Versions.{version}
use Rattle.exam_tables.proofs.RowByRow.{survives_itself}
use Rattle.exam_tables.proofs.Steps.{down_later, fails_for}

-- a disk that is clean was so before
early : (mid new : State) → Survives mid new (λ _. ⊥) → HasCleanDisk new → HasCleanDisk mid
early mid new s clean = omega (arith, s.clean)

-- what a statement that was run makes
pub leads_by : (before after : Database → Type 0) (old new : State) (sql : List ℕ) (params : Row)
    (result : Result (Unit {0}) Refusal)
    → ((count : ℕ) → Executes sql params old new (Ok count) → before old.now → after new.now)
    → (before old.now → (error : Error) → ExecutesInside 0 sql params old new (Err error)
    → Fails old new (IsSome old.step_limit) error) → Runs sql params old new result → Leads before after old new result
leads_by before after old new sql params (Ok u) does fails runs = record {
  made = λ clean going. let h = runs.ran clean going in (does h.0 h.1, h.2);
  failed = λ clean going was. tt;
  kept = runs.kept;
  survives = runs.survives;
  told = tt;
}
leads_by before after old new sql params (Err e) does fails runs = record {
  made = λ clean going. tt;
  failed = λ clean going was.
      let it = runs.failed clean going in
      fails_for (IsSome old.step_limit) old new e it.0 it.1 (fails was it.0 it.2);
  kept = runs.kept;
  survives = runs.survives;
  told = runs.told;
}

-- what stood against the second of two steps stood against both
pub made_later : (old mid new : State) (e : Refusal) → Survives old mid (λ _. ⊥) → HasCleanDisk mid
    → mid.faults ≤ new.faults → FailsToMake mid new e → FailsToMake old new e
made_later old mid new e s clean up (inl lacks) = inl lacks
made_later old mid new e s clean up (inr (told, inl down)) = inr (told, inl (down_later old mid new s clean up down))
made_later old mid new e s clean up (inr (told, inr limited)) = inr (told, inr (subst IsSome s.limit limited))

-- one step after another
pub leads_then : (before between after : Database → Type 0) (old mid new : State) (result : Result (Unit {0}) Refusal)
    → Leads before between old mid (Ok tt) → Leads between after mid new result → Leads before after old new result
leads_then before between after old mid new (Ok u) a b = record {
  made = λ clean going.
      let one = a.made (early mid new b.survives clean) going in
      let two = b.made clean one.1 in
      (λ was. two.0 (one.0 was), two.1);
  failed = λ clean going was. tt;
  kept = λ clean. keeps_then old mid new (a.kept (early mid new b.survives clean)) (b.kept clean);
  survives = survives_then old mid new _ _ _ (λ _ db none. none) (λ _ db none. none) a.survives b.survives;
  told = tt;
}
leads_then before between after old mid new (Err e) a b = record {
  made = λ clean going. tt;
  failed = λ clean going was.
      let first = early mid new b.survives clean in
      let one = a.made first going in
      made_later old mid new e a.survives first b.survives.counts (b.failed clean one.1 (one.0 was));
  kept = λ clean. keeps_then old mid new (a.kept (early mid new b.survives clean)) (b.kept clean);
  survives = survives_then old mid new _ _ _ (λ _ db none. none) (λ _ db none. none) a.survives b.survives;
  told = b.told;
}

-- a step that was refused, where others were to follow
pub leads_refused : (before between after : Database → Type 0) (old new : State) (e : Refusal)
    → Leads before between old new (Err e) → Leads before after old new (Err e)
leads_refused before between after old new e a =
    record { made = λ clean going. tt; failed = a.failed; kept = a.kept; survives = a.survives; told = a.told }

-- a table that is added with no rows leaves all without rows
still_empty : (schema : Schema) (db : Database) (t : ℕ) → ContainsIn schema db (with_tree (λ tree. []) t [])
    → HasNoRows schema db
still_empty schema db t was =
    contains_same schema db _ _ was
    (all_of _ (λ s. subst (λ rows. IsPermutation rows []) (sym (nothing s.tree)) (IsPermutation-refl [])) schema.tables)
  where
    nothing : (u : ℕ) → with_tree (λ tree. []) t [] u ≡ []
    nothing u = elim (cases_Bool (u == t)) [ inl is ↦ rw is refl | inr other ↦ rw other refl ]

-- what nothing forbids fails at most because of a limit of steps
pub limited : (old new : State) (error : Error) → Fails old new ⊥ error → Fails old new (IsSome old.step_limit) error
limited old new error (inl lacks) = inl lacks
limited old new error (inr (named, inl down)) = inr (named, inl down)
limited old new error (inr (named, inr none)) = absurd none

-- texts that make the first tables
abbrev pub AreFirst : List (Bor (List ℕ)) → Type 0
AreFirst texts = map (λ s. s.now) texts ≡ map (λ d. d.create) first_tables

pub are_ten : (texts : List (Bor (List ℕ))) → AreFirst texts → length texts ≡ 10
are_ten texts are = sym (length-map texts (λ s. s.now)) ∙ ap length are

pub each_text : (texts : List (Bor (List ℕ))) → AreFirst texts → (k : ℕ) (d : Bor (List ℕ)) → k < length texts
    → (get_or texts k d).now ≡ (get_or first_tables k tables.office).create
each_text texts are k d below =
    sym (get_or-map (λ s. s.now) texts k d [] below) ∙ ap (λ l. get_or l k []) are
    ∙ get_or-map (λ d. d.create) first_tables k tables.office [] (omega (arith, below, are_ten texts are))

-- the text of a table
pub table_leads : (before after : Schema) (d : Described) (text : List ℕ) → text ≡ d.create → AddsTable before after d
    → (old new : State) (result : Result (Unit {0}) Refusal) → Runs text [] old new result
    → Leads (HasNoRows before) (HasNoRows after) old new result
table_leads before after d text is adds old new result runs =
    leads_by (HasNoRows before) (HasNoRows after) old new text [] result
    (λ count run was. still_empty after new.now d.table.tree
    (adds_table adds old new (Ok count) (rw is at run) (λ tree. []) was))
    (λ was error run. limited old new error (adding_fails adds old new was.schema_is error (rw is at run))) runs

-- if the connection is shut, that alone explains a failed statement
shut_fails : {A B : Type 0} (old new : State) (error : Error) → old.is_open ≡ false → Fails old new A error
    → Fails old new B error
shut_fails old new error shut (inl lacks) = inl lacks
shut_fails old new error shut (inr (named, against)) = inr (named, inl (inr shut))

-- the version is set unless memory runs out, the disk or the connection fails, or the steps are limited
pub version_refused : (old new : State) (all : Trees) → HasRuled old.is_open all old.now → (error : Error)
    → ExecutesInside 0 office.put_text (Int (pos version) ∷ []) old new (Err error)
    → Fails old new (IsSome old.step_limit) error
version_refused old new all was error run = elim (cases_Bool old.is_open) [
  | inl is ↦ version_fails old new all (pos version) was.0 (was.1 is) error run
  | inr shut ↦ shut_fails old new error shut
      ((office.put_answers old new (pos version) was.0.schema_is).fails error run)
]

-- nothing is to be done
pub leads_itself : (before after : Database → Type 0) (s : State) → (before s.now → after s.now)
    → Leads before after s s (Ok tt)
leads_itself before after s is =
    record {
      made = λ clean going. (is, going);
      failed = λ clean going was. tt;
      kept =
          λ clean. record { was_open = λ open_now. open_now; committed = λ open_now. refl };
      survives =
          survives_itself s;
      told = tt;
    }

-- if there are to be no marks, the table has none
pub no_marks : (db : Database) (all : Trees) → all 17 ≡ [] → ContainsIn store_schema db (with_tree all 17 [])
    → ContainsIn store_schema db all
no_marks db all none was =
    contains_same store_schema db _ _ was
    (all_of _ (λ s. subst (λ rows. IsPermutation (with_tree all 17 [] s.tree) rows) (same s.tree)
    (IsPermutation-refl _)) store_schema.tables)
  where
    same : (u : ℕ) → with_tree all 17 [] u ≡ all u
    same u = elim (cases_Bool (u == 17))
        [ inl is ↦ rw is (subst (λ n. [] ≡ all n) (sym (eqb-true u 17 is)) (sym none)) | inr other ↦ rw other refl ]

-- nothing is the schema with no tables, and the ten tables are those of version 1
pub blank_is_empty : (db : Database) → IsBlank db → HasNoRows (made 0) db
unfolding made
blank_is_empty db is = record { schema_is = is; rows = tt }

pub first_is_empty : (db : Database) → HasNoRows (made 10) db → HasFirst (λ tree. []) db
first_is_empty db was = (subst (λ s. HasNoRows s db) first_is was, refl)

-- of states in place of databases
pub leads_from : (before after earlier later : Database → Type 0) (old new : State)
    (result : Result (Unit {0}) Refusal) → (earlier old.now → before old.now) → (after new.now → later new.now)
    → Leads before after old new result → Leads earlier later old new result
leads_from before after earlier later old new (Ok u) first last a =
    record {
      made = λ clean going. let h = a.made clean going in (λ was. last (h.0 (first was)), h.1);
      failed =
          λ clean going was. tt;
      kept = a.kept;
      survives = a.survives;
      told = a.told;
    }
leads_from before after earlier later old new (Err e) first last a =
    record {
      made = λ clean going. tt;
      failed = λ clean going was. a.failed clean going (first was);
      kept =
          a.kept;
      survives = a.survives;
      told = a.told;
    }

-- where no transaction was under way
pub not_created : (old new : State) (result : Result (Unit {0}) Refusal) → IfErr result (FailsToMake old new)
    → IfErr result (FailsToCreate old new)
not_created old new (Ok u) failed = tt
not_created old new (Err e) failed = inl failed

-- a connection to memory that was just opened lacks nothing but memory
pub only_memory : (old new : Held MemStore) (e : Refusal) → IsEmpty (state over_memory old) → IsNew old
    → FailsToCreate (state over_memory old) (state over_memory new) e → e ≡ NoMemory
only_memory old new e empty fresh (inl (inl lacks)) = lacks
only_memory old new e empty fresh (inl (inr (told, inl (inl more)))) = absurd (omega (arith, more))
only_memory old new e empty fresh (inl (inr (told, inl (inr shut)))) = absurd (both_ways _ shut empty.0.is_open)
only_memory old new e empty fresh (inl (inr (told, inr limited))) = let some =
    rw fresh.unlimited at limited in absurd cc
only_memory old new e empty fresh (inr (told, going)) = absurd (both_ways _ fresh.autocommit going)
