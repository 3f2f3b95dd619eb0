-- What opening finds in a database, and how an older office becomes one of the newest version.
use Rattle.std.specs.Prelude.{◌≡◌, ◌⊎◌, ◌++◌, ℕ, Bool, true, false, IsTrue, List, [], ◌∷◌, if◌then◌else◌}
use Rattle.sqlite_trees.specs.declared.store.Store.{Ghosts}
use Rattle.sqlite_trees.specs.Tree.{Trees}
use Rattle.sqlite.specs.Effect.{Database}
use Rattle.sqlite.specs.State.{State, HasCleanDisk, IsUnchanged, Survives}
use Rattle.sqlite.specs.Held.{Held, state}
use Rattle.exam_types.specs.declared.refusal.Refusal.{Refusal}
use Rattle.exam_types.specs.declared.refusal.Refusal.TheVariants.{BadStore, Store, OldSchema}
use Rattle.exam_commands.specs.State.{State as Office, empty_state}
use Rattle.exam_sql.specs.Made.{ContainsMade, lists_newest, lists_tables}
use Rattle.exam_sql.specs.Texts.{held_texts, load_office, load_standing, load_texts}
use Rattle.exam_tables.specs.Inside.{Contains, IsOurs}
use Rattle.exam_store.specs.Kept.{Keeps, KeepsIn}
use Rattle.exam_tables.specs.Loaded.{AreUnderstood, FailsThen, IsLeft, IsLoadRefusal, IsMadeHere}
use Rattle.exam_tables.specs.Unasked.{IsUnasked}
use Rattle.exam_tables.specs.Versions.{ContainsOf, FailsToCreate, FailsToMake, HasVersion, IsBlank, IsOlder}
use Rattle.exam_tables.specs.Versions.{IsVersion, marks_since, version}
use Rattle.exam_tables.specs.Faults.{is_store_refusal}
use Rattle.exam_store.specs.Refused.{HoldsFormed, HoldsNone, IsGoodIn}

-- if there is a version row, it is that of the newest version
abbrev pub IsNoOlder : Database → Type 0
IsNoOlder db = (v : ℕ) → IsVersion v → (all : Trees) → ContainsMade db all → HasVersion v all → v ≡ version

-- Each of the eleven names is that of a table, and no column is missing. If the tables are ours, they keep the office,
-- whose values have the forms of their columns. The office is of no older version. Nothing changes, even over a crash.
pub record Finds (old new : State) (office : Office) : Type 0 where
  pub listed : HasCleanDisk new → IsTrue (lists_newest old.now.schema)
  pub understood : HasCleanDisk new → AreUnderstood old.now load_texts
  pub kept : HasCleanDisk new → IsOurs old.now → Keeps old.now office
  pub formed : HasCleanDisk new → (all : Trees) → Contains old.now all → HoldsFormed all office
  pub newest : HasCleanDisk new → IsNoOlder old.now
  pub same : HasCleanDisk new → IsUnchanged old new
  pub survives : Survives old new (λ _. ⊥)

-- Memory runs out; or a query fails and the refusal is that of its error; or the tables of this version hold no good
-- office of it, and the database is of no older version.
abbrev pub FindsNone : {S : Type 0} → Ghosts S → Held S → Held S → Refusal → Type 0
FindsNone g old new =
    IsLoadRefusal (FailsThen g old new)
    (((all : Trees) → ContainsOf version (state g old).now all → HoldsNone version all)
    × IsNoOlder (state g old).now)

-- the office is one of an older version
abbrev pub FindsOld : Database → Refusal → Type 0
FindsOld old e =
    (e ≡ OldSchema) × ((all : Trees) → ContainsMade old all → (v : ℕ) × IsOlder v × HasVersion v all)

-- why no office is opened
abbrev pub FailsToOpen : {S : Type 0} → Ghosts S → Held S → Held S → Refusal → Type 0
FailsToOpen g old new e = FindsNone g old new e ⊎ FindsOld (state g old).now e

-- a transaction is already open, or no office is opened
abbrev pub FailsToFind : {S : Type 0} → Ghosts S → Held S → Held S → Refusal → Type 0
FailsToFind g old new e = ((e ≡ Store) × IsTrue new.in_transaction) ⊎ FailsToOpen g old new e

-- Why an opening is refused, and what it leaves: the database as it was, or undone back to the last commit.
pub record RefusesOpening {S : Type 0} (g : Ghosts S) (old new : Held S) (e : Refusal) : Type 0 where
  pub refusal : HasCleanDisk (state g new) → FailsToFind g old new e
  -- where a name of the tables is that of something else, the schema alone decides
  pub unlisted : HasCleanDisk (state g new) → lists_tables (state g old).now.schema ≡ false
      → IsUnasked (state g old) (state g new) e
  pub same : HasCleanDisk (state g new) → IsLeft (state g old) (state g new)
  pub survives : Survives (state g old) (state g new) (λ _. ⊥)

-- no empty office is made in a blank database, or the opening of what is there is refused
pub record RefusesCreating {S : Type 0} (g : Ghosts S) (old new : Held S) (e : Refusal) : Type 0 where
  pub blank : HasCleanDisk (state g new) → IsBlank (state g old).now → FailsToCreate (state g old) (state g new) e
  pub other : (IsBlank (state g old).now → ⊥) → RefusesOpening g old new e

abbrev pub is_open_refusal : Refusal → Bool
is_open_refusal OldSchema = true
is_open_refusal e = is_store_refusal e

-- the new database keeps an office with no facts
abbrev pub MakesEmpty : Database → Database → Type 0
MakesEmpty old new = Keeps new empty_state

-- ---- from an older version to the newest

-- the texts that load the tables of a version, beside the version itself
abbrev pub version_texts : ℕ → List (List ℕ)
version_texts v = held_texts ++ (if marks_since v then load_standing ∷ [] else [])

-- the tables are those of this version and hold a good office of it
abbrev pub HoldsGood : ℕ → Database → Trees → Type 0
HoldsGood v db all =
    ContainsOf v db all × HasVersion v all × (office : Office) × HoldsFormed all office × IsGoodIn v office

-- A database from which an office of this version was read: the tables of that version are there, with their columns,
-- and hold a good office of it.
pub record HadGood (db : Database) (v : ℕ) : Type 0 where
  pub listed : IsTrue (lists_tables db.schema)
  pub understood : AreUnderstood db (load_office ∷ version_texts v)
  pub good : (all : Trees) → ContainsMade db all → HoldsGood v db all

-- an office of the newest version stays as it is, also over a crash
abbrev pub StaysNewest : State → State → ℕ → Type 0
StaysNewest old new v =
    v ≡ version → (HasCleanDisk new → IsUnchanged old new) × Survives old new (λ _. ⊥)

-- A database with a good office of some version becomes one of the newest. If it kept an office in an older version, it
-- keeps this one; if it had the newest version already, it stays as it is.
pub record Migrates (old new : Database) : Type 0 where
  pub good : (all : Trees) → ContainsMade old all → (v : ℕ) × IsVersion v × HoldsGood v old all
  pub kept : (v : ℕ) → IsOlder v → (office : Office) → KeepsIn v old office → Keeps new office
  pub same : (all : Trees) → ContainsMade old all → HasVersion version all → new ≡ old

-- Why an office is not brought to the newest version: a transaction is already open, the tables hold no good office of
-- any version, or those of an older version exist and cannot be made those of the newest.
abbrev pub FailsToMigrate : {S : Type 0} → Ghosts S → Held S → Held S → Refusal → Type 0
FailsToMigrate g old new e =
    ((e ≡ Store) × IsTrue (state g old).in_transaction)
    ⊎ (IsLoadRefusal (FailsThen g old new)
    ((v : ℕ) → IsVersion v → (all : Trees) → ContainsOf v (state g old).now all → HoldsNone v all) e
    ⊎ (AreUnderstood (state g old).now (load_office ∷ held_texts)
    × (IsMadeHere (state g old).now → FailsToMake (state g old) (state g new) e)))

-- why a migration is refused, and that the refusal of a bad office has written nothing
pub record RefusesMigrating {S : Type 0} (g : Ghosts S) (old new : Held S) (e : Refusal) : Type 0 where
  pub refusal : FailsToMigrate g old new e
  pub unlisted : old.in_transaction ≡ false → lists_tables (state g old).now.schema ≡ false
      → IsUnasked (state g old) (state g new) e
  pub still : e ≡ BadStore → Survives (state g old) (state g new) (λ _. ⊥)
