-- The office that a database has, in whichever version; what a stop leaves of it; what a call opens, and what its
-- refusal leaves.
use Rattle.std.specs.Prelude.{◌≡◌, ◌⊎◌, ℕ, false, IsTrue, Ok}
use Rattle.sqlite_trees.specs.declared.store.Store.{Ghosts}
use Rattle.sqlite_trees.specs.Tree.{Trees}
use Rattle.sqlite.specs.Effect.{Database}
use Rattle.sqlite.specs.Held.{Held, state}
use Rattle.sqlite.specs.State.{State, HasCleanDisk, Survives}
use Rattle.exam_types.specs.declared.refusal.Refusal.{Refusal}
use Rattle.exam_types.specs.declared.refusal.Refusal.TheVariants.{NoMemory, Store}
use Rattle.exam_commands.specs.Orders.{IsInOrder}
use Rattle.exam_commands.specs.State.{State as Office}
use Rattle.exam_tables.specs.Transactions.{Commits, IsSound}
use Rattle.exam_tables.specs.Versions.{ContainsOf, HasVersion, IsVersion}
use Rattle.exam_store.specs.Found.{FailsToFind, FailsToMigrate, HoldsGood, is_open_refusal}
use Rattle.exam_store.specs.Kept.{Keeps, KeepsIn}
use Rattle.exam_store.specs.Stops.{HasDays}
use Rattle.exam_store.specs.Stores.{OfficeIn}
use Rattle.exam_theorem.specs.Keeping.{KeepsIt}

-- ---- a database

-- the tables are those of some version, and have its number; nothing is said of their other rows
abbrev pub IsVersioned : Database → Type 0
IsVersioned db = (v : ℕ) × IsVersion v × (all : Trees) × ContainsOf v db all × HasVersion v all

-- the tables are those of some version, and hold a good office of it, in the forms of their columns
abbrev pub IsAccepted : Database → Type 0
IsAccepted db = (v : ℕ) × IsVersion v × (all : Trees) × HoldsGood v db all

-- The tables of some version have the rows of this office. The keys of its tables rise, and its days have texts of
-- their own, so that no other office can be opened over these tables.
pub record HasOffice (db : Database) (office : Office) : Type 0 where
  pub number : ℕ
  pub is_version : IsVersion number
  pub kept : KeepsIn number db office
  pub order : IsInOrder office
  pub days : HasDays office.relations

-- a database that has an office becomes one that keeps the same in the newest version
abbrev pub BringsOver : Database → Database → Type 0
BringsOver old new = (office : Office) → HasOffice old office → Keeps new office

-- the connection is open, and sees what is committed, which has this office
pub record Rests (s : State) (office : Office) : Type 0 where
  pub is_open : IsTrue s.is_open
  pub committed : s.committed ≡ s.now
  pub has : HasOffice s.now office

-- the trees are those of a database that has this office
abbrev pub LeavesOffice : Office → Trees → Type 0
LeavesOffice office trees = (db : Database) × HasOffice db office × (trees ≡ db.trees)

-- whatever office was there, a stop at any moment of the call has left it there
abbrev pub StopsWith : State → State → Type 0
StopsWith old new =
    (office : Office) → Rests old office → HasCleanDisk new → (trees : Trees) → new.may_leave trees
    → LeavesOffice office trees

-- whatever office was there is there, if the disk has returned what was written and the connection is open
abbrev pub RestsOn : State → State → Type 0
RestsOn old new = IsSound new → (office : Office) → Rests old office → Rests new office

-- memory ran out, or the database could not be used
abbrev pub IsFailing : Refusal → Type 0
IsFailing e = (e ≡ NoMemory) ⊎ (e ≡ Store)

-- Why no office is opened: it is not brought to the newest version; or it is, in one transaction, and is not opened
-- then, where opening commits nothing and forgets no fault of the disk.
abbrev pub FailsToCarry : {S : Type 0} → Ghosts S → Held S → Held S → Refusal → Type 0
FailsToCarry {S} g old new e =
    FailsToMigrate g old new e
    ⊎ ((mid : Held S) × Commits {A = Unit {0}} {E = Refusal} (state g old) (state g mid) (Ok tt) BringsOver
    × Survives (state g mid) (state g new) (λ _. ⊥)
    × FailsToFind g mid new e)

-- ---- an office in a store

-- The connection is open, and the tables of the newest version keep the office, committed. With its order and its days,
-- opening finds this office and no other.
pub record IsAtRest {S : Type 0} (g : Ghosts S) (it : OfficeIn S) : Type 0 where
  pub is_open : IsTrue (state g it.database).is_open
  pub kept : KeepsIt g it
  pub order : IsInOrder it.office
  pub days : HasDays it.office.relations

-- What a call makes of an office in a store that is at rest, if it may fail, and before that lead to other offices.
pub record Settles {S : Type 0} (g : Ghosts S) (Failed : Type 0) (Leads : Office → Type 0) (old new : OfficeIn S)
    : Type 0 where
  -- no fault of the disk is forgotten, and a connection that is shut is not opened again
  pub was_clean : HasCleanDisk (state g new.database) → HasCleanDisk (state g old.database)
  pub was_sound : IsSound (state g new.database) → IsSound (state g old.database)
  -- it is at rest again, if the disk has returned what was written and the connection is open
  pub rests : IsAtRest g old → IsSound (state g new.database) → IsAtRest g new
  -- A stop at any moment of the call leaves the office after it. Only if the call failed, it may leave an office to
  -- which the call leads, where the office of the store is still the one before.
  pub stop : IsAtRest g old → HasCleanDisk (state g new.database) → (trees : Trees)
      → (state g new.database).may_leave trees
      → LeavesOffice new.office trees
      ⊎ (Failed × (new.office ≡ old.office) × (at : Office) × Leads at × LeavesOffice at trees)
  -- once a failure has shut the connection, a stop leaves only what it would have left before the call
  pub shut : (state g old.database).is_open ≡ false → HasCleanDisk (state g new.database) → (trees : Trees)
      → (state g new.database).may_leave trees → (state g old.database).may_leave trees

-- ---- what a call opens, and what its refusal leaves

-- if the tables were those of a version, the office that was opened is the one that they had
abbrev pub HadOffice : {S : Type 0} → Ghosts S → Held S → OfficeIn S → Type 0
HadOffice g old it =
    HasCleanDisk (state g it.database) → IsVersioned (state g old).now → HasOffice (state g old).now it.office

-- the office that was there was opened, and is at rest
abbrev pub OpensIt : {S : Type 0} → Ghosts S → Held S → OfficeIn S → Type 0
OpensIt g old it =
    HasCleanDisk (state g it.database) → (office : Office) → HasOffice (state g old).now office
    → (it.office ≡ office) × IsAtRest g it

-- Why no office is opened, and what that leaves: the office that was there, also after a stop. A good office is refused
-- only for memory or for a database that could not be used.
pub record RefusesCarrying {S : Type 0} (g : Ghosts S) (old new : Held S) (e : Refusal) : Type 0 where
  pub rests : RestsOn (state g old) (state g new)
  pub stopped : StopsWith (state g old) (state g new)
  pub why : HasCleanDisk (state g new) → FailsToCarry g old new e
  pub only : HasCleanDisk (state g new) → IsAccepted (state g old).now → IsFailing e
  pub told : IsTrue (is_open_refusal e)
