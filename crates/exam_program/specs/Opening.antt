-- What opening an office in an open database finds, why none is opened, and how files that could not be opened are
-- reported.
use Rattle.std.specs.Prelude.{◌≡◌, ◌⊎◌, IsTrue, Ok}
use Rattle.sqlite.specs.Held.{Held, state}
use Rattle.sqlite.specs.State.{State, HasCleanDisk, Survives}
use Rattle.sqlite.specs.Effect.{Database}
use Rattle.sqlite.specs.declared.error.Error.{Error}
use Rattle.sqlite.specs.declared.error.Error.TheVariants.{SqliteFailure}
use Rattle.sqlite.specs.declared.error.ErrorCode.TheVariants.{OutOfMemory, NotADatabase}
use Rattle.sqlite_trees.specs.declared.store.Store.{Ghosts}
use Rattle.sqlite_trees.specs.Tree.{Trees}
use Rattle.exam_types.specs.declared.refusal.Refusal.{Refusal}
use Rattle.exam_types.specs.declared.refusal.Refusal.TheVariants.{NoMemory, Store, BadStore}
use Rattle.exam_commands.specs.State.{State as Office, empty_state}
use Rattle.exam_line.specs.Lines.{Job}
use Rattle.exam_line.specs.Lines as line
use Rattle.exam_tables.specs.Inside.{IsOurs}
use Rattle.exam_tables.specs.Transactions.{Commits, IsSound}
use Rattle.exam_tables.specs.Versions.{FailsToCreate, IsBlank}
use Rattle.exam_store.specs.Found.{FailsToFind, Finds, MakesEmpty, is_open_refusal}
use Rattle.exam_store.specs.Kept.{Keeps}

-- ---- the office in an open database

-- an empty office is made in one transaction, and committed
abbrev pub MakesNew : State → State → Office → Type 0
MakesNew old new office = (office ≡ empty_state) × Commits {E = Refusal} old new (Ok office) MakesEmpty

-- opening found the office, or there was no table and an empty office was made
abbrev pub MakesOrFinds : State → State → Office → Type 0
MakesOrFinds old new office =
    (IsBlank old.now → MakesNew old new office) × ((IsBlank old.now → ⊥) → Finds old new office)

-- the office that is opened for a job: `init` may make an empty one
abbrev pub OpensFor : Job → State → State → Office → Type 0
OpensFor line.init old new office = MakesOrFinds old new office
OpensFor job old new office = Finds old new office

-- the tables of the newest version exist, or for `init` there is no table
abbrev pub HasTables : Job → Database → Type 0
HasTables line.init db = IsBlank db ⊎ IsOurs db
HasTables job db = IsOurs db

-- ---- why none is opened

abbrev pub FailsToOpenFor : {S : Type 0} → Ghosts S → Job → Held S → Held S → Refusal → Type 0
FailsToOpenFor g line.init was now e =
    (IsBlank (state g was).now → FailsToCreate (state g was) (state g now) e)
    × ((IsBlank (state g was).now → ⊥) → FailsToFind g was now e)
FailsToOpenFor g job was now e = FailsToFind g was now e

-- what a stop may leave of an opening that is refused: the empty office that `init` began to make
abbrev pub MayMake : Job → State → Trees → Type 0
MayMake line.init s trees = IsBlank s.now × (db : Database) × Keeps db empty_state × (trees ≡ db.trees)
MayMake job s trees = ⊥

-- No office is opened, for this reason. What was committed stays, and so does what a stop leaves.
pub record IsNotOpened {S : Type 0} (g : Ghosts S) (job : Job) (was : Held S) (refusal : Refusal) (now : Held S)
    : Type 0 where
  pub told : IsTrue (is_open_refusal refusal)
  pub reason : HasCleanDisk (state g now) → FailsToOpenFor g job was now refusal
  pub same : IsSound (state g now) → (state g now).committed ≡ (state g was).committed
  pub survives : Survives (state g was) (state g now) (MayMake job (state g was))

-- ---- a file

-- out of memory, a file that is no database, or another failure
abbrev pub opening_refusal : Error → Refusal
opening_refusal (SqliteFailure OutOfMemory) = NoMemory
opening_refusal (SqliteFailure NotADatabase) = BadStore
opening_refusal _ = Store
