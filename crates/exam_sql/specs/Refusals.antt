-- Why a statement on the rows of a table fails.
use Rattle.std.specs.Prelude.{◌≡◌, ◌⊎◌, ℕ, Bool, true, false, List, slice_get, Option, Some, None, option_and_then, Ok}
use Rattle.std.specs.Prelude.{Err, IsTrue}
use Rattle.sqlite_disk.specs.Disk.{MoreFaults}
use Rattle.sqlite_value.specs.Order.{Row}
use Rattle.sqlite_schema.specs.declared.command.Command.{Command}
use Rattle.sqlite_schema.specs.declared.command.Command.TheVariants.{InsertOr, Delete}
use Rattle.sqlite_schema.specs.declared.schema.Keys.TheVariants.{Enforced}
use Rattle.sqlite_schema.specs.declared.schema.Table.{Table}
use Rattle.sqlite_resolve.specs.declared.compiled.Compiled.{Compiled}
use Rattle.sqlite.specs.declared.error.ErrorCode.TheVariants.{OutOfMemory}
use Rattle.sqlite.specs.declared.error.Error.{Error}
use Rattle.sqlite.specs.declared.error.Error.TheVariants.{SqliteFailure, SqlInputError}
use Rattle.sqlite.specs.declared.run.Mode.{Mode}
use Rattle.sqlite.specs.Does.{Does, Tally, WritesRows}
use Rattle.sqlite.specs.Effect.{Database}
use Rattle.sqlite.specs.Listing.{understood}
use Rattle.sqlite.specs.State.{State, text_of}

-- foreign keys are tested after every statement
abbrev pub at_once : Mode
at_once = record { keys = Enforced; in_doubt = false; may_wait = false }

-- The database understands the statement and refuses it: a rule of its tables forbids it, no rowid is left, a row is
-- too big, or the steps that it may take are too few.
abbrev pub Refuses : Option ℕ → Database → List ℕ → Row → Type 0
Refuses limit db text params =
    (c : Compiled) × (understood db.schema text ≡ Ok c) × (stop : Option Error)
    × Does limit at_once params db (text_of text c) c.returning c.command (Err stop)

-- the database understands the statement, and within that limit of steps it turns the database into this one
abbrev pub RunsTo : Option ℕ → List ℕ → Row → Database → Database → Type 0
RunsTo limit text params db after =
    (c : Compiled) × (understood db.schema text ≡ Ok c) × (tally : Tally)
    × Does limit at_once params db (text_of text c) c.returning c.command (Ok (tally, after))

-- the place of the table whose rows the command writes or deletes
abbrev pub written_table : Command → Option ℕ
written_table (InsertOr at way from clauses) = Some at
written_table (Delete at q) = Some at
written_table _ = None

-- The command is refused while it writes the rows. No foreign key is tested before they are written.
abbrev pub RefusesRows : Option ℕ → Database → List ℕ → Row → Type 0
RefusesRows limit db text params =
    (c : Compiled) × (understood db.schema text ≡ Ok c) × (stop : Option Error)
    × (table : Table) × (option_and_then (slice_get db.schema.tables) (written_table c.command) ≡ Some table)
    × WritesRows (record { limit = limit; keys = Enforced; schema = db.schema; table = table; params = params })
    db.trees c.command (Err stop)

-- a call of the disk failed in between, or the connection was shut before
abbrev pub IsDown : State → State → Type 0
IsDown old new = MoreFaults old.faults new.faults ⊎ (old.is_open ≡ false)

-- the error is neither that memory ran out nor that the text is not understood
abbrev pub is_failure : Error → Bool
is_failure (SqliteFailure OutOfMemory) = false
is_failure (SqlInputError fault) = false
is_failure _ = true

-- memory ran out, or a failure with its reason
abbrev pub Fails : State → State → Type 0 → Error → Type 0
Fails old new Refused e =
    (e ≡ SqliteFailure OutOfMemory) ⊎ (IsTrue (is_failure e) × (IsDown old new ⊎ Refused))
