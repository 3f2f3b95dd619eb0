-- Why no answer is given.
use Rattle.std.specs.Prelude.{◌≡◌, ◌⊎◌, Bool, true, false, Option, Some, Result, MatchResult}
use Rattle.sqlite_trees.specs.declared.store.Store.{Ghosts}
use Rattle.sqlite.specs.Held.{Held, state}
use Rattle.sqlite.specs.State.{State, HasCleanDisk}
use Rattle.exam_types.specs.declared.refusal.Refusal.{Refusal}
use Rattle.exam_types.specs.declared.refusal.Refusal.TheVariants.{NoMemory, Store, OldSchema}
use Rattle.exam_sql.specs.Made.{lists_tables}
use Rattle.exam_tables.specs.Loaded.{FailsThen}
use Rattle.exam_tables.specs.Unasked.{FailsToAsk}
use Rattle.exam_store.specs.Found.{FindsOld}
use Rattle.exam_check.specs.declared.tables.Table.{Table}
use Rattle.exam_check.specs.declared.tables.Table.TheVariants as table

-- Memory ran out, or the query of a table failed while the database was as before, or the version row is that of an
-- older version.
abbrev pub FailsToCheck : {S : Type 0} → Ghosts S → Held S → Held S → Refusal → Type 0
FailsToCheck g old new e = (e ≡ NoMemory) ⊎ ((FailsThen g old new e × (e ≡ Store)) ⊎ FindsOld (state g old).now e)

abbrev pub is_check_refusal : Refusal → Bool
is_check_refusal NoMemory = true
is_check_refusal Store = true
is_check_refusal OldSchema = true
is_check_refusal _ = false

-- Where a name of the tables is that of something else, the schema alone decides: `office` is bad, or no statement
-- could be run.
abbrev pub AnswersUnlisted : State → State → Result (Option Table) Refusal → Type 0
AnswersUnlisted old new answered =
    HasCleanDisk new → lists_tables old.now.schema ≡ false
    → MatchResult answered (λ found. found ≡ Some table.Office) (FailsToAsk old new)
