-- Why a database is refused before it is asked anything.
use Rattle.std.specs.Prelude.{◌≡◌, ◌⊎◌}
use Rattle.sqlite.specs.State.{State, Fails, IsUnchanged}
use Rattle.sqlite.specs.declared.error.Error.{Error}
use Rattle.exam_types.specs.declared.refusal.Refusal.{Refusal}
use Rattle.exam_types.specs.declared.refusal.Refusal.TheVariants.{BadStore}
use Rattle.exam_tables.specs.Faults.{refusal_of}

-- no statement could be run: memory ran out, a call of the disk failed, or the connection was shut
abbrev pub FailsToAsk : State → State → Refusal → Type 0
FailsToAsk old new e = (error : Error) × (e ≡ refusal_of error) × Fails old new ⊥ error

-- The refusal is `BadStore`, and nothing has changed; or no statement could be run.
abbrev pub IsUnasked : State → State → Refusal → Type 0
IsUnasked old new e = ((e ≡ BadStore) × IsUnchanged old new) ⊎ FailsToAsk old new e
