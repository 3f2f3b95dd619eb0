-- A command that is applied to an office in a database.
use Rattle.std.specs.Prelude.{◌≡◌, ◌⊎◌, ℕ, All, false, IsTrue, List, [], ◌∷◌, Result, Ok, Err, IfErr, if◌then◌else◌}
use Rattle.sqlite.specs.Effect.{Database}
use Rattle.sqlite_trees.specs.declared.store.Store.{Ghosts}
use Rattle.sqlite.specs.Held.{state}
use Rattle.sqlite.specs.State.{State as Shown, HasCleanDisk, Survives}
use Rattle.exam_types.specs.declared.refusal.Refusal.{Refusal}
use Rattle.exam_types.specs.declared.refusal.Refusal.TheVariants.{NoMemory, NotOpenAppeal}
use Rattle.exam_commands.specs.declared.command.Command.{Command}
use Rattle.exam_commands.specs.declared.command.AppealState.TheVariants.{Superseded}
use Rattle.exam_commands.specs.declared.command.Decision.{Decision}
use Rattle.exam_commands.specs.declared.command.Reply.{Reply}
use Rattle.exam_commands.specs.declared.command.Reply.TheVariants.{Unchanged}
use Rattle.exam_commands.specs.Appeals.{stored_state}
use Rattle.exam_commands.specs.State.{State}
use Rattle.exam_commands.specs.Steps.{Step}
use Rattle.exam_tables.specs.Faults.{is_store_refusal}
use Rattle.exam_store.specs.Saves.{FailsToSave}
use Rattle.exam_tables.specs.Inside.{IsOurs}
use Rattle.exam_tables.specs.Transactions.{Commits}
use Rattle.exam_store.specs.Kept.{Rekeeps}
use Rattle.exam_store.specs.Stores.{OfficeIn}

-- With a reply, exactly the command's step is made. With a refusal, the step's own or one of the store, the office
-- stays as it was.
abbrev pub MayApply : Command → ℕ → State → Result Reply Refusal → State → Type 0
MayApply done today before (Ok reply) after = Step done today before (Ok reply) after
MayApply done today before (Err e) after =
    (after ≡ before) × (Step done today before (Err e) before ⊎ IsTrue (is_store_refusal e))

-- Why a command is refused: its step is refused, memory runs out, or the office after it cannot be saved.
abbrev pub FailsToApply : Command → ℕ → State → Shown → Shown → Refusal → Type 0
FailsToApply done today before old new e =
    Step done today before (Err e) before
    ⊎ ((e ≡ NoMemory)
    ⊎ ((reply : Reply) × (after : State) × Step done today before (Ok reply) after
    × FailsToSave before after old new e))

-- a database that keeps the office keeps after the command the office that the step makes
abbrev pub TurnsBy : Command → ℕ → State → Database → Database → Type 0
TurnsBy done today before old new =
    (reply : Reply) × (after : State) × Step done today before (Ok reply) after
    × Rekeeps before after old new

-- a list of commands, each with its day, and what each answers
abbrev pub Applies : List (Command × ℕ) → State → List (Result Reply Refusal) → State → Type 0
Applies [] before [] after = after ≡ before
Applies (done ∷ rest) before (reply ∷ replies) after =
    (mid : State) × MayApply done.0 done.1 before reply mid × Applies rest mid replies after
Applies [] before (reply ∷ replies) after = ⊥
Applies (done ∷ rest) before [] after = ⊥

-- the store refused the command: there is no memory, or the database failed
abbrev pub FailsInStore : Result Reply Refusal → Type 0
FailsInStore (Ok reply) = ⊥
FailsInStore (Err e) = IsTrue (is_store_refusal e)

-- a decision, made once more, answers that nothing has changed, or that a later grant has superseded the appeal
abbrev pub IsDecidedAgain : State → Decision → Result Reply Refusal → Type 0
IsDecidedAgain late decision second =
    (second ≡ Ok Unchanged)
    ⊎ ((stored_state late.relations decision.number decision.reference ≡ Superseded)
    × (second ≡ Err NotOpenAppeal))

-- the store refused no command
abbrev pub NoneFails : List (Result Reply Refusal) → Type 0
NoneFails replies = All (λ reply. FailsInStore reply → ⊥) replies

-- the answer of an office that is only in memory: it says that memory ran out where the store refused
abbrev pub in_memory : Result Reply Refusal → Result Reply Refusal
in_memory (Ok reply) = Ok reply
in_memory (Err e) = Err (if is_store_refusal e then NoMemory else e)

-- ---- over an office in a database

-- why the command is refused, where the tables are ours
abbrev pub Refuses : {S : Type 0} → Ghosts S → Command → ℕ → OfficeIn S → Result Reply Refusal → OfficeIn S → Type 0
Refuses g done today old reply new =
    HasCleanDisk (state g new.database) → IsOurs (state g old.database).now
    → IfErr reply (FailsToApply done today old.office (state g old.database) (state g new.database))

-- what `apply` makes of an office in a database, and when it refuses
pub record IsApplied {S : Type 0} (g : Ghosts S) (done : Command) (today : ℕ) (old : OfficeIn S)
    (reply : Result Reply Refusal) (new : OfficeIn S) : Type 0 where
  pub step : MayApply done today old.office reply new.office
  pub made : Commits (state g old.database) (state g new.database) reply (TurnsBy done today old.office)
  pub refusal : Refuses g done today old reply new
  pub shut : (state g old.database).is_open ≡ false → Survives (state g old.database) (state g new.database) (λ _. ⊥)

-- each command of a list is applied to what the one before it left
abbrev pub AreApplied : {S : Type 0} → Ghosts S → List (Command × ℕ) → OfficeIn S
    → List (Result Reply Refusal) → OfficeIn S → Type 0
AreApplied g [] old [] new = new ≡ old
AreApplied {S} g (done ∷ rest) old (reply ∷ replies) new =
    (mid : OfficeIn S) × IsApplied g done.0 done.1 old reply mid × AreApplied g rest mid replies new
AreApplied g [] old (reply ∷ replies) new = ⊥
AreApplied g (done ∷ rest) old [] new = ⊥
