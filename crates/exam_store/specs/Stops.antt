-- A stop in the middle of a command, and what the next run opens.
use Rattle.std.specs.Prelude.{◌≡◌, ◌⊎◌, ℕ, All, false, IsTrue, Result, Ok, OnOk}
use Rattle.std.specs.Map.{values_of}
use Rattle.sqlite_trees.specs.declared.store.Store.{Ghosts}
use Rattle.sqlite_trees.specs.Tree.{Trees}
use Rattle.sqlite.specs.Effect.{Database}
use Rattle.sqlite.specs.Held.{Held, state}
use Rattle.sqlite.specs.State.{State as Shown, HasCleanDisk}
use Rattle.exam_types.specs.Days.{IsDay}
use Rattle.exam_types.specs.declared.refusal.Refusal.{Refusal}
use Rattle.exam_rules.specs.declared.rows.Appeal.{Appeal}
use Rattle.exam_rules.specs.declared.rows.Session.{Session}
use Rattle.exam_rules.specs.Relations.{Relations}
use Rattle.exam_commands.specs.declared.command.Command.{Command}
use Rattle.exam_commands.specs.declared.command.Command.TheVariants as command
use Rattle.exam_commands.specs.declared.command.Reply.{Reply}
use Rattle.exam_commands.specs.declared.import_row.Row.{Row}
use Rattle.exam_commands.specs.declared.import_row.Row.TheVariants as row
use Rattle.exam_commands.specs.Orders.{IsInOrder}
use Rattle.exam_commands.specs.State.{State}
use Rattle.exam_commands.specs.Steps.{Step}
use Rattle.exam_tables.specs.Inside.{IsOurs}
use Rattle.exam_store.specs.Applied.{IsApplied}
use Rattle.exam_store.specs.Found.{Finds}
use Rattle.exam_store.specs.Kept.{IsKept, Keeps}
use Rattle.exam_store.specs.Stores.{OfficeIn}

-- The day of each session and of each appeal is from 2000-01-01 to 2199-12-31: only these days have texts of their own
-- in the tables.
pub record HasDays (r : Relations) : Type 0 where
  pub sessions : All (λ (x : Session). IsDay x.day) (values_of r.sessions)
  pub appeals : All (λ (a : Appeal). IsDay a.lodged) (values_of r.appeals)

abbrev pub HasRowDay : Row → Type 0
HasRowDay (row.OfSession s x) = IsDay x.day
HasRowDay _ = Unit {0}

-- the rows of an import have such days
abbrev pub HasRowDays : Command → Type 0
HasRowDays (command.Import import) = All HasRowDay import.rows
HasRowDays _ = Unit {0}

-- What a crash at this moment may leave is opened, and this office is found in it. The disk returns what was written,
-- and the tables are ours.
pub record Reopens (crashed was now : Shown) (found : State) : Type 0 where
  pub left : crashed.may_leave was.now.trees
  pub ours : IsOurs was.now
  pub clean : HasCleanDisk now
  pub finds : Finds was now found

-- The database keeps that office. It is the one that was found in it, if the office has such days.
pub record IsFoundAs (db : Database) (found office : State) : Type 0 where
  pub kept : Keeps db office
  pub same : HasDays office.relations → found ≡ office

-- the office that was found is the one before the command, or the one that its step makes
abbrev pub IsBeforeOrAfter : Command → ℕ → State → Database → State → Type 0
IsBeforeOrAfter done today before db found =
    IsFoundAs db found before
    ⊎ ((reply : Reply) × (after : State) × Step done today before (Ok reply) after × IsFoundAs db found after)

-- The command is refused, the office stays, and the connection stays shut. A stop leaves only what it would have left
-- before the command.
pub record WritesNothing {S : Type 0} (g : Ghosts S) (old : OfficeIn S) (answer : Result Reply Refusal)
    (new : OfficeIn S) : Type 0 where
  pub refused : OnOk answer ⊥
  pub office : new.office ≡ old.office
  pub shut : (state g new.database).is_open ≡ false
  pub stop : (trees : Trees) → (state g new.database).may_leave trees → (state g old.database).may_leave trees

-- ---- a command of a store stops

-- The store was open and kept its office, and what a stop at any moment of the command left is opened: the office that
-- is found is the one before the command or after it.
abbrev pub FindBeforeOrAfter : {S T : Type 0} → Ghosts S → Ghosts T → Type 0
FindBeforeOrAfter {S} {T} g h =
    (done : Command) (today : ℕ) (old new : OfficeIn S) (answer : Result Reply Refusal) (was now : Held T)
    (found : State) → IsInOrder old.office → IsKept (state g old.database) old.office
    → IsTrue (state g old.database).is_open
    → IsApplied g done today old answer new → HasCleanDisk (state g new.database)
    → Reopens (state g new.database) (state h was) (state h now) found
    → IsBeforeOrAfter done today old.office (state h was).now found

-- once the command has answered, the office that is found is the one after it
abbrev pub FindAfterAnswer : {S T : Type 0} → Ghosts S → Ghosts T → Type 0
FindAfterAnswer {S} {T} g h =
    (done : Command) (today : ℕ) (old new : OfficeIn S) (answer : Result Reply Refusal) (was now : Held T)
    (found : State) → IsInOrder old.office → IsKept (state g old.database) old.office
    → IsApplied g done today old answer new → HasCleanDisk (state g new.database)
    → Reopens (state g new.database) (state h was) (state h now) found
    → OnOk answer (IsFoundAs (state h was).now found new.office)

-- over a connection that is shut, a command is refused and writes nothing
abbrev pub WriteNothingShut : {S : Type 0} → Ghosts S → Type 0
WriteNothingShut {S} g =
    (done : Command) (today : ℕ) (old new : OfficeIn S) (answer : Result Reply Refusal)
    → (state g old.database).is_open ≡ false
    → IsApplied g done today old answer new → HasCleanDisk (state g new.database)
    → WritesNothing g old answer new
