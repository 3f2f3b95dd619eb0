-- What a command makes of the facts before the limits are tested: the first of the two steps of a change.
use Rattle.std.specs.Prelude.{◌≡◌, ℕ, Bool, true, false, Option, None}
use Rattle.exam_types.specs.declared.refusal.Refusal.{Refusal}
use Rattle.exam_rules.specs.Orders.{AreInOrder}
use Rattle.exam_rules.specs.Relations.{Relations}
use Rattle.exam_commands.specs.declared.command.Command.{Command}
use Rattle.exam_commands.specs.declared.command.Command.TheVariants as command
use Rattle.exam_commands.specs.Changes.{closing_refusal, revival_refusal, rows_refusal, with_live, with_rows}
use Rattle.exam_commands.specs.Changes.{without_opening, withdrawal_refusal}
use Rattle.exam_commands.specs.Decisions.{decision_refusal, with_decision}
use Rattle.exam_commands.specs.Good.{IsGood}
use Rattle.exam_commands.specs.Lodgings.{retraction_refusal, lodging_refusal_but_limits, with_lodging, with_retraction}
use Rattle.exam_commands.specs.State.{State}

-- the refusal by the checks on the facts and the plans as they are
abbrev pub early_refusal : Command → ℕ → State → Option Refusal
early_refusal (command.Import import) today before = rows_refusal before.relations import.rows
early_refusal (command.Withdraw c p) today before = withdrawal_refusal before.relations c p
early_refusal (command.Reinstate c p) today before = revival_refusal before.relations c p
early_refusal (command.CloseHall s h) today before = closing_refusal before.relations s h
early_refusal (command.Lodge l) today before = lodging_refusal_but_limits before.relations before.seats today l
early_refusal (command.Retract c reference) today before = retraction_refusal before.relations c reference
early_refusal (command.Decide d) today before = decision_refusal before.relations today d

-- the facts that the command makes, whether or not they pass a limit
abbrev pub facts_made : Command → ℕ → State → Relations
facts_made (command.Import import) today before = with_rows before.relations import.rows
facts_made (command.Withdraw c p) today before = with_live before.relations c p false
facts_made (command.Reinstate c p) today before = with_live before.relations c p true
facts_made (command.CloseHall s h) today before = without_opening before.relations s h
facts_made (command.Lodge l) today before = with_lodging before.relations today l
facts_made (command.Retract c reference) today before = with_retraction before.relations c reference
facts_made (command.Decide d) today before = with_decision before.relations d

-- commands that may pass a limit
abbrev pub may_pass_limit : Command → Bool
may_pass_limit (command.Import import) = true
may_pass_limit (command.Withdraw c p) = false
may_pass_limit (command.Reinstate c p) = true
may_pass_limit (command.CloseHall s h) = false
may_pass_limit (command.Lodge l) = true
may_pass_limit (command.Retract c reference) = false
may_pass_limit (command.Decide d) = false

-- The new facts are what the command, on some day, made of the old facts of a good office.
pub record WasMade (done : Command) (old new : Relations) : Type 0 where
  pub today : ℕ
  pub office : State
  pub good : IsGood office
  pub order : AreInOrder old
  pub facts : office.relations ≡ old
  pub early : early_refusal done today office ≡ None
  pub made : new ≡ facts_made done today office
