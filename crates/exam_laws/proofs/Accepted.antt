-- An accepted command passed the checks on the facts as they were, and its change is what it makes of them.
use Rattle.exam_laws.proofs.Words.{option_or, Refusal, Relations, Command, unless, early_refusal, facts_made, State}
use Rattle.exam_laws.proofs.Words.{change, neither}
use Rattle.std.proofs.Common.{◌≡◌, ℕ, Option, None, Some, Ok, refl}
use Rattle.exam_commands.specs.declared.command.Command.TheVariants as command

-- facts that are not refused
pub unrefused : (o : Option Refusal) (r t : Relations) → unless o r ≡ Ok t → (t ≡ r) × (o ≡ None)
unrefused None r t is = (cc, refl)
unrefused (Some e) r t is = absurd cc

-- facts that neither the first checks nor the limits refuse
within_too : (o limits : Option Refusal) (r t : Relations) → unless (option_or o limits) r ≡ Ok t
    → (t ≡ r) × (o ≡ None)
within_too o limits r t is = let all = unrefused (option_or o limits) r t is in (all.0, (neither o limits all.1).0)

pub change_made : (done : Command) (today : ℕ) (before : State) (t : Relations) → change done today before ≡ Ok t
    → (t ≡ facts_made done today before) × (early_refusal done today before ≡ None)
change_made (command.Import import) today before t is = within_too _ _ _ t is
change_made (command.Withdraw c p) today before t is = unrefused _ _ t is
change_made (command.Reinstate c p) today before t is = within_too _ _ _ t is
change_made (command.CloseHall s h) today before t is = unrefused _ _ t is
change_made (command.Lodge l) today before t is = within_too _ _ _ t is
change_made (command.Retract c reference) today before t is = unrefused _ _ t is
change_made (command.Decide d) today before t is = unrefused _ _ t is
