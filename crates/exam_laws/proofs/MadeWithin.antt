-- Which limits the facts that a command has made can pass.
use Rattle.exam_laws.proofs.Words.{AreInOrder, Relations, appeal_count, Command, Lodging, most_appeals, within_limits}
use Rattle.std.proofs.Common.{◌≡◌, true, false, ap, sym, subst, ◌∙◌}
use Rattle.std.specs.Prelude.{nat_le}
use Rattle.std.proofs.lemmas.Bool.{true_from_ne_false, true≢false}
use Rattle.exam_commands.specs.declared.command.Command.TheVariants as command
use Rattle.exam_commands.specs.FactsMade.{WasMade, may_pass_limit}
use Rattle.exam_laws.proofs.FactsMade.{within_still}
use Rattle.exam_laws.proofs.LodgingLimits.{lodging_within}

pub still_within : (done : Command) (r t : Relations) → WasMade done r t → may_pass_limit done ≡ false
    → within_limits t ≡ true
still_within done r t was not_one =
    ap within_limits was.made
    ∙ within_still was.today was.office was.good (subst AreInOrder (sym was.facts) was.order) done not_one was.early

pub lodged_within : (l : Lodging) (r t : Relations) → WasMade (command.Lodge l) r t
    → within_limits t ≡ nat_le (appeal_count t l.number) most_appeals
lodged_within l r t was =
    ap within_limits was.made
    ∙ lodging_within was.office.relations was.good.limits was.office.seats was.today l was.early
    ∙ ap (λ (u : Relations). nat_le (appeal_count u l.number) most_appeals) (sym was.made)

-- if they pass one, the command is of a kind that may
pub past_may : (done : Command) (r t : Relations) → WasMade done r t → within_limits t ≡ false
    → may_pass_limit done ≡ true
past_may done r t was past =
    true_from_ne_false (may_pass_limit done) (λ not_one. true≢false (sym (still_within done r t was not_one) ∙ past))
