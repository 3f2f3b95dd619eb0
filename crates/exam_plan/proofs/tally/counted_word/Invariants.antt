use Rattle.exam_plan.proofs.Tallying.{IsCounted}
use Rattle.exam_plan.proofs.tally.counted_word.Given as goal

abbrev pub invariant-loop-digit : goal.invariant-loop-digit
invariant-loop-digit l = IsCounted l.digits l.digit-index l.counted
