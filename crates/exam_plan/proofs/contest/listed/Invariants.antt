use Rattle.exam_plan.proofs.Words.{halls_below}
use Rattle.std.proofs.Common.{◌≡◌}
use Rattle.exam_plan.proofs.contest.listed.Given as goal

abbrev pub invariant-loop-hall : goal.invariant-loop-hall
invariant-loop-hall l = l.listed.items ≡ halls_below l.hall l.set
