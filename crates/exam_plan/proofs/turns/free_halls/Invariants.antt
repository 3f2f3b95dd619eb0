use Rattle.exam_plan.proofs.Words.{holds, HasFreeDesk, plan_at, seating_of, MarksAll}
use Rattle.std.proofs.Common.{◌<◌}
use Rattle.exam_plan.proofs.turns.free_halls.Given as goal

abbrev pub invariant-loop-hall : goal.invariant-loop-hall
invariant-loop-hall l =
    MarksAll (holds l.free) (λ h. (h < l.hall) × HasFreeDesk (seating_of l.problem) (plan_at l.plan) h)
