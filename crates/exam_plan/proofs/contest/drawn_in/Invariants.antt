use Rattle.exam_plan.proofs.Words.{range_with_len, plan_at, holds, is_drawn}
use Rattle.std.proofs.Common.{◌≡◌}
use Rattle.std.specs.Prelude.{filter}
use Rattle.exam_plan.proofs.contest.drawn_in.Given as goal

abbrev pub invariant-loop-candidate : goal.invariant-loop-candidate
invariant-loop-candidate l =
    l.candidates.items ≡ filter (λ c. is_drawn (holds l.marked) (plan_at l.plan c)) (range_with_len 0 l.candidate)
