use Rattle.exam_plan.proofs.Words.{range_with_len, plan_at}
use Rattle.std.proofs.Common.{◌≡◌, length, is_none}
use Rattle.std.specs.Prelude.{filter}
use Rattle.exam_plan.proofs.contest.unseated_count.Given as goal

abbrev pub invariant-loop-candidate : goal.invariant-loop-candidate
invariant-loop-candidate l = l.count ≡ length (filter (λ c. is_none (plan_at l.plan c)) (range_with_len 0 l.candidate))
