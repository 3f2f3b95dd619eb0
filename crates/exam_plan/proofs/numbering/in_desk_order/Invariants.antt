use Rattle.exam_plan.proofs.Words.{range_with_len, behind_rank}
use Rattle.std.proofs.Common.{◌≡◌, map}
use Rattle.exam_plan.proofs.numbering.in_desk_order.Given as goal

abbrev pub invariant-loop-candidate : goal.invariant-loop-candidate
invariant-loop-candidate l = l.order.items ≡ map (behind_rank l.problem) (range_with_len 0 l.candidate)
