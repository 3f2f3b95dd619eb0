use Rattle.exam_plan.proofs.Words.{plan_at}
use Rattle.exam_plan.proofs.DeskOrder.{IsDeskOrder, IsNumberedUpTo}
use Rattle.exam_plan.proofs.numbering.desk_numbers.Given as goal

abbrev pub invariant-loop-candidate : goal.invariant-loop-candidate
invariant-loop-candidate l = record {
  order : IsDeskOrder l.problem l.candidate-items;
  so_far : IsNumberedUpTo l.problem l.candidate-items (plan_at l.plan) l.candidate-index l.taken l.numbers.items;
}
