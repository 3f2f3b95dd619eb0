use Rattle.exam_plan.proofs.Words.{seating_of, where_fitting}
use Rattle.std.proofs.Common.{◌<◌, length, All, IfSome}
use Rattle.exam_plan.proofs.KeptLemmas.{IsFilteredBelow}
use Rattle.exam_plan.proofs.keeping.put_out_unfit.Given as goal

abbrev pub invariant-loop-candidate : goal.invariant-loop-candidate
invariant-loop-candidate l = record {
  exist : All (λ place. IfSome place (λ h. h < length l.problem.desk_counts)) l.plan;
  kept : IsFilteredBelow (where_fitting (seating_of l.problem)) l.initial.plan l.plan l.candidate;
}
