use Rattle.exam_plan.proofs.SweepSteps.{IsUnderWay}
use Rattle.exam_plan.proofs.calls.sweep_dead.Given as goal

abbrev pub invariant-loop-candidate : goal.invariant-loop-candidate
invariant-loop-candidate l = IsUnderWay l.problem l.fn.first l.fn.plan.items l.sweep l.candidate
