use Rattle.exam_plan.proofs.Words.{plan_at}
use Rattle.exam_plan.specs.Searches.{IsTable}
use Rattle.exam_plan.proofs.onward.Onward.note.Given as goal

abbrev pub invariant-loop-candidate : goal.invariant-loop-candidate
invariant-loop-candidate l = IsTable l.problem (plan_at l.plan.items) l.candidate l.self
