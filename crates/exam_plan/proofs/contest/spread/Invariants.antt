use Rattle.exam_plan.proofs.Words.{holds}
use Rattle.exam_plan.proofs.DrawLemmas.{IsSpread}
use Rattle.exam_plan.proofs.contest.spread.Given as goal

abbrev pub invariant-loop-candidate : goal.invariant-loop-candidate
invariant-loop-candidate l = IsSpread l.problem l.plan (holds l.marked) (holds l.next) l.candidate
