use Rattle.exam_plan.proofs.Words.{holds, plan_at}
use Rattle.std.proofs.Common.{◌≡◌, ◌<◌, ℕ, Some}
use Rattle.exam_plan.specs.Searches.{IsTouching}
use Rattle.exam_plan.proofs.chains.first_mover.Given as goal

abbrev pub invariant-loop-candidate : goal.invariant-loop-candidate
invariant-loop-candidate l = (e : ℕ) → e < l.candidate → plan_at l.plan.items e ≡ Some l.hall
    → IsTouching l.problem (holds l.marked) e → ⊥
