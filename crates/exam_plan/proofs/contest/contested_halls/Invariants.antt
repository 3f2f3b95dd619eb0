use Rattle.exam_plan.proofs.Words.{holds, plan_at, IsMarked, Draws}
use Rattle.std.proofs.Common.{◌-◌, ℕ, length}
use Rattle.exam_plan.proofs.Counting.{count_below}
use Rattle.exam_plan.proofs.contest.contested_halls.Given as goal

abbrev pub invariant-spreading : goal.invariant-spreading
invariant-spreading l = (h : ℕ) → IsMarked (holds l.marked) h → (j : ℕ) × Draws l.problem (plan_at l.plan) j h

abbrev pub decreases-spreading : goal.decreases-spreading
decreases-spreading l = length l.problem.desk_counts - count_below (holds l.marked) (length l.problem.desk_counts)
