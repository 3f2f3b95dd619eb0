use Rattle.exam_plan.proofs.Words.{holds, LeadsTo, IsMarked, plan_at, seating_of}
use Rattle.std.proofs.Common.{◌-◌, ◌⊎◌, ℕ, length}
use Rattle.std.specs.Prelude.{IsTrue}
use Rattle.exam_plan.proofs.Counting.{count_below}
use Rattle.exam_plan.proofs.Steps.{IsFollowed}
use Rattle.exam_plan.proofs.chains.led_to.Given as goal

abbrev pub invariant-following : goal.invariant-following
invariant-following l = record {
  apart : (h : ℕ) → IsMarked (holds l.led) h → IsMarked (holds l.dead) h → ⊥;
  led : (h : ℕ) → IsMarked (holds l.led) h
      → (j : ℕ) × LeadsTo (seating_of l.problem) (plan_at l.plan.items) l.candidate j h;
  fitting : (h : ℕ) → IsTrue ((seating_of l.problem).fits l.candidate h)
      → IsMarked (holds l.led) h ⊎ IsMarked (holds l.dead) h;
  within : (h : ℕ) → IsMarked (holds l.fresh) h → IsMarked (holds l.led) h;
  followed : IsFollowed l.problem (plan_at l.plan.items) l.candidate l.led l.fresh l.dead;
}

abbrev pub decreases-following : goal.decreases-following
decreases-following l = length l.problem.desk_counts - count_below (holds l.led) (length l.problem.desk_counts)
