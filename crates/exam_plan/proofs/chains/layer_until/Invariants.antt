use Rattle.exam_plan.proofs.Words.{holds, MarksAll, Reaches, CanReach, plan_at}
use Rattle.std.proofs.Common.{◌≡◌, ◌-◌, ◌<◌, ◌≤◌, ◌+◌, ℕ, length}
use Rattle.exam_plan.specs.Searches.{AreLayers}
use Rattle.exam_plan.proofs.Counting.{count_below}
use Rattle.exam_plan.proofs.Steps.{IsFresh}
use Rattle.exam_plan.proofs.chains.layer_until.Given as goal

abbrev pub invariant-widening : goal.invariant-widening
invariant-widening l = record {
  room : length l.layers.items ≡ length l.problem.desk_counts + 1;
  reached : MarksAll (holds l.reached) (Reaches l.problem (plan_at l.plan.items) l.hops);
  fresh : IsFresh l.inward l.reached l.fresh;
  many : l.hops ≤ count_below (holds l.reached) (length l.problem.desk_counts);
  layers : AreLayers l.problem (plan_at l.plan.items) l.hops l.layers.items;
  far : (j : ℕ) → j < l.hops → CanReach l.problem (plan_at l.plan.items) j l.candidate → ⊥;
}

abbrev pub decreases-widening : goal.decreases-widening
decreases-widening l = length l.problem.desk_counts - count_below (holds l.reached) (length l.problem.desk_counts)
