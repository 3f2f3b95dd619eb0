use Rattle.exam_plan.proofs.Words.{plan_at, count_at}
use Rattle.std.proofs.Common.{◌≡◌, ℕ, ◌<◌, length, get_or}
use Rattle.exam_plan.proofs.turns.occupancy.Given as goal

abbrev pub invariant-loop-place : goal.invariant-loop-place
invariant-loop-place l = record {
  long : length l.counts.items ≡ l.halls;
  counts : (h : ℕ) → h < l.halls → get_or l.counts.items h 0 ≡ count_at (plan_at l.plan) h l.place-index;
}
