use Rattle.exam_plan.proofs.Words.{holds}
use Rattle.std.proofs.Common.{◌≡◌, ℕ, true, length}
use Rattle.exam_plan.proofs.Counting.{count_below}
use Rattle.exam_plan.proofs.Tables.{ArePut}
use Rattle.exam_plan.proofs.onward.put_each.Given as goal

abbrev pub invariant-putting : goal.invariant-putting
invariant-putting l = record {
  long : length l.sets.items ≡ length l.initial.sets.items;
  within : (k : ℕ) → holds l.rest k ≡ true → holds l.fn.halls k ≡ true;
  put : ArePut l.initial.sets.items l.fn.halls l.fn.hall l.fn.inside l.rest l.sets.items;
}

abbrev pub decreases-putting : goal.decreases-putting
decreases-putting l = count_below (holds l.rest) (length l.sets.items)
