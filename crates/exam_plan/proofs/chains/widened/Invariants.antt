use Rattle.exam_plan.proofs.Words.{holds}
use Rattle.std.proofs.Common.{◌≡◌, ℕ, true, length}
use Rattle.exam_plan.proofs.Counting.{count_below}
use Rattle.exam_plan.proofs.Steps.{IsUnited}
use Rattle.exam_plan.proofs.chains.widened.Given as goal

abbrev pub invariant-uniting : goal.invariant-uniting
invariant-uniting l = record {
  fresh : (k : ℕ) → holds l.rest k ≡ true → holds l.fn.fresh k ≡ true;
  united : IsUnited l.inward l.fn.marked l.fn.fresh l.rest l.next;
}

abbrev pub decreases-uniting : goal.decreases-uniting
decreases-uniting l = count_below (holds l.rest) (length l.inward)
