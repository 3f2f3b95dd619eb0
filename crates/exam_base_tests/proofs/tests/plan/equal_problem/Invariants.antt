use Rattle.std.proofs.Common.{◌≡◌, ◌<◌, ◌^◌, length}
use Rattle.std.specs.Prelude.{All}
use Rattle.exam_plan.specs.HallSets.{sets_of}
use Rattle.exam_base_tests.proofs.tests.plan.equal_problem.Given as goal

abbrev pub invariant-filling : goal.invariant-filling
invariant-filling l = record {
  count : length l.masks.items ≡ l.counter;
  exist : All (λ set. set < 2 ^ l.fn.halls) (sets_of l.masks.items);
}
