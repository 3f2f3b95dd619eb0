use Rattle.std.proofs.Common.{◌≡◌, ◌<◌, length}
use Rattle.std.specs.Prelude.{All}
use Rattle.std.specs.List.Sorted.{IsStrictlySortedBy}
use Rattle.std.specs.Ordering.{nat_cmp}
use Rattle.exam_base_tests.proofs.tests.plan.rows_of.Given as goal

abbrev pub invariant-loop-marks : goal.invariant-loop-marks
invariant-loop-marks l = record {
  count : length l.rows.items ≡ l.marks-index;
  rising : All (λ row. IsStrictlySortedBy nat_cmp row.items) l.rows.items;
  exist : All (λ row. All (λ h. h < 3) row.items) l.rows.items;
}
