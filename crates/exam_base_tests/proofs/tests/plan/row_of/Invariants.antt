use Rattle.std.proofs.Common.{◌≡◌, get_or, false}
use Rattle.std.specs.Prelude.{filter}
use Rattle.std.specs.List.{range_with_len}
use Rattle.exam_base_tests.proofs.tests.plan.row_of.Given as goal

abbrev pub invariant-loop-hall : goal.invariant-loop-hall
invariant-loop-hall l = l.row.items ≡ filter (λ h. get_or l.marks h false) (range_with_len 0 l.hall)
