use Rattle.std.proofs.Common.{rules, ◌≡◌, ◌<◌, false, length, get_or}
use Rattle.std.specs.Prelude.{All}
use Rattle.std.specs.List.Sorted.{IsStrictlySortedBy}
use Rattle.std.specs.Ordering.{nat_cmp}
use Rattle.std.proofs.lemmas.List.Elements.{All-push}
use Rattle.exam_plan.proofs.Steps.{length_push}
use Rattle.exam_base_tests.proofs.TinyProblems.{row_rises, row_exists}
use Rattle.exam_base_tests.proofs.tests.plan.rows_of.Goals as goal

pub loop-marks-preserved : goal.loop-marks-preserved
loop-marks-preserved c =
    let three : length c.as_slice.result.now ≡ 3 = search rules in
    record {
      count = rw c.in_ok-push.ensures.items
          (length_push c.loop-marks.rows.items c.in_ok-row_of.field-0 c.loop-marks.marks-index
          c.loop-marks.invariant.count);
      rising = rw c.in_ok-push.ensures.items
          (All-push (λ row. IsStrictlySortedBy nat_cmp row.items) c.loop-marks.rows.items c.in_ok-row_of.field-0
          c.loop-marks.invariant.rising
          (row_rises c.in_ok-row_of.field-0.items (λ h. get_or c.as_slice.result.now h false)
          (length c.as_slice.result.now) c.in_ok-row_of.ensures.indices));
      exist = rw c.in_ok-push.ensures.items
          (All-push (λ row. All (λ h. h < 3) row.items) c.loop-marks.rows.items c.in_ok-row_of.field-0
          c.loop-marks.invariant.exist
          (row_exists c.in_ok-row_of.field-0.items (λ h. get_or c.as_slice.result.now h false)
          (length c.as_slice.result.now) 3 c.in_ok-row_of.ensures.indices three));
    }
