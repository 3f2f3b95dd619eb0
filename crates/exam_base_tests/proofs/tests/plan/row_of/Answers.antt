use Rattle.std.proofs.Common.{false, get_or, ◌∙◌}
use Rattle.exam_plan.proofs.DrawLemmas.{filter_takes, filter_leaves}
use Rattle.exam_base_tests.proofs.tests.plan.row_of.Goals as goal
use Rattle.exam_base_tests.proofs.tests.plan.row_of.Goals.{then-fits+in_ok-push, else-fits}

pub loop-hall-preserved : goal.loop-hall-preserved
loop-hall-preserved c = elim c.if-fits.branch [
  | then-fits+in_ok-push w ↦ rw w.row-is
      (w.in_ok-push.ensures.items
      ∙ filter_takes (λ h. get_or c.args.marks.now h false) c.loop-hall.hall c.loop-hall.row.items
      c.loop-hall.invariant w.if-fits.true)
  | else-fits w ↦ rw w.row-is
      (filter_leaves (λ h. get_or c.args.marks.now h false) c.loop-hall.hall c.loop-hall.row.items
      c.loop-hall.invariant w.if-fits.false)
]
