use Rattle.exam_plan.proofs.Words.{holds}
use Rattle.std.proofs.Common.{sym, ◌∙◌}
use Rattle.exam_plan.proofs.DrawLemmas.{filter_takes, filter_leaves}
use Rattle.exam_plan.proofs.contest.listed.Goals as goal
use Rattle.exam_plan.proofs.contest.listed.Goals.{then-contains+in_ok-push, else-contains}

pub loop-hall-preserved : goal.loop-hall-preserved
loop-hall-preserved c = elim c.if-contains.branch [
  | then-contains+in_ok-push w ↦ rw w.listed-is
      (w.in_ok-push.ensures.items
      ∙ filter_takes (holds c.args.set) c.loop-hall.hall c.loop-hall.listed.items c.loop-hall.invariant
      (sym c.contains.ensures ∙ w.if-contains.true))
  | else-contains w ↦ rw w.listed-is
      (filter_leaves (holds c.args.set) c.loop-hall.hall c.loop-hall.listed.items c.loop-hall.invariant
      (sym c.contains.ensures ∙ w.if-contains.false))
]
