use Rattle.exam_plan.proofs.Words.{occupants, HasFreeDesk, plan_at, seating_of, count_at}
use Rattle.std.proofs.Common.{◌≡◌, ◌<◌, length, get_or, ap, ◌∙◌, arith}
use Rattle.exam_plan.proofs.TurnLemmas.{count_is, marks_with, marks_skip}
use Rattle.exam_plan.proofs.turns.free_halls.Goals as goal
use Rattle.exam_plan.proofs.turns.free_halls.Goals.{then-counts-hall, else-counts-hall}

pub loop-hall-preserved : goal.loop-hall-preserved
loop-hall-preserved c =
    let below : c.loop-hall.hall < length c.args.problem.now.desk_counts =
    omega (arith, c.loop-hall-test.true, c.hall_count-hall-end.ensures.count) in
    let counted = c.requires.counts c.loop-hall.hall below in
    let is : count_at (plan_at c.args.plan.now) c.loop-hall.hall (length c.args.plan.now)
    ≡ length (occupants (seating_of c.args.problem.now) (plan_at c.args.plan.now) c.loop-hall.hall) =
    ap (count_at (plan_at c.args.plan.now) c.loop-hall.hall) c.requires.whole
    ∙ count_is c.args.problem.now (plan_at c.args.plan.now) c.loop-hall.hall in
    elim c.if-counts-hall.branch [
      | then-counts-hall w ↦ rw w.free-is
          (marks_with (HasFreeDesk (seating_of c.args.problem.now) (plan_at c.args.plan.now)) c.loop-hall.free
          w.with-free.result c.loop-hall.hall c.loop-hall.invariant w.with-free.ensures
          (omega (arith, counted, is, w.if-counts-hall.true, c.desk_count.ensures)))
      | else-counts-hall w ↦ rw w.free-is
          (marks_skip (HasFreeDesk (seating_of c.args.problem.now) (plan_at c.args.plan.now)) c.loop-hall.free
          c.loop-hall.hall c.loop-hall.invariant
          (λ f. let l : length
          (occupants (seating_of c.args.problem.now) (plan_at c.args.plan.now) c.loop-hall.hall) < get_or
          c.args.problem.now.desk_counts c.loop-hall.hall 0 = f in
          omega (arith, l, counted, is, w.if-counts-hall.false, c.desk_count.ensures)))
    ]
