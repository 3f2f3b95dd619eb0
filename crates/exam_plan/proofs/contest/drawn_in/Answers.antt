use Rattle.exam_plan.proofs.Words.{plan_at, holds, is_drawn}
use Rattle.std.proofs.Common.{sym, ap, ◌∙◌}
use Rattle.exam_plan.proofs.Steps.{plan_at-get_or}
use Rattle.exam_plan.proofs.DrawLemmas.{filter_takes, filter_leaves}
use Rattle.exam_plan.proofs.contest.drawn_in.Goals as goal
use Rattle.exam_plan.proofs.contest.drawn_in.Goals.{then-is_drawn_in+in_ok-push, else-is_drawn_in}

pub loop-candidate-preserved : goal.loop-candidate-preserved
loop-candidate-preserved c =
    let read = ap (is_drawn (holds c.args.marked)) (plan_at-get_or c.args.plan.now c.loop-candidate.candidate)
    ∙ sym c.is_drawn_in.ensures in
    elim c.if-is_drawn_in.branch [
      | then-is_drawn_in+in_ok-push w ↦ rw w.candidates-is
          (w.in_ok-push.ensures.items
          ∙ filter_takes (λ d. is_drawn (holds c.args.marked) (plan_at c.args.plan.now d)) c.loop-candidate.candidate
          c.loop-candidate.candidates.items c.loop-candidate.invariant (read ∙ w.if-is_drawn_in.true))
      | else-is_drawn_in w ↦ rw w.candidates-is
          (filter_leaves (λ d. is_drawn (holds c.args.marked) (plan_at c.args.plan.now d)) c.loop-candidate.candidate
          c.loop-candidate.candidates.items c.loop-candidate.invariant (read ∙ w.if-is_drawn_in.false))
    ]
