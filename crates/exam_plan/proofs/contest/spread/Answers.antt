use Rattle.exam_plan.proofs.Words.{holds}
use Rattle.std.proofs.Common.{arith}
use Rattle.exam_plan.proofs.DrawLemmas.{spread_more, spread_skip, spread_all, union_marks}
use Rattle.exam_plan.proofs.contest.spread.Goals as goal
use Rattle.exam_plan.proofs.contest.spread.Goals.{then-is_drawn_in, else-is_drawn_in}

pub loop-candidate-preserved : goal.loop-candidate-preserved
loop-candidate-preserved c =
    elim c.if-is_drawn_in.branch [
      | then-is_drawn_in w ↦ rw w.next-is
          (spread_more c.args.problem.now c.args.plan.now (holds c.args.marked) (holds c.loop-candidate.next)
          (holds w.union-next.result) c.loop-candidate.candidate c.is_drawn_in.result c.loop-candidate.invariant
          c.is_drawn_in.ensures w.if-is_drawn_in.true
          (union_marks c.args.problem.now c.loop-candidate.candidate c.loop-candidate.next w.fitting.result
          w.union-next.result w.fitting.ensures.fits w.union-next.ensures))
      | else-is_drawn_in w ↦ rw w.next-is
          (spread_skip c.args.problem.now c.args.plan.now (holds c.args.marked)
          (holds c.loop-candidate.next) c.loop-candidate.candidate c.is_drawn_in.result c.loop-candidate.invariant
          c.is_drawn_in.ensures w.if-is_drawn_in.false)
    ]

pub returns-clause-spread : goal.returns-clause-spread
returns-clause-spread c =
    spread_all c.args.problem.now c.args.plan.now (holds c.args.marked)
    (holds c.loop-candidate.next) c.loop-candidate.candidate
    (omega (arith, c.loop-candidate-test.false, c.candidate_count-candidate-end.ensures.count))
    c.loop-candidate.invariant
