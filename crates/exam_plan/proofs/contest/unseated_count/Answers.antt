use Rattle.exam_plan.proofs.Words.{range_with_len, plan_at}
use Rattle.std.proofs.Common.{rules, ◌≡◌, ◌≤◌, length, is_none, ap, arith}
use Rattle.std.specs.Prelude.{filter}
use Rattle.exam_plan.proofs.Counting.{bit}
use Rattle.exam_plan.proofs.DrawLemmas.{length_next, length_below, none_test}
use Rattle.exam_plan.proofs.contest.unseated_count.Goals as goal
use Rattle.exam_plan.proofs.contest.unseated_count.Goals.{then-is_none, else-is_none}

pub overflow_add-count : goal.overflow_add-count
overflow_add-count c =
    let counted : c.loop-candidate.count
    ≡ length (filter (λ d. is_none (plan_at c.args.plan.now d)) (range_with_len 0 c.loop-candidate.candidate)) =
    c.loop-candidate.invariant in
    let few = length_below (λ d. is_none (plan_at c.args.plan.now d)) c.loop-candidate.candidate in
    let le : c.loop-candidate.count ≤ c.loop-candidate.candidate = omega (arith, counted, few) in
    search rules

pub loop-candidate-preserved : goal.loop-candidate-preserved
loop-candidate-preserved c =
    let more = length_next
    (λ d. is_none (plan_at c.args.plan.now d)) c.loop-candidate.candidate c.loop-candidate.count c.is_none.result
    c.loop-candidate.invariant
    (none_test c.args.plan.now c.loop-candidate.candidate c.is_none.result c.is_none.ensures) in
    elim c.if-is_none.branch [
      | then-is_none w ↦ rw w.count-is
          (let b : bit c.is_none.result ≡ 1 = ap bit w.if-is_none.true in omega (arith, more, b))
      | else-is_none w ↦ rw w.count-is
          (let b : bit c.is_none.result ≡ 0 = ap bit w.if-is_none.false in omega (arith, more, b))
    ]
