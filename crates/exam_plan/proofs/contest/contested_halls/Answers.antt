-- Whatever is marked draws somebody whom some best plan leaves out. A round that marks no more shows that the set is
-- closed; every other round marks one hall more, so there are no more rounds than halls.
use Rattle.exam_plan.proofs.Words.{most_halls, holds, plan_at}
use Rattle.std.proofs.Common.{◌≡◌, ◌<◌, ◌≤◌, ℕ, false, length, inl, arith}
use Rattle.std.specs.Prelude.{IsTrue}
use Rattle.exam_plan.proofs.Counting.{count_below-le-bound}
use Rattle.exam_plan.proofs.Steps.{first_none, first_some, within_other, beyond, holds_more}
use Rattle.exam_plan.proofs.DrawLemmas.{draws_more, draws_below, closed_after}
use Rattle.exam_plan.proofs.contest.contested_halls.Goals as goal

pub returns-then-is_none-clause-closed : goal.returns-then-is_none-clause-closed
returns-then-is_none-clause-closed c =
    closed_after c.args.problem.now (plan_at c.args.plan.now) (holds c.spreading.marked) (holds c.spread-next.result)
    (within_other c.spread-next.result c.spreading.marked c.minus.result c.minus.ensures
    (first_none c.first.result ((h : ℕ) → holds c.minus.result h ≡ false)
    (λ h. (h < most_halls) × IsTrue (holds c.minus.result h) × ((k : ℕ) → IsTrue (holds c.minus.result k) → h ≤ k))
    c.first.ensures c.if-is_none.ensures)) c.spread-next.ensures.spread

pub spreading-smaller : goal.spreading-smaller
spreading-smaller c =
    let some = (first_some c.first.result ((h : ℕ) → holds c.minus.result h ≡ false)
    (λ h. (h < most_halls) × IsTrue (holds c.minus.result h) × ((k : ℕ) → IsTrue (holds c.minus.result k) → h ≤ k))
    c.first.ensures c.if-is_none.ensures) in
    let new = beyond c.spread-next.result c.spreading.marked c.minus.result some.0 (c.minus.ensures some.0) some.1.1 in
    let drawn = draws_more c.args.problem.now (plan_at c.args.plan.now) (holds c.spreading.marked)
    (holds c.spread-next.result) c.spreading.invariant c.spread-next.ensures.spread some.0 new.0 in
    let more = holds_more c.spreading.marked c.spread-next.result (length c.args.problem.now.desk_counts) some.0
    (λ h t. (c.spread-next.ensures.spread h).1 (inl t))
    (draws_below c.args.problem.now (plan_at c.args.plan.now) c.spread-next.ensures.problem drawn.0 some.0 drawn.1)
    new.0 new.1 in
    let le = count_below-le-bound (holds c.spread-next.result) (length c.args.problem.now.desk_counts) in
    omega (arith, more, le)

pub spreading-preserved : goal.spreading-preserved
spreading-preserved c =
    draws_more c.args.problem.now (plan_at c.args.plan.now) (holds c.spreading.marked)
    (holds c.spread-next.result) c.spreading.invariant c.spread-next.ensures.spread
