-- All halls that were found lead back to the candidate, and those not yet followed are among them. Each round finds
-- one more or is the last, after which what sits in a found hall fits only found or dead ones.
use Rattle.exam_plan.proofs.Words.{most_halls, holds, plan_at}
use Rattle.std.proofs.Common.{◌≡◌, ◌<◌, ◌≤◌, ℕ, false, length, arith}
use Rattle.std.specs.Prelude.{IsTrue}
use Rattle.exam_plan.proofs.Counting.{count_below-le-bound}
use Rattle.exam_plan.proofs.Steps.{sits_below, first_none, first_some, leads_below, more_apart, more_leads, more_fits}
use Rattle.exam_plan.proofs.Steps.{more_grows, more_within, more_followed, led_closed}
use Rattle.exam_plan.proofs.chains.led_to.Goals as goal

pub widened-requires : goal.widened-requires
widened-requires c k t =
    let r = c.following.invariant.led k (c.following.invariant.within k t) in
    let below = leads_below c.args.problem.now
    (plan_at c.args.plan.now.items) c.args.candidate c.fitting.ensures.problem r.0 k r.1 in
    omega (arith, below, c.requires.halls)

pub returns-then-is_none-clause-closed : goal.returns-then-is_none-clause-closed
returns-then-is_none-clause-closed c =
    led_closed c.args.problem.now
    (plan_at c.args.plan.now.items) c.args.candidate c.args.onward.now c.requires.onward c.args.dead
    c.following.led c.following.fresh c.widened.result c.minus-more.result c.minus-fresh.result
    c.fitting.ensures.problem c.following.invariant.apart c.following.invariant.led c.following.invariant.within
    c.following.invariant.followed c.widened.ensures c.minus-more.ensures c.minus-fresh.ensures
    (first_none c.first.result ((h : ℕ) → holds c.minus-fresh.result h ≡ false)
    (λ h. (h < most_halls) × IsTrue (holds c.minus-fresh.result h)
    × ((k : ℕ) → IsTrue (holds c.minus-fresh.result k) → h ≤ k)) c.first.ensures c.if-is_none.ensures)
    (sits_below c.args.problem.now c.args.plan.now.items c.requires.plan)

pub following-smaller : goal.following-smaller
following-smaller c =
    let some = first_some c.first.result ((h : ℕ) → holds c.minus-fresh.result h ≡ false)
    (λ h. (h < most_halls) × IsTrue (holds c.minus-fresh.result h)
    × ((k : ℕ) → IsTrue (holds c.minus-fresh.result k) → h ≤ k)) c.first.ensures c.if-is_none.ensures in
    let more = more_grows c.args.problem.now
    (plan_at c.args.plan.now.items) c.args.candidate c.args.onward.now c.requires.onward c.args.dead
    c.following.led c.following.fresh c.widened.result c.minus-more.result c.minus-fresh.result
    c.fitting.ensures.problem c.following.invariant.apart c.following.invariant.led c.following.invariant.within
    c.following.invariant.followed c.widened.ensures c.minus-more.ensures c.minus-fresh.ensures some.0 some.1.1 in
    let le = count_below-le-bound (holds c.minus-more.result) (length c.args.problem.now.desk_counts) in
    omega (arith, more, le)

pub following-preserved : goal.following-preserved
following-preserved c = record {
  apart = more_apart c.args.problem.now
      (plan_at c.args.plan.now.items) c.args.candidate c.args.onward.now c.requires.onward c.args.dead c.following.led
      c.following.fresh c.widened.result c.minus-more.result c.minus-fresh.result c.fitting.ensures.problem
      c.following.invariant.apart c.following.invariant.led c.following.invariant.within c.following.invariant.followed
      c.widened.ensures c.minus-more.ensures c.minus-fresh.ensures;
  led = more_leads c.args.problem.now
      (plan_at c.args.plan.now.items) c.args.candidate c.args.onward.now c.requires.onward c.args.dead c.following.led
      c.following.fresh c.widened.result c.minus-more.result c.minus-fresh.result c.fitting.ensures.problem
      c.following.invariant.apart c.following.invariant.led c.following.invariant.within c.following.invariant.followed
      c.widened.ensures c.minus-more.ensures c.minus-fresh.ensures;
  fitting = more_fits c.args.problem.now
      (plan_at c.args.plan.now.items) c.args.candidate c.args.onward.now c.requires.onward c.args.dead c.following.led
      c.following.fresh c.widened.result c.minus-more.result c.minus-fresh.result c.fitting.ensures.problem
      c.following.invariant.apart c.following.invariant.led c.following.invariant.within c.following.invariant.followed
      c.widened.ensures c.minus-more.ensures c.minus-fresh.ensures c.following.invariant.fitting;
  within = more_within c.args.problem.now
      (plan_at c.args.plan.now.items) c.args.candidate c.args.onward.now c.requires.onward c.args.dead c.following.led
      c.following.fresh c.widened.result c.minus-more.result c.minus-fresh.result c.fitting.ensures.problem
      c.following.invariant.apart c.following.invariant.led c.following.invariant.within c.following.invariant.followed
      c.widened.ensures c.minus-more.ensures c.minus-fresh.ensures;
  followed = more_followed c.args.problem.now
      (plan_at c.args.plan.now.items) c.args.candidate c.args.onward.now c.requires.onward c.args.dead c.following.led
      c.following.fresh c.widened.result c.minus-more.result c.minus-fresh.result c.fitting.ensures.problem
      c.following.invariant.apart c.following.invariant.led c.following.invariant.within c.following.invariant.followed
      c.widened.ensures c.minus-more.ensures c.minus-fresh.ensures
      (sits_below c.args.problem.now c.args.plan.now.items c.requires.plan);
}
