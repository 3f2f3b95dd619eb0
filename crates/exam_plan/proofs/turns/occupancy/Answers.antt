-- The counts are those of the places that were read so far; none passes the number of places.
use Rattle.exam_plan.proofs.Words.{length-set, get_or_default, plan_at, count_at}
use Rattle.std.proofs.Common.{rules, ◌≡◌, ◌≤◌, ◌<◌, ◌∙◌, get_or, arith}
use Rattle.exam_plan.proofs.Steps.{plan_at-get_or, count_at-le, met_some, met_none, place_below}
use Rattle.exam_plan.proofs.turns.occupancy.Goals as goal
use Rattle.exam_plan.proofs.turns.occupancy.Goals.{in-Some, in_default}

pub overflow_add-index_mut : goal.overflow_add-index_mut
overflow_add-index_mut c =
    let inside : c.in-Some.hall < c.args.halls =
    place_below c.args.plan.now c.args.halls c.loop-place.place-index c.in-Some.hall c.requires
    c.loop-place-test.true c.in-Some.is in
    let read : get_or c.loop-place.counts.items c.in-Some.hall c.index_mut.result.now
    ≡ get_or c.loop-place.counts.items c.in-Some.hall 0 =
    get_or_default c.loop-place.counts.items c.in-Some.hall c.index_mut.result.now 0
    (omega (arith, inside, c.loop-place.invariant.long)) in
    let is : get_or c.loop-place.counts.items c.in-Some.hall 0
    ≡ count_at (plan_at c.args.plan.now) c.in-Some.hall c.loop-place.place-index =
    c.loop-place.invariant.counts c.in-Some.hall inside in
    let few = count_at-le (plan_at c.args.plan.now) c.in-Some.hall c.loop-place.place-index in
    let le : c.index_mut.result.now ≤ c.loop-place.place-index =
    omega (arith, is, few, read, c.index_mut.ensures.value) in
    search rules

pub loop-place-preserved : goal.loop-place-preserved
loop-place-preserved c = elim c.match-place.branch [
  | in-Some w ↦ record {
    long = rw w.counts-is (simp length-set c.loop-place.invariant.long);
    counts = rw w.counts-is
        (met_some (plan_at c.args.plan.now) c.args.halls c.loop-place.place-index c.loop-place.counts.items
        c.loop-place.invariant.counts w.in-Some.hall w.index_mut.result.now
        (omega (arith, c.loop-place.invariant.long))
        (plan_at-get_or c.args.plan.now c.loop-place.place-index ∙ w.in-Some.is) w.index_mut.ensures.value);
  }
  | in_default w ↦ record {
    long = rw w.counts-is c.loop-place.invariant.long;
    counts = rw w.counts-is
        (met_none (plan_at c.args.plan.now) c.args.halls c.loop-place.place-index c.loop-place.counts.items
        c.loop-place.invariant.counts
        (plan_at-get_or c.args.plan.now c.loop-place.place-index ∙ w.in_default.is));
  }
]
