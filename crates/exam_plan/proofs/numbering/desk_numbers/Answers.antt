-- In the order of desks each candidate gets one number more than those before them in their hall: the count of that
-- hall. A count is at most the number of candidates, so it fits into 32 bits.
use Rattle.exam_plan.proofs.Words.{range_with_len, get_or-set_same, behind_rank, plan_at}
use Rattle.std.proofs.Common.{rules, ◌≡◌, ◌∙◌, ◌+◌, ◌<◌, ◌≤◌, length, get_or, replicate, map, None, sym, subst, arith}
use Rattle.std.specs.Prelude.{IsSorted}
use Rattle.std.specs.List.Sorted.{IsPermutation}
use Rattle.exam_plan.specs.DeskOrder.{rank_cmp}
use Rattle.exam_plan.proofs.DeskOrder.{none_numbered, taken_few, order_long, candidate_below, skipped, given}
use Rattle.exam_plan.proofs.DeskOrder.{all_numbered}
use Rattle.exam_plan.proofs.Steps.{plan_at-get_or}
use Rattle.exam_plan.proofs.numbering.desk_numbers.Goals as goal
use Rattle.exam_plan.proofs.numbering.desk_numbers.Goals.{in-Some, in_default}

pub loop-candidate-init : goal.loop-candidate-init
loop-candidate-init c =
    let blank : c.in_ok-numbers.numbers.items ≡ replicate c.candidate_count.result None = search rules in
    record {
      order = record {
        all = subst (IsPermutation
            (map (behind_rank c.args.problem.now) (range_with_len 0 (length c.args.problem.now.fit))))
            (sym c.deref-candidate-items.ensures.value) c.in_ok-order.ensures.all;
        rising = subst (IsSorted rank_cmp) (sym c.deref-candidate-items.ensures.value) c.in_ok-order.ensures.rising;
      };
      so_far = none_numbered c.args.problem.now c.deref-candidate-items.result.now
          (plan_at c.args.plan.now) c.no_counts-taken.result c.in_ok-numbers.numbers.items c.candidate_count.result
          c.candidate_count.ensures.count blank c.no_counts-taken.ensures.room c.no_counts-taken.ensures.none;
    }

pub offset_bounds-plan-candidate : goal.offset_bounds-plan-candidate
offset_bounds-plan-candidate c =
    let below = candidate_below c.args.problem.now c.deref-candidate-items.result.now c.loop-candidate.invariant.order
    c.loop-candidate.candidate-index (omega arith) in
    let inside : (get_or c.deref-candidate-items.result.now c.loop-candidate.candidate-index (0, 0)).1 < length
    c.args.plan.now = omega (arith, below, c.requires.whole) in
    search rules

pub bounds : goal.bounds
bounds c =
    let below = candidate_below c.args.problem.now c.deref-candidate-items.result.now c.loop-candidate.invariant.order
    c.loop-candidate.candidate-index (omega arith) in
    omega (arith, below, c.requires.whole)

pub overflow_add-taken : goal.overflow_add-taken
overflow_add-taken c =
    let few = taken_few c.args.problem.now c.deref-candidate-items.result.now c.args.plan.now
    c.loop-candidate.candidate-index c.in-Some.hall c.loop-candidate.taken c.loop-candidate.numbers.items
    c.loop-candidate.invariant.order c.requires.whole c.requires.exist c.loop-candidate-test.true c.in-Some.is
    c.loop-candidate.invariant.so_far in
    let le : get_or c.loop-candidate.taken c.in-Some.hall 0 ≤ c.loop-candidate.candidate-index = few.1 in
    search rules

pub overflow_cast-taken : goal.overflow_cast-taken
overflow_cast-taken c =
    let few = taken_few c.args.problem.now c.deref-candidate-items.result.now c.args.plan.now
    c.loop-candidate.candidate-index c.in-Some.hall c.loop-candidate.taken c.loop-candidate.numbers.items
    c.loop-candidate.invariant.order c.requires.whole c.requires.exist c.loop-candidate-test.true c.in-Some.is
    c.loop-candidate.invariant.so_far in
    let new = get_or-set_same c.loop-candidate.taken c.in-Some.hall
    (get_or c.loop-candidate.taken c.in-Some.hall 0 + 1) 0
    (omega (arith, few.0, c.loop-candidate.invariant.so_far.room)) in
    let long = order_long c.args.problem.now c.deref-candidate-items.result.now c.loop-candidate.invariant.order in
    omega (arith, new, few.1, long, c.candidate_count.ensures.problem.few, c.loop-candidate-test.true)

pub loop-candidate-preserved : goal.loop-candidate-preserved
loop-candidate-preserved c = elim c.match-plan-candidate.branch [
  | in-Some w ↦ record {
    order = c.loop-candidate.invariant.order;
    so_far = rw (w.numbers-is, w.taken-is)
        (given c.args.problem.now c.deref-candidate-items.result.now
        (plan_at c.args.plan.now) c.loop-candidate.candidate-index c.loop-candidate.taken c.loop-candidate.numbers.items
        c.loop-candidate.invariant.order c.candidate_count.ensures.problem c.loop-candidate-test.true
        c.loop-candidate.invariant.so_far w.in-Some.hall
        (plan_at-get_or c.args.plan.now
        (get_or c.deref-candidate-items.result.now c.loop-candidate.candidate-index (0, 0)).1 ∙ w.in-Some.is)
        (taken_few c.args.problem.now c.deref-candidate-items.result.now c.args.plan.now
        c.loop-candidate.candidate-index w.in-Some.hall c.loop-candidate.taken c.loop-candidate.numbers.items
        c.loop-candidate.invariant.order c.requires.whole c.requires.exist c.loop-candidate-test.true w.in-Some.is
        c.loop-candidate.invariant.so_far).0);
  }
  | in_default w ↦ record {
    order = c.loop-candidate.invariant.order;
    so_far = rw (w.numbers-is, w.taken-is)
        (skipped c.args.problem.now c.deref-candidate-items.result.now
        (plan_at c.args.plan.now) c.loop-candidate.candidate-index c.loop-candidate.taken c.loop-candidate.numbers.items
        c.loop-candidate.invariant.order c.candidate_count.ensures.problem c.loop-candidate-test.true
        c.loop-candidate.invariant.so_far
        (plan_at-get_or c.args.plan.now
        (get_or c.deref-candidate-items.result.now c.loop-candidate.candidate-index (0, 0)).1 ∙ w.in_default.is));
  }
]

pub returns-clause-numbers : goal.returns-clause-numbers
returns-clause-numbers c =
    all_numbered c.args.problem.now c.deref-candidate-items.result.now
    (plan_at c.args.plan.now) c.loop-candidate.candidate-index c.loop-candidate.taken c.loop-candidate.numbers.items
    c.loop-candidate.invariant.order c.candidate_count.ensures.problem c.loop-candidate-test.false
    c.loop-candidate.invariant.so_far
