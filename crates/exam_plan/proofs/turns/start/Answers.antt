use Rattle.exam_plan.proofs.Words.{length-replicate, holds, HasFreeDesk, plan_at, seating_of, MarksAll, count_at}
use Rattle.std.proofs.Common.{◌≡◌, ◌+◌, ℕ, List, Option, length, get_or, false, true, ap, sym, ◌∙◌, arith, subst}
use Rattle.exam_plan.proofs.Listing.{none_below, none_distinct, nothing_listed}
use Rattle.exam_plan.proofs.TurnLemmas.{none_closed}
use Rattle.exam_plan.proofs.turns.start.Goals as goal

pub returns-clause-kept : goal.returns-clause-kept
returns-clause-kept c = record {
  plan = c.requires.plan;
  lawful = c.requires.lawful;
  halls = c.in_ok-counts.ensures.sized ∙ c.hall_count-halls.ensures.count;
  counts = λ h below. (let R : List (Option ℕ)
      → Type 0 = λ m. get_or c.in_ok-counts.counts.items h 0 ≡ count_at (plan_at m) h (length m) in
      let e = subst R c.as_slice.ensures.value
      (c.in_ok-counts.ensures.counts h (omega (arith, below, c.hall_count-halls.ensures.count))) in
      e ∙ ap (count_at (plan_at c.args.plan.items) h) c.requires.plan.whole);
  free = (let R : List (Option ℕ) → Type 0 =
      λ m. MarksAll (holds c.free_halls-free.result) (HasFreeDesk (seating_of c.args.problem.now) (plan_at m)) in
      subst R c.as_slice-2.ensures.value c.free_halls-free.ensures);
  closed = none_closed c.args.problem.now (plan_at c.args.plan.items) c.empty.result c.empty.ensures;
  traced = λ h m. let z : false ≡ true = sym (c.empty.ensures h) ∙ m in cc;
  listed = nothing_listed c.in_ok-with_capacity.field-0.items c.empty.result c.in_ok-with_capacity.ensures.items
      c.empty.ensures;
  once = none_distinct c.in_ok-with_capacity.field-0.items c.in_ok-with_capacity.ensures.items;
  many = ap length c.in_ok-with_capacity.ensures.items
      ∙ sym (none_below (holds c.empty.result) (length c.args.problem.now.desk_counts) c.empty.ensures);
  room = omega (arith, c.in_ok-with_capacity.ensures.capacity, c.hall_count-halls.ensures.count);
  onward = c.in_ok-new.ensures.kept (plan_at c.args.plan.items);
  layers = rw (c.in_ok-vec.ensures.items_if_clones_equal (λ y h. h))
      (length-replicate (c.hall_count-halls.result + 1) c.empty-2.result
      ∙ ap (λ n. n + 1) c.hall_count-halls.ensures.count);
}
