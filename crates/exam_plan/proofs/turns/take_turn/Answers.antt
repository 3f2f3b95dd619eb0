-- Whoever sits, or can only sit in dead halls, has no chain. Where a search finds one, it moves everybody along it and
-- its last hall has one occupant more; where it finds none, all halls that the candidate leads to are dead from now
-- on.
use Rattle.exam_plan.proofs.Words.{length-set, get_or_default, holds, halls_below, plan_at, IsMarked, IsSettled}
use Rattle.exam_plan.proofs.Words.{AreOnward, count_at}
use Rattle.std.proofs.Common.{◌≡◌, ◌+◌, ◌<◌, ◌≤◌, ◌++◌, ℕ, List, None, is_some, length, get_or, set, refl, sym, ap, ◌∙◌}
use Rattle.std.proofs.Common.{inl, inr, subst, arith, rules}
use Rattle.exam_plan.proofs.Steps.{count_at-le, within_other, leads_below}
use Rattle.exam_plan.proofs.Tables.{onward_of}
use Rattle.exam_plan.proofs.Listing.{room_left, after_lists, after_once, after_many}
use Rattle.exam_plan.proofs.TurnLemmas.{IsTurned, turned, stays_put, settled_deaths, chain_deaths, both_deaths}
use Rattle.exam_plan.proofs.TurnLemmas.{counts_after, free_after, both_closed, both_within, both_traced, both_settled}
use Rattle.exam_plan.proofs.TurnLemmas.{seated_at, none_of}
use Rattle.exam_plan.proofs.turns.take_turn.Goals as goal
use Rattle.exam_plan.proofs.turns.take_turn.Goals.{then-is_some-via-then-is_some}
use Rattle.exam_plan.proofs.turns.take_turn.Goals.{then-is_some-via-else-is_some+then-is_empty}

settled : (c : goal.Joined-then-is_some)
    → IsSettled c.args.problem.now (plan_at c.args.sweep.now.plan.items) (holds c.args.sweep.now.dead) c.args.candidate
settled c = elim c.then-is_some.branch [
  | then-is_some-via-then-is_some w ↦ inl
      (ap is_some (seated_at c.args.sweep.now.plan.items c.args.candidate c.index.result.now
      (omega (arith, c.requires.kept.plan.whole, c.requires.candidate)) c.index.ensures) ∙ sym c.is_some.ensures
      ∙ w.if-is_some.true)
  | then-is_some-via-else-is_some+then-is_empty w ↦ inr
      (λ k fit. within_other w.fitting.result c.args.sweep.now.dead w.minus.result w.minus.ensures
      (w.is_empty.ensures.0 w.if-is_empty.true) k (w.fitting.ensures.fits k ∙ fit))
]

pub returns-then-is_some : goal.returns-then-is_some
returns-then-is_some c = record {
  kept = c.requires.kept;
  seated = λ d s. s;
  turn = stays_put c.args.problem.now (plan_at c.args.sweep.now.plan.items)
      (holds c.args.sweep.now.dead) c.requires.kept.closed c.args.candidate (settled c);
  deaths = settled_deaths c.args.problem.now (plan_at c.args.sweep.now.plan.items)
      (holds c.args.sweep.now.dead) c.requires.kept.closed c.args.candidate
      (settled c) c.args.sweep.now.listed.items c.requires.kept.listed;
  settled = settled c;
  others = λ d s. s;
}

pub overflow_add-index_mut : goal.overflow_add-index_mut
overflow_add-index_mut c =
    let counted = c.requires.kept.counts c.advance-last.result c.advance-last.ensures.last in
    let read : get_or c.args.sweep.now.counts.items c.advance-last.result c.index_mut.result.now
    ≡ get_or c.args.sweep.now.counts.items c.advance-last.result 0 =
    get_or_default c.args.sweep.now.counts.items c.advance-last.result c.index_mut.result.now 0
    (omega (arith, c.advance-last.ensures.last, c.requires.kept.halls)) in
    let le = count_at-le (plan_at c.args.sweep.now.plan.items) c.advance-last.result (length c.args.problem.now.fit) in
    let few : length c.args.problem.now.fit ≤ 4096 = c.fitting.ensures.problem.few in
    let l : c.index_mut.result.now ≤ 4096 = omega (arith, counted, read, le, few, c.index_mut.ensures.value) in
    search rules

pub led_to-led-requires-clause-onward : goal.led_to-led-requires-clause-onward
led_to-led-requires-clause-onward c =
    subst (λ (s : List ℕ). AreOnward c.args.problem.now (plan_at c.args.sweep.now.plan.items) s)
    (sym c.as_slice-onward.ensures.value)
    (onward_of c.args.problem.now c.args.sweep.now.plan.items c.search_chain.new.onward c.requires.kept.plan.whole
    c.in-None.ensures.onward (c.in-None.ensures.none refl))

pub list_halls-requires : goal.list_halls-requires
list_halls-requires c =
    let many : length c.args.sweep.now.listed.items ≡ length (halls_below c.hall_count.result c.args.sweep.now.dead) =
    c.requires.kept.many
    ∙ ap (λ n. length (halls_below n c.args.sweep.now.dead)) (sym c.hall_count.ensures.count) in
    let room = room_left c.hall_count.result c.args.sweep.now.dead c.led_to-led.result
    (length c.args.sweep.now.listed.items) c.led_to-led.ensures.apart many in
    omega (arith, room, c.requires.kept.room, c.hall_count.ensures.count)

pub returns-in-Some : goal.returns-in-Some
returns-in-Some c =
    let unseated : plan_at c.args.sweep.now.plan.items c.args.candidate ≡ None =
    (seated_at c.args.sweep.now.plan.items c.args.candidate c.index.result.now
    (omega (arith, c.requires.kept.plan.whole, c.requires.candidate)) c.index.ensures
    ∙ none_of c.index.result.now c.is_some.result c.is_some.ensures c.if-is_some.false) in
    let t : IsTurned c.args.problem.now (plan_at c.args.sweep.now.plan.items)
    (holds c.args.sweep.now.dead) c.args.candidate c.advance-last.result (plan_at c.advance-last.new.plan.items) =
    turned c.args.problem.now (plan_at c.args.sweep.now.plan.items)
    (holds c.args.sweep.now.dead) c.requires.kept.closed c.requires.kept.lawful c.args.candidate unseated
    c.in-Some.hops c.advance-last.result
    (plan_at c.advance-last.new.plan.items) c.advance-last.ensures.moved c.in-Some.ensures.found.3 in
    let counts = counts_after c.args.problem.now (plan_at c.args.sweep.now.plan.items)
    (plan_at c.advance-last.new.plan.items) c.advance-last.result t.occupied c.args.sweep.now.counts.items
    c.index_mut.result.now c.requires.kept.halls c.advance-last.ensures.last c.requires.kept.counts
    c.index_mut.ensures.value in
    let long : length (set c.args.sweep.now.counts.items c.advance-last.result (c.index_mut.result.now + 1))
    ≡ length c.args.problem.now.desk_counts = simp length-set c.requires.kept.halls in
    let now : c.index-in-Some.result.now
    ≡ count_at (plan_at c.advance-last.new.plan.items) c.advance-last.result (length c.args.problem.now.fit) =
    c.index-in-Some.ensures
    ∙ get_or_default (set c.args.sweep.now.counts.items c.advance-last.result (c.index_mut.result.now + 1))
    c.advance-last.result c.index-in-Some.result.now 0 (omega (arith, long, c.advance-last.ensures.last))
    ∙ counts c.advance-last.result c.advance-last.ensures.last in
    record {
      kept = record {
        plan = c.advance-last.ensures.plan;
        lawful = t.lawful;
        halls = long;
        counts = counts;
        free = free_after c.args.problem.now (plan_at c.args.sweep.now.plan.items)
            (plan_at c.advance-last.new.plan.items) c.advance-last.result t.occupied c.args.sweep.now.free
            c.still_free-sweep.result c.index-in-Some.result.now
            (get_or c.args.problem.now.desk_counts c.advance-last.result 0) c.requires.kept.free t.was_free now refl
            c.still_free-sweep.ensures;
        closed = t.closed;
        traced = λ h m. t.traced h (c.requires.kept.traced h m);
        listed = c.requires.kept.listed;
        once = c.requires.kept.once;
        many = c.requires.kept.many;
        room = c.requires.kept.room;
        onward = c.advance-last.ensures.onward;
        layers = c.in-Some.ensures.room ∙ c.requires.kept.layers;
      };
      seated = t.kept;
      turn = t.turn;
      deaths = chain_deaths c.args.problem.now (plan_at c.args.sweep.now.plan.items)
          (holds c.args.sweep.now.dead) c.args.candidate c.advance-last.result
          (plan_at c.advance-last.new.plan.items) t unseated c.args.sweep.now.listed.items;
      settled = t.settled;
      others = t.others;
    }

pub returns-in-None : goal.returns-in-None
returns-in-None c =
    let unseated : plan_at c.args.sweep.now.plan.items c.args.candidate ≡ None =
    (seated_at c.args.sweep.now.plan.items c.args.candidate c.index.result.now
    (omega (arith, c.requires.kept.plan.whole, c.requires.candidate)) c.index.ensures
    ∙ none_of c.index.result.now c.is_some.result c.is_some.ensures c.if-is_some.false) in
    let within : (h : ℕ) → IsMarked (holds c.led_to-led.result) h → h < length c.args.problem.now.desk_counts =
    λ h m. (let l = c.led_to-led.ensures.led h m in
    leads_below c.args.problem.now
    (plan_at c.args.sweep.now.plan.items) c.args.candidate c.fitting.ensures.problem l.0 h l.1) in
    let grown : c.list_halls.new.listed.items ≡ c.args.sweep.now.listed.items
    ++ halls_below (length c.args.problem.now.desk_counts) c.led_to-led.result =
    c.list_halls.ensures.listed
    ∙ ap (λ n. c.args.sweep.now.listed.items ++ halls_below n c.led_to-led.result) c.hall_count.ensures.count in
    record {
      kept = record {
        plan = c.requires.kept.plan;
        lawful = c.requires.kept.lawful;
        halls = c.requires.kept.halls;
        counts = c.requires.kept.counts;
        free = c.requires.kept.free;
        closed = both_closed c.args.problem.now
            (plan_at c.args.sweep.now.plan.items) c.args.candidate unseated c.args.sweep.now.dead c.led_to-led.result
            c.union-sweep.result c.union-sweep.ensures c.in-None.ensures.found c.led_to-led.ensures.led
            c.led_to-led.ensures.fitting c.led_to-led.ensures.closed c.requires.kept.closed;
        traced = both_traced c.args.problem.now
            (plan_at c.args.sweep.now.plan.items) c.args.candidate unseated c.args.sweep.now.dead c.led_to-led.result
            c.union-sweep.result c.union-sweep.ensures c.in-None.ensures.found c.led_to-led.ensures.led
            c.led_to-led.ensures.fitting c.led_to-led.ensures.closed c.requires.kept.closed c.requires.kept.traced;
        listed = after_lists
            (length c.args.problem.now.desk_counts) c.args.sweep.now.dead c.led_to-led.result c.union-sweep.result
            c.union-sweep.ensures c.led_to-led.ensures.apart within c.args.sweep.now.listed.items
            c.list_halls.new.listed.items c.requires.kept.listed grown;
        once = after_once (length c.args.problem.now.desk_counts) c.args.sweep.now.dead c.led_to-led.result
            c.union-sweep.result c.union-sweep.ensures c.led_to-led.ensures.apart within c.args.sweep.now.listed.items
            c.list_halls.new.listed.items c.requires.kept.listed grown c.requires.kept.once;
        many = after_many (length c.args.problem.now.desk_counts) c.args.sweep.now.dead c.led_to-led.result
            c.union-sweep.result c.union-sweep.ensures c.led_to-led.ensures.apart within c.args.sweep.now.listed.items
            c.list_halls.new.listed.items c.requires.kept.listed grown c.requires.kept.many;
        room = omega (arith, c.list_halls.ensures.room, c.requires.kept.room);
        onward = c.in-None.ensures.onward;
        layers = c.in-None.ensures.room ∙ c.requires.kept.layers;
      };
      seated = λ d s. s;
      turn = stays_put c.args.problem.now (plan_at c.args.sweep.now.plan.items) (holds c.union-sweep.result)
          (both_closed c.args.problem.now
          (plan_at c.args.sweep.now.plan.items) c.args.candidate unseated c.args.sweep.now.dead c.led_to-led.result
          c.union-sweep.result c.union-sweep.ensures c.in-None.ensures.found c.led_to-led.ensures.led
          c.led_to-led.ensures.fitting c.led_to-led.ensures.closed c.requires.kept.closed) c.args.candidate
          (inr (both_within c.args.problem.now
          (plan_at c.args.sweep.now.plan.items) c.args.candidate unseated c.args.sweep.now.dead c.led_to-led.result
          c.union-sweep.result c.union-sweep.ensures c.in-None.ensures.found c.led_to-led.ensures.led
          c.led_to-led.ensures.fitting c.led_to-led.ensures.closed c.requires.kept.closed));
      deaths = both_deaths c.args.problem.now
          (plan_at c.args.sweep.now.plan.items) c.args.candidate unseated c.args.sweep.now.dead c.led_to-led.result
          c.union-sweep.result c.union-sweep.ensures c.in-None.ensures.found c.led_to-led.ensures.led
          c.led_to-led.ensures.fitting c.led_to-led.ensures.closed c.requires.kept.closed
          (length c.args.problem.now.desk_counts) within c.led_to-led.ensures.apart c.args.sweep.now.listed.items
          c.list_halls.new.listed.items c.requires.kept.listed grown;
      settled = inr (both_within c.args.problem.now
          (plan_at c.args.sweep.now.plan.items) c.args.candidate unseated c.args.sweep.now.dead c.led_to-led.result
          c.union-sweep.result c.union-sweep.ensures c.in-None.ensures.found c.led_to-led.ensures.led
          c.led_to-led.ensures.fitting c.led_to-led.ensures.closed c.requires.kept.closed);
      others = both_settled c.args.problem.now
          (plan_at c.args.sweep.now.plan.items) c.args.candidate unseated c.args.sweep.now.dead c.led_to-led.result
          c.union-sweep.result c.union-sweep.ensures c.in-None.ensures.found c.led_to-led.ensures.led
          c.led_to-led.ensures.fitting c.led_to-led.ensures.closed c.requires.kept.closed;
    }
