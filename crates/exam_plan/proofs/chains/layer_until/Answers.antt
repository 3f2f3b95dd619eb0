-- Each layer holds all halls from which a free desk is so many hops away. A round that adds a hall makes the set
-- larger, so there are no more rounds than halls; a round that adds none shows that no chain begins at the candidate.
use Rattle.exam_plan.proofs.Words.{length-set, most_halls, holds, plan_at}
use Rattle.std.proofs.Common.{◌≡◌, ◌+◌, ◌<◌, ◌≤◌, ℕ, true, false, length, sym, ◌∙◌, arith, rules}
use Rattle.std.specs.Prelude.{IsTrue}
use Rattle.exam_plan.proofs.Counting.{count_below-le-bound}
use Rattle.exam_plan.proofs.Steps.{sits_below, first_none, first_some, within_other, next_of, next_fresh, layer_below}
use Rattle.exam_plan.proofs.Steps.{next_layer, layer_grows, layers_set, far_push, leads_nowhere, touching_reach}
use Rattle.exam_plan.proofs.Steps.{reach_touching}
use Rattle.exam_plan.proofs.chains.layer_until.Goals as goal

pub widened-next-requires : goal.widened-next-requires
widened-next-requires c k t =
    let b = layer_below c.args.problem.now (plan_at c.args.plan.now.items)
    (sits_below c.args.problem.now c.args.plan.now.items c.requires.plan)
    (holds c.widening.reached) c.widening.hops c.widening.invariant.reached k
    (c.widening.invariant.fresh.within k t) in
    omega (arith, b, c.requires.halls)

pub returns-then-is_none-clause-found : goal.returns-then-is_none-clause-found
returns-then-is_none-clause-found c =
    leads_nowhere c.args.problem.now (plan_at c.args.plan.now.items) (holds c.widening.reached)
    (holds c.widened-next.result) c.widening.hops c.args.candidate c.widening.invariant.reached
    (next_of c.args.problem.now (plan_at c.args.plan.now.items)
    (sits_below c.args.problem.now c.args.plan.now.items c.requires.plan) c.args.inward.now c.widening.reached
    c.widening.fresh c.widened-next.result c.widening.hops c.requires.inward c.widening.invariant.reached
    c.widening.invariant.fresh c.widened-next.ensures)
    (within_other c.widened-next.result c.widening.reached c.minus-fresh.result c.minus-fresh.ensures
    (first_none c.first.result ((h : ℕ) → holds c.minus-fresh.result h ≡ false)
    (λ h. (h < most_halls) × IsTrue (holds c.minus-fresh.result h)
    × ((k : ℕ) → IsTrue (holds c.minus-fresh.result k) → h ≤ k)) c.first.ensures c.if-is_none.ensures))
    (λ t. let z : false ≡ true = sym c.widening-test.true ∙ c.is_touching.ensures.touching.1 t in cc)

pub index_mut-requires : goal.index_mut-requires
index_mut-requires c =
    let le = count_below-le-bound (holds c.widening.reached) (length c.args.problem.now.desk_counts) in
    let l : c.widening.hops < length c.widening.layers.items =
    omega (arith, le, c.widening.invariant.many, c.widening.invariant.room) in
    search rules

pub overflow_add-hops : goal.overflow_add-hops
overflow_add-hops c =
    let le = count_below-le-bound (holds c.widening.reached) (length c.args.problem.now.desk_counts) in
    let l : c.widening.hops ≤ most_halls = omega (arith, le, c.widening.invariant.many, c.is_touching.ensures.few) in
    search rules

pub widening-smaller : goal.widening-smaller
widening-smaller c =
    let some = (first_some c.first.result ((h : ℕ) → holds c.minus-fresh.result h ≡ false)
    (λ h. (h < most_halls) × IsTrue (holds c.minus-fresh.result h)
    × ((k : ℕ) → IsTrue (holds c.minus-fresh.result k) → h ≤ k)) c.first.ensures c.if-is_none.ensures) in
    let more = layer_grows c.args.problem.now (plan_at c.args.plan.now.items)
    (sits_below c.args.problem.now c.args.plan.now.items c.requires.plan) c.widening.reached c.widened-next.result
    c.minus-fresh.result c.widening.hops c.widening.invariant.reached
    (next_of c.args.problem.now (plan_at c.args.plan.now.items)
    (sits_below c.args.problem.now c.args.plan.now.items c.requires.plan) c.args.inward.now c.widening.reached
    c.widening.fresh c.widened-next.result c.widening.hops c.requires.inward c.widening.invariant.reached
    c.widening.invariant.fresh c.widened-next.ensures) c.minus-fresh.ensures some.0 some.1.1 in
    let le = count_below-le-bound (holds c.widened-next.result) (length c.args.problem.now.desk_counts) in
    omega (arith, more, le)

pub widening-preserved : goal.widening-preserved
widening-preserved c =
    let some = (first_some c.first.result ((h : ℕ) → holds c.minus-fresh.result h ≡ false)
    (λ h. (h < most_halls) × IsTrue (holds c.minus-fresh.result h)
    × ((k : ℕ) → IsTrue (holds c.minus-fresh.result k) → h ≤ k)) c.first.ensures c.if-is_none.ensures) in
    let next = (next_of c.args.problem.now (plan_at c.args.plan.now.items)
    (sits_below c.args.problem.now c.args.plan.now.items c.requires.plan) c.args.inward.now c.widening.reached
    c.widening.fresh c.widened-next.result c.widening.hops c.requires.inward c.widening.invariant.reached
    c.widening.invariant.fresh c.widened-next.ensures) in
    let more = layer_grows c.args.problem.now (plan_at c.args.plan.now.items)
    (sits_below c.args.problem.now c.args.plan.now.items c.requires.plan) c.widening.reached c.widened-next.result
    c.minus-fresh.result c.widening.hops c.widening.invariant.reached next c.minus-fresh.ensures some.0 some.1.1 in
    let le = count_below-le-bound (holds c.widening.reached) (length c.args.problem.now.desk_counts) in
    record {
      room = simp length-set c.widening.invariant.room;
      reached = next_layer c.args.problem.now (plan_at c.args.plan.now.items) (holds c.widening.reached)
          (holds c.widened-next.result) c.widening.hops (c.widening.hops + 1) c.widening.invariant.reached next
          (omega arith);
      fresh = next_fresh c.args.inward.now c.widening.reached c.widening.fresh c.widened-next.result
          c.minus-fresh.result c.widening.invariant.fresh c.widened-next.ensures c.minus-fresh.ensures;
      many = omega (arith, more, c.widening.invariant.many);
      layers = layers_set c.args.problem.now
          (plan_at c.args.plan.now.items) c.widening.layers.items c.widening.hops c.widening.reached
          (c.widening.hops + 1) c.widening.invariant.layers
          (omega (arith, le, c.widening.invariant.many, c.widening.invariant.room)) c.widening.invariant.reached
          (omega arith);
      far = far_push c.args.problem.now (plan_at c.args.plan.now.items) c.widening.hops
          (c.widening.hops + 1) c.args.candidate (omega arith) c.widening.invariant.far
          (λ r. let z : false ≡ true =
          sym c.widening-test.true
          ∙ c.is_touching.ensures.touching.1
          (reach_touching c.args.problem.now (plan_at c.args.plan.now.items)
          (holds c.widening.reached) c.widening.hops c.args.candidate c.widening.invariant.reached r) in cc);
    }

pub index_mut-requires-2 : goal.index_mut-requires-2
index_mut-requires-2 c =
    let le = count_below-le-bound (holds c.widening.reached) (length c.args.problem.now.desk_counts) in
    let l : c.widening.hops < length c.widening.layers.items =
    omega (arith, le, c.widening.invariant.many, c.widening.invariant.room) in
    search rules

pub returns-clause-found : goal.returns-clause-found
returns-clause-found c =
    let le = count_below-le-bound (holds c.widening.reached) (length c.args.problem.now.desk_counts) in
    let inside : c.widening.hops < length c.widening.layers.items =
    omega (arith, le, c.widening.invariant.many, c.widening.invariant.room) in (
      simp length-set inside,
      layers_set c.args.problem.now
          (plan_at c.args.plan.now.items) c.widening.layers.items c.widening.hops c.widening.reached
          (c.widening.hops + 1) c.widening.invariant.layers inside c.widening.invariant.reached (omega arith),
      touching_reach c.args.problem.now (plan_at c.args.plan.now.items)
          (holds c.widening.reached) c.widening.hops c.args.candidate c.widening.invariant.reached
          (c.is_touching.ensures.touching.0 c.widening-test.false),
      c.widening.invariant.far,
    )
