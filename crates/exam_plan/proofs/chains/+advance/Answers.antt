-- The least chain of so many hops begins at the least hall of that layer and goes on with its first occupant who
-- reaches the next layer, who has one hop less to go. Those who move behind them sit in other halls, so the table of
-- the plan stays right.
use Rattle.exam_plan.proofs.Words.{and_parts, length-set, holds, IsPlan, plan_at}
use Rattle.std.proofs.Common.{◌≡◌, ℕ, suc, ◌+◌, ◌-◌, ◌<◌, length, refl, sym, ◌∙◌, arith, subst}
use Rattle.exam_plan.specs.Searches.{IsLeastHall}
use Rattle.exam_plan.proofs.Steps.{layer_at, hall_found, mover_of, mover_found, mover_far, advanced_last, advanced_more}
use Rattle.exam_plan.proofs.Steps.{places_set, touching_reach}
use Rattle.exam_plan.proofs.chains.+advance.Goals as goal
use Rattle.exam_plan.proofs.chains.+advance.Goals.{then-hops-gt0+in-Some-first_mover, else-hops-gt0}

pub unreachable-requires-in_default-first_mover : goal.unreachable-requires-in_default-first_mover
unreachable-requires-in_default-first_mover t c =
    let back : c.args.hops ≡ suc (c.args.hops - 1) = omega (arith, c.if-hops-gt0.true) in
    let marks = layer_at c.args.problem.now (plan_at c.args.plan.now.items) c.args.layers.now
    (c.args.hops + 1) c.args.hops c.index-layers-hops.result c.requires.layers
    (omega arith) c.requires.hops c.index-layers-hops.is in
    let near = layer_at c.args.problem.now (plan_at c.args.plan.now.items) c.args.layers.now (c.args.hops + 1)
    (c.args.hops - 1) c.index-layers-hops-then-hops-gt0.result c.requires.layers
    (omega (arith, c.if-hops-gt0.true)) (omega (arith, c.requires.hops)) c.index-layers-hops-then-hops-gt0.is in
    let least = hall_found c.args.problem.now
    (plan_at c.args.plan.now.items) c.args.candidate c.fitting.result c.index-layers-hops.result c.common.result
    c.args.hops c.fitting.ensures.fits marks c.common.ensures c.in-Some.hall c.in-Some.ensures.1
    c.in-Some.ensures.2 in
    let someone = mover_of c.args.problem.now (plan_at c.args.plan.now.items)
    (c.args.hops - 1) c.args.candidate c.in-Some.hall (holds c.index-layers-hops-then-hops-gt0.result) near
    (subst (λ (z : ℕ). IsLeastHall c.args.problem.now
    (plan_at c.args.plan.now.items) z c.args.candidate c.in-Some.hall) back least)
    (λ i l. c.requires.far i (omega (arith, back, l))) in
    c.in_default-first_mover.ensures.first someone.0 someone.1 someone.2

pub advance-last-requires : goal.advance-last-requires
advance-last-requires t c =
    let back : c.args.hops ≡ suc (c.args.hops - 1) = omega (arith, c.if-hops-gt0.true) in
    let marks = layer_at c.args.problem.now (plan_at c.args.plan.now.items) c.args.layers.now
    (c.args.hops + 1) c.args.hops c.index-layers-hops.result c.requires.layers
    (omega arith) c.requires.hops c.index-layers-hops.is in
    let near = layer_at c.args.problem.now (plan_at c.args.plan.now.items) c.args.layers.now (c.args.hops + 1)
    (c.args.hops - 1) c.index-layers-hops-then-hops-gt0.result c.requires.layers
    (omega (arith, c.if-hops-gt0.true)) (omega (arith, c.requires.hops)) c.index-layers-hops-then-hops-gt0.is in
    let least = hall_found c.args.problem.now
    (plan_at c.args.plan.now.items) c.args.candidate c.fitting.result c.index-layers-hops.result c.common.result
    c.args.hops c.fitting.ensures.fits marks c.common.ensures c.in-Some.hall c.in-Some.ensures.1
    c.in-Some.ensures.2 in
    let first = c.in-Some-first_mover.ensures.first in (
      omega (arith, c.decreases, c.if-hops-gt0.true),
      (
        c.requires.plan,
        (
          c.in-Some-first_mover.ensures.below,
          (
            omega (arith, c.requires.hops),
            (
              (λ j l. c.requires.layers j (omega (arith, l, back))),
              (
                touching_reach c.args.problem.now (plan_at c.args.plan.now.items)
                    (holds c.index-layers-hops-then-hops-gt0.result)
                    (c.args.hops - 1) c.in-Some-first_mover.mover near first.1,
                (
                  mover_far c.args.problem.now (plan_at c.args.plan.now.items) c.args.hops
                      (c.args.hops - 1) c.args.candidate c.in-Some.hall c.in-Some-first_mover.mover back least.0 first.0
                      c.requires.far,
                  (c.requires.onward, λ l. c.requires.noted c.if-hops-gt0.true),
                ),
              ),
            ),
          ),
        ),
      ),
    )

pub returns-clause-plan : goal.returns-clause-plan
returns-clause-plan t c =
    let held = and_parts (holds c.fitting.result c.in-Some.hall) (holds c.index-layers-hops.result c.in-Some.hall)
    (sym (c.common.ensures c.in-Some.hall) ∙ c.in-Some.ensures.1) in
    let below : c.in-Some.hall < length c.args.problem.now.desk_counts =
    c.fitting.ensures.exist c.in-Some.hall held.0 in
    let was : IsPlan c.args.problem.now c.if-hops-gt0.plan.items =
    elim c.if-hops-gt0.branch [
      | then-hops-gt0+in-Some-first_mover w ↦ rw w.plan-is w.advance-last.ensures.plan
      | else-hops-gt0 w ↦ rw
          w.plan-is c.requires.plan
    ] in
    rw c.seat.ensures.seated (record {
      whole = simp length-set was.whole;
      exist = places_set c.if-hops-gt0.plan.items
          (length c.args.problem.now.desk_counts) c.args.candidate c.in-Some.hall was.exist below;
    })

pub returns-clause-moved : goal.returns-clause-moved
returns-clause-moved t c =
    let marks = layer_at c.args.problem.now (plan_at c.args.plan.now.items) c.args.layers.now
    (c.args.hops + 1) c.args.hops c.index-layers-hops.result c.requires.layers
    (omega arith) c.requires.hops c.index-layers-hops.is in
    let least = hall_found c.args.problem.now
    (plan_at c.args.plan.now.items) c.args.candidate c.fitting.result c.index-layers-hops.result c.common.result
    c.args.hops c.fitting.ensures.fits marks c.common.ensures c.in-Some.hall c.in-Some.ensures.1
    c.in-Some.ensures.2 in
    rw c.seat.ensures.seated (elim c.if-hops-gt0.branch [
      | then-hops-gt0+in-Some-first_mover w ↦ (
          let back : c.args.hops ≡ suc (c.args.hops - 1) = omega (arith, w.if-hops-gt0.true) in
          let near = layer_at c.args.problem.now (plan_at c.args.plan.now.items) c.args.layers.now (c.args.hops + 1)
          (c.args.hops - 1) w.index-layers-hops-then-hops-gt0.result c.requires.layers
          (omega (arith, w.if-hops-gt0.true))
          (omega (arith, c.requires.hops)) w.index-layers-hops-then-hops-gt0.is in
          let first = w.in-Some-first_mover.ensures.first in
          rw (w.plan-is, w.last-is)
          (advanced_more c.args.problem.now
          (plan_at c.args.plan.now.items) w.advance-last.new.plan.items c.args.hops
          (c.args.hops - 1) c.args.candidate c.in-Some.hall w.in-Some-first_mover.mover w.advance-last.result back
          (omega (arith, w.advance-last.ensures.plan.whole, c.requires.candidate)) least
          (mover_found c.args.problem.now (plan_at c.args.plan.now.items)
          (c.args.hops - 1) c.in-Some.hall w.in-Some-first_mover.mover
          (holds w.index-layers-hops-then-hops-gt0.result) near first.0 first.1 first.2)
          w.advance-last.ensures.moved))
      | else-hops-gt0 w ↦ rw (w.plan-is, w.last-is)
          (advanced_last c.args.problem.now
          (plan_at c.args.plan.now.items) c.args.plan.now.items c.args.hops c.args.candidate c.in-Some.hall (λ d. refl)
          (omega (arith, w.if-hops-gt0.false))
          (omega (arith, c.requires.plan.whole, c.requires.candidate)) least)
    ])
