-- Before each turn the sweep is under way: the first candidate and all lesser numbers have had their turn. After the
-- last one nobody is left with a chain to a free desk, so the plan is best and its dead halls are the contested ones.
use Rattle.exam_plan.proofs.Words.{holds, plan_at}
use Rattle.std.proofs.Common.{◌≡◌, ◌<◌, ℕ, length, Option, IfSome, sym, ◌∙◌, subst, arith}
use Rattle.exam_plan.proofs.Sweeping.{listed_in_order, swept_best, swept_turns, swept_dead, not_first, is_first}
use Rattle.exam_plan.proofs.SweepSteps.{IsUnderWay, begun, first_turn, one_turn, no_turn}
use Rattle.exam_plan.proofs.calls.sweep_dead.Goals as goal
use Rattle.exam_plan.proofs.calls.sweep_dead.Goals.{in-Some, in_default, then-ne, else-ne}

pub loop-candidate-init : goal.loop-candidate-init
loop-candidate-init c = elim c.match-first.branch [
  | in-Some w ↦ rw w.sweep-is
      (subst (λ (o : Option ℕ). IsUnderWay c.args.problem.now o c.args.plan.items w.take_turn.new.sweep 0)
      (sym w.in-Some.is)
      (first_turn c.args.problem.now c.in_ok-sweep.sweep w.take_turn.new.sweep c.args.plan.items w.in-Some.candidate
      (let P : Option ℕ → Type 0 =
      λ o. IfSome o (λ k. k < length c.args.problem.now.fit) in subst P w.in-Some.is c.requires.first)
      c.in_ok-sweep.ensures.plan c.in_ok-sweep.ensures.none w.take_turn.ensures))
  | in_default w ↦ rw w.sweep-is
      (subst (λ (o : Option ℕ). IsUnderWay c.args.problem.now o c.args.plan.items c.in_ok-sweep.sweep 0)
      (sym w.in_default.is)
      (begun c.args.problem.now c.in_ok-sweep.sweep c.args.plan.items c.in_ok-sweep.ensures.kept
      c.in_ok-sweep.ensures.plan c.in_ok-sweep.ensures.none))
]

first_is : (c : goal.Joined-ne) → c.match-first.first ≡ c.args.first
first_is c = elim c.match-first.branch [ in-Some w ↦ w.first-is ∙ sym w.in-Some.is | in_default w ↦ w.first-is ]

pub loop-candidate-preserved : goal.loop-candidate-preserved
loop-candidate-preserved c = elim c.if-ne.branch [
  | then-ne w ↦ rw w.sweep-is
      (one_turn c.args.problem.now c.args.first c.args.plan.items c.loop-candidate.sweep w.take_turn-then-ne.new.sweep
      c.loop-candidate.candidate c.loop-candidate.invariant
      (λ e. not_first c.match-first.first c.loop-candidate.candidate c.ne.result c.ne.ensures w.if-ne.true
      (first_is c ∙ e)) w.take_turn-then-ne.ensures)
  | else-ne w ↦ rw w.sweep-is
      (no_turn c.args.problem.now c.args.first c.args.plan.items c.loop-candidate.sweep c.loop-candidate.candidate
      c.loop-candidate.invariant
      (sym (first_is c) ∙ is_first c.match-first.first c.loop-candidate.candidate c.ne.result c.ne.ensures
      w.if-ne.false))
]

pub returns-clause-best : goal.returns-clause-best
returns-clause-best c =
    swept_best c.args.problem.now c.candidate_count-candidate-end.ensures.problem c.args.first
    (plan_at c.args.plan.items) (plan_at c.loop-candidate.sweep.plan.items)
    (holds c.loop-candidate.sweep.dead) c.loop-candidate.candidate
    (omega (
      arith,
      c.loop-candidate.auto.candidate-end,
      c.loop-candidate-test.false,
      c.candidate_count-candidate-end.ensures.count,
    )) c.loop-candidate.invariant.swept

pub returns-clause-chains : goal.returns-clause-chains
returns-clause-chains c =
    swept_turns c.args.problem.now c.candidate_count-candidate-end.ensures.problem c.args.first
    (plan_at c.args.plan.items) (plan_at c.loop-candidate.sweep.plan.items)
    (holds c.loop-candidate.sweep.dead) c.loop-candidate.candidate
    (omega (
      arith,
      c.loop-candidate.auto.candidate-end,
      c.loop-candidate-test.false,
      c.candidate_count-candidate-end.ensures.count,
    )) c.loop-candidate.invariant.swept

pub returns-clause-dead : goal.returns-clause-dead
returns-clause-dead c =
    swept_dead c.args.problem.now c.candidate_count-candidate-end.ensures.problem c.args.first
    (plan_at c.args.plan.items) (plan_at c.loop-candidate.sweep.plan.items)
    (holds c.loop-candidate.sweep.dead) c.loop-candidate.candidate
    (omega (
      arith,
      c.loop-candidate.auto.candidate-end,
      c.loop-candidate-test.false,
      c.candidate_count-candidate-end.ensures.count,
    )) c.loop-candidate.invariant.swept
    c.loop-candidate.invariant.kept.traced c.loop-candidate.sweep.listed.items c.loop-candidate.invariant.kept.listed

pub returns-clause-order : goal.returns-clause-order
returns-clause-order c =
    listed_in_order c.args.problem.now c.args.first (plan_at c.args.plan.items)
    (plan_at c.loop-candidate.sweep.plan.items) c.loop-candidate.sweep.listed.items c.loop-candidate.candidate
    (omega (
      arith,
      c.loop-candidate.auto.candidate-end,
      c.loop-candidate-test.false,
      c.candidate_count-candidate-end.ensures.count,
    )) c.loop-candidate.invariant.deaths
