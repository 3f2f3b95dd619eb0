-- The turns of a sweep, one after the other.
use Rattle.exam_plan.proofs.Words.{holds, Problem, plan_at, seating_of, ListsDead}
use Rattle.std.proofs.Common.{◌≡◌, ℕ, ◌+◌, ◌<◌, List, [], length, Option, None, Some, refl, sym, subst}
use Rattle.exam_plan.specs.declared.turns.Progress.{Progress}
use Rattle.exam_plan.specs.Repair.{SweepsDead}
use Rattle.exam_plan.specs.Searches.{IsKept, IsNextTurn}
use Rattle.exam_plan.proofs.Sweeping.{IsSwept, SweepsDead-push, done, done_more, done_same, first_done, swept_none}
use Rattle.exam_plan.proofs.Sweeping.{swept_first, swept_more, swept_skip}

-- a sweep after so many turns
pub record IsUnderWay (p : Problem) (first : Option ℕ) (before : List (Option ℕ)) (sweep : Progress)
    (i : ℕ) : Type 0 where
  pub kept : IsKept p sweep
  pub swept : IsSwept p first (plan_at before) (plan_at sweep.plan.items) (holds sweep.dead) i
  pub deaths : SweepsDead (seating_of p) (plan_at before) [] (done p first i)
      (plan_at sweep.plan.items) sweep.listed.items

pub begun : (p : Problem) (sweep : Progress) (before : List (Option ℕ)) → IsKept p sweep → sweep.plan.items ≡ before
    → sweep.listed.items ≡ [] → IsUnderWay p None before sweep 0
begun p sweep before kept same none = record {
  kept = kept;
  swept = subst (λ (m : List (Option ℕ)). IsSwept p None (plan_at m) (plan_at sweep.plan.items) (holds sweep.dead) 0)
      same (swept_none p (plan_at sweep.plan.items) (holds sweep.dead) kept.lawful kept.closed);
  deaths = subst (λ (m : List (Option ℕ)). SweepsDead (seating_of p) (plan_at m) [] (done p None 0)
      (plan_at sweep.plan.items) sweep.listed.items) same ((λ d. refl), none);
}

pub first_turn : (p : Problem) (sweep next : Progress) (before : List (Option ℕ)) (c : ℕ) → c < length p.fit
    → sweep.plan.items ≡ before → sweep.listed.items ≡ [] → IsNextTurn p sweep c next
    → IsUnderWay p (Some c) before next 0
first_turn p sweep next before c below same none turn = record {
  kept = turn.kept;
  swept = subst (λ (m : List (Option ℕ)). IsSwept p (Some c) (plan_at m) (plan_at next.plan.items) (holds next.dead) 0)
      same
      (swept_first p (plan_at sweep.plan.items) (holds next.dead) c
      (plan_at next.plan.items) below turn.kept.lawful turn.kept.closed turn.seated turn.settled turn.turn);
  deaths = subst (λ (m : List (Option ℕ)). SweepsDead (seating_of p) (plan_at m) [] (done p (Some c) 0)
      (plan_at next.plan.items) next.listed.items) same
      (subst (λ (cs : List ℕ). SweepsDead (seating_of p) (plan_at sweep.plan.items) [] cs
      (plan_at next.plan.items) next.listed.items) (sym (first_done p c below)) (
        plan_at next.plan.items,
        next.listed.items,
        turn.turn,
        subst (λ (xs : List ℕ). ListsDead (seating_of p) (plan_at sweep.plan.items) c xs next.listed.items) none
            turn.deaths,
        ((λ d. refl), refl),
      ));
}

pub one_turn : (p : Problem) (first : Option ℕ) (before : List (Option ℕ)) (sweep next : Progress) (i : ℕ)
    → IsUnderWay p first before sweep i → (first ≡ Some i → ⊥) → IsNextTurn p sweep i next
    → IsUnderWay p first before next (i + 1)
one_turn p first before sweep next i way away turn = record {
  kept = turn.kept;
  swept = swept_more p first (plan_at before) (plan_at sweep.plan.items) (holds sweep.dead) i way.swept
      (plan_at next.plan.items)
      (holds next.dead) away turn.kept.lawful turn.kept.closed turn.seated turn.settled turn.others turn.turn;
  deaths = subst (λ (cs : List ℕ). SweepsDead (seating_of p) (plan_at before) [] cs
      (plan_at next.plan.items) next.listed.items)
      (sym (done_more p first (plan_at before) (plan_at sweep.plan.items) (holds sweep.dead) i way.swept first away))
      (SweepsDead-push (seating_of p) (plan_at before) [] (done p first i)
      (plan_at sweep.plan.items) sweep.listed.items i
      (plan_at next.plan.items) next.listed.items way.deaths turn.turn turn.deaths);
}

pub no_turn : (p : Problem) (first : Option ℕ) (before : List (Option ℕ)) (sweep : Progress) (i : ℕ)
    → IsUnderWay p first before sweep i → first ≡ Some i → IsUnderWay p first before sweep (i + 1)
no_turn p first before sweep i way same = record {
  kept = way.kept;
  swept = swept_skip p first (plan_at before) (plan_at sweep.plan.items) (holds sweep.dead) i way.swept same;
  deaths = subst (λ (cs : List ℕ). SweepsDead (seating_of p) (plan_at before) [] cs
      (plan_at sweep.plan.items) sweep.listed.items)
      (sym (done_same p first (plan_at before) (plan_at sweep.plan.items) (holds sweep.dead) i way.swept first same))
      way.deaths;
}
