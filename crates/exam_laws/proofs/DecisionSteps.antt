-- A decision unseats nobody but its appellant.
use Rattle.exam_laws.proofs.Words.{Code, Relations, seating, plan_of, Decision, with_decision, IsGood, IsRepaired}
use Rattle.exam_laws.proofs.Words.{State}
use Rattle.std.proofs.Common.{◌≡◌}
use Rattle.exam_plan.specs.Matching.{Keeps}
use Rattle.exam_commands.specs.Decisions.{granted_number}
use Rattle.exam_laws.proofs.DecidedFacts.{decision_candidates, decision_desks, decision_fits}
use Rattle.exam_commands.proofs.Keeping.{others_stay}

module _ (before : State) (good : IsGood before) (d : Decision) where
  -- the plans of all sessions are repaired for these facts, the appellant of a grant first
  abbrev pub ArePlansDecided : Relations → State → Type 0
  ArePlansDecided t after = (s : Code) → IsRepaired t (granted_number d d.outcome) before.seats after.seats s

  -- everybody else who is a member stays
  pub others_seated_by_decision : (after : State) → ArePlansDecided (with_decision before.relations d) after
      → (s : Code) → Keeps (λ c. d.number ≡ c) (seating (with_decision before.relations d) s) (plan_of before.seats s)
      (plan_of after.seats s)
  others_seated_by_decision after plans s =
      others_stay before.relations (with_decision before.relations d) s d.number
      (decision_candidates before.relations d) (decision_desks before.relations d s)
      (decision_fits before.relations d s)
      (granted_number d d.outcome) (plan_of before.seats s) (plan_of after.seats s) (good.best s).lawful
      (plans s).repair
