-- A lodging, a retraction and a decision leave the facts as they were, or put one appeal: what holds in each of these
-- cases holds of the facts that they leave.
use Rattle.exam_laws.proofs.Words.{Appeal, Code, Relations, Decision, Lodging, appeal_at, is_open, is_retracted}
use Rattle.exam_laws.proofs.Words.{first_refusal, decision_checks, decision_refusal, grant_checks, is_made, is_too_late}
use Rattle.exam_laws.proofs.Words.{not_arrangement, open_checks, with_decided, with_decision, with_outcome, there}
use Rattle.std.proofs.Common.{◌≡◌, ℕ, ◌&&◌, not, Bool, true, false, cond, [], ◌∷◌, Option, None, Some, refl}
use Rattle.std.proofs.Common.{arith}
use Rattle.std.specs.Prelude.{is_none}
use Rattle.exam_types.specs.declared.refusal.Refusal.TheVariants as refusal
use Rattle.exam_commands.specs.Lodgings as spec

module _ (r : Relations) (P : Relations → Type 0) where
  -- the reference of the lodging is new, or an appeal is stored under it
  pub after_lodging : (day : ℕ) (l : Lodging)
      → (appeal_at r l.number l.reference ≡ None → P (spec.with_appeal r day l))
      → ((a : Appeal) → appeal_at r l.number l.reference ≡ Some a → P r) → P (spec.with_lodging r day l)
  after_lodging day l anew again = inner (appeal_at r l.number l.reference) refl
    where
      inner : (o : Option Appeal) → appeal_at r l.number l.reference ≡ o
          → P (cond (is_none o) (spec.with_appeal r day l) r)
      inner None none = anew none
      inner (Some a) at = again a at

  -- the appeal that is retracted was retracted already, or open
  pub after_retraction : (c : ℕ) (reference : Code) → spec.retraction_refusal r c reference ≡ None
      → ((a : Appeal) → appeal_at r c reference ≡ Some a → is_retracted a.status ≡ true → P r)
      → ((a : Appeal) → appeal_at r c reference ≡ Some a → is_open a.status ≡ true
      → P (spec.with_retracted_appeal r c reference a)) → P (spec.with_retraction r c reference)
  after_retraction c reference ok again anew = inner (appeal_at r c reference) refl ok
    where
      opens : (open_yet : Bool) → cond (not open_yet && true) (Some refusal.NotOpenAppeal) None ≡ None → open_yet ≡ true
      opens open_yet passed = grind arith

      by_status : (a : Appeal) → appeal_at r c reference ≡ Some a → (b : Bool) → is_retracted a.status ≡ b
          → cond (not (is_open a.status) && not b) (Some refusal.NotOpenAppeal) None ≡ None
          → P (cond b r (spec.with_retracted_appeal r c reference a))
      by_status a at true was passed = again a at was
      by_status a at false was passed = anew a at (opens (is_open a.status) passed)

      inner : (o : Option Appeal) → appeal_at r c reference ≡ o → first_refusal (spec.retraction_checks o) ≡ None
          → P (spec.with_retracted r c reference o)
      inner None none passed = absurd cc
      inner (Some a) at passed = by_status a at (is_retracted a.status) refl passed

  -- the decision was made already, or it passes the checks of an open appeal
  pub after_decision : (day : ℕ) (d : Decision) → decision_refusal r day d ≡ None
      → ((a : Appeal) → appeal_at r d.number d.reference ≡ Some a → is_made r d a ≡ true → P r)
      → ((a : Appeal) → appeal_at r d.number d.reference ≡ Some a → first_refusal (open_checks r day d a) ≡ None
      → P (with_outcome r d a)) → P (with_decision r d)
  after_decision day d ok again anew = inner (appeal_at r d.number d.reference) refl ok
    where
      by_case : (a : Appeal) → appeal_at r d.number d.reference ≡ Some a → (b : Bool) → is_made r d a ≡ b
          → first_refusal (cond b [] (open_checks r day d a)) ≡ None → P (cond b r (with_outcome r d a))
      by_case a at true made passed = again a at made
      by_case a at false made passed = anew a at passed

      inner : (o : Option Appeal) → appeal_at r d.number d.reference ≡ o
          → first_refusal (decision_checks r day d o) ≡ None → P (with_decided r d o)
      inner None none passed = absurd cc
      inner (Some a) at passed = by_case a at (is_made r d a) refl passed

pub was_open : (r : Relations) (day : ℕ) (d : Decision) (a : Appeal) → first_refusal (open_checks r day d a) ≡ None
    → is_open a.status ≡ true
was_open r day d a passed =
    there (is_open a.status) refusal.NotOpenAppeal
    ((is_too_late r a.session day, refusal.TooLate) ∷ not_arrangement a d.outcome ∷ grant_checks r d.number a d.outcome)
    passed
