-- A withdrawal, a reinstatement and the closing of a hall leave facts that refer to what is there. A withdrawal and a
-- reinstatement unseat nobody else.
use Rattle.exam_laws.proofs.Words.{option_or, Code, Relations, seating, plan_of, ListsRise, with_live, without_opening}
use Rattle.exam_laws.proofs.Words.{IsGood, refers, within_limits, IsRepaired, State, SeatsOn}
use Rattle.std.proofs.Common.{◌≡◌, ℕ, not, Bool, true, false, cond, [], ◌∷◌, None, Some, refl, ap, ◌∙◌}
use Rattle.exam_types.specs.declared.refusal.Refusal.TheVariants as refusal
use Rattle.exam_rules.specs.Sessions.{is_live}
use Rattle.exam_commands.specs.declared.command.Command.TheVariants as command
use Rattle.exam_commands.specs.Changes.{no_entry, withdrawal_refusal, revival_refusal, reinstatement_refusal}
use Rattle.exam_commands.proofs.Keeping.{others_stay}
use Rattle.exam_commands.proofs.LiveMarks.{fits_same}
use Rattle.exam_commands.proofs.Referring.{live_refers, closing_refers}

-- the plans of all sessions are repaired for these facts
abbrev pub ArePlansRepaired : Relations → State → State → Type 0
ArePlansRepaired t before after = (s : Code) → IsRepaired t None before.seats after.seats s

abbrev pub DoListsRise : Relations → Type 0
DoListsRise t = (s : Code) → ListsRise t s

-- the facts before, with another live mark of one entry
abbrev pub IsMarked : State → ℕ → Code → Bool → Relations → Type 0
IsMarked before c p live t = t ≡ with_live before.relations c p live

module _ (before : State) (good : IsGood before) (c : ℕ) (p : Code) where
  -- with another live mark everybody else stays
  pub others_seated : (live : Bool) (after : State)
      → ArePlansRepaired (with_live before.relations c p live) before after
      → (s : Code) → SeatsOn (command.Withdraw c p) (seating (with_live before.relations c p live) s)
      (plan_of before.seats s) (plan_of after.seats s)
  others_seated live after plans s =
      others_stay before.relations (with_live before.relations c p live) s c refl (λ h. refl)
      (fits_same before.relations c p live s) None (plan_of before.seats s) (plan_of after.seats s)
      (good.best s).lawful (plans s).repair

  -- ---- a withdrawal

  pub withdrawal_refers : (t : Relations) → withdrawal_refusal before.relations c p ≡ None
      → IsMarked before c p false t → refers t ≡ true
  withdrawal_refers t ok is =
      ap refers is ∙ live_refers before.relations c p false
      (no_entry before.relations c p ∷ (not (is_live before.relations c p), refusal.AlreadyWithdrawn) ∷ []) good.refer
      ok

  -- ---- a reinstatement

  pub reinstatement_limits : (b : Bool) → within_limits (with_live before.relations c p true) ≡ b
      → reinstatement_refusal before.relations c p
      ≡ option_or (revival_refusal before.relations c p) (cond (not b) (Some refusal.TooMany) None)
  reinstatement_limits b e =
      ap (λ x. option_or (revival_refusal before.relations c p) (cond (not x) (Some refusal.TooMany) None)) e

  pub reinstatement_refers : (t : Relations) → revival_refusal before.relations c p ≡ None → IsMarked before c p true t
      → refers t ≡ true
  reinstatement_refers t ok is =
      ap refers is ∙ live_refers before.relations c p true
      (no_entry before.relations c p ∷ (is_live before.relations c p, refusal.NotWithdrawn) ∷ []) good.refer ok

-- ---- the closing of a hall

abbrev pub IsClosed : State → Code → Code → Relations → Type 0
IsClosed before s h t = t ≡ without_opening before.relations s h

module _ (before : State) (good : IsGood before) (s : Code) (h : Code) where
  pub closing_known : (t : Relations) → IsClosed before s h t → refers t ≡ true
  closing_known t is = ap refers is ∙ closing_refers before.relations s h good.refer
