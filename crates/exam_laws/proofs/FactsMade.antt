-- The facts that a command makes are its change, if they pass no limit; and they are good again.
use Rattle.exam_laws.proofs.Words.{option_or, filter_map, list_all, Refusal, AreInOrder, Relations, Command}
use Rattle.exam_laws.proofs.Words.{first_refusal, too_many, unless, with_live, with_rows, without_opening}
use Rattle.exam_laws.proofs.Words.{with_decision, early_refusal, facts_made, IsGood, marks_were_granted, refers}
use Rattle.exam_laws.proofs.Words.{within_limits, AreSingle, same_single_key, single_key, State, change}
use Rattle.std.proofs.Common.{◌≡◌, ℕ, true, false, [], ◌∷◌, None, Some, Ok, Err, refl, ap, sym, subst, ◌∙◌}
use Rattle.std.specs.List.{IsDistinct}
use Rattle.exam_types.specs.declared.refusal.Refusal.TheVariants as refusal
use Rattle.exam_rules.specs.Tables as table
use Rattle.exam_commands.specs.declared.command.Command.TheVariants as command
use Rattle.exam_commands.specs.FactsMade.{may_pass_limit}
use Rattle.exam_commands.specs.Lodgings as lodgings
use Rattle.exam_laws.proofs.AppealSteps.{limit_refusal, lodging_settled, retraction_within, within_as}
use Rattle.exam_commands.proofs.Borne.{borne_in}
use Rattle.exam_laws.proofs.ClosedHalls.{closing_within}
use Rattle.exam_laws.proofs.Commanding as commanding
use Rattle.exam_laws.proofs.DecidedFacts.{decision_marks, decision_refers, decision_single, decision_within}
use Rattle.exam_commands.proofs.LiveMarks.{withdrawal_within}
use Rattle.exam_commands.proofs.Referring.{import_appeals, import_refers, import_standing}
use Rattle.exam_laws.proofs.Stepping.{import_accepted, limits_refusal}

module _ (today : ℕ) (before : State) (good : IsGood before) (up : AreInOrder before.relations) where
  -- within the limits they are what the command changes the facts to
  pub made_is_change : (done : Command) → early_refusal done today before ≡ None
      → within_limits (facts_made done today before) ≡ true
      → change done today before ≡ Ok (facts_made done today before)
  made_is_change (command.Import import) ok within = import_accepted before.relations import.rows ok within
  made_is_change (command.Withdraw c p) ok within = ap (λ o. unless o (with_live before.relations c p false)) ok
  made_is_change (command.Reinstate c p) ok within =
      let new : Relations = with_live before.relations c p true in
      ap (λ o. unless o new) (commanding.reinstatement_limits before good c p true within)
      ∙ ap (λ o. unless (option_or o None) new) ok
  made_is_change (command.CloseHall s h) ok within = ap (λ o. unless o (without_opening before.relations s h)) ok
  made_is_change (command.Lodge l) ok within =
      ap (λ o. unless o (lodgings.with_lodging before.relations today l))
      (limit_refusal before good today l ok false (within_as before good today l true within))
  made_is_change (command.Retract c reference) ok within =
      ap (λ o. unless o (lodgings.with_retraction before.relations c reference)) ok
  made_is_change (command.Decide d) ok within = ap (λ o. unless o (with_decision before.relations d)) ok

  -- past a limit the command is refused
  pub past_limit : (done : Command) → may_pass_limit done ≡ true → early_refusal done today before ≡ None
      → within_limits (facts_made done today before) ≡ false → change done today before ≡ Err refusal.TooMany
  past_limit (command.Import import) may ok past =
      ap (λ o. unless (option_or o (first_refusal (too_many (with_rows before.relations import.rows) ∷ [])))
      (with_rows before.relations import.rows)) ok
      ∙ ap (λ o. unless o (with_rows before.relations import.rows))
      (limits_refusal before.relations import.rows false past)
  past_limit (command.Reinstate c p) may ok past =
      let new : Relations = with_live before.relations c p true in
      ap (λ o. unless o new) (commanding.reinstatement_limits before good c p false past)
      ∙ ap (λ o. unless (option_or o (Some refusal.TooMany)) new) ok
  past_limit (command.Lodge l) may ok past =
      ap (λ o. unless o (lodgings.with_lodging before.relations today l))
      (limit_refusal before good today l ok true (within_as before good today l false past))
  past_limit _ may ok past = absurd cc

  -- the other commands pass none
  pub within_still : (done : Command) → may_pass_limit done ≡ false → early_refusal done today before ≡ None
      → within_limits (facts_made done today before) ≡ true
  within_still (command.Withdraw c p) not_one ok = withdrawal_within before.relations c p good.limits
  within_still (command.CloseHall s h) not_one ok = closing_within before.relations s h good.limits
  within_still (command.Retract c reference) not_one ok = (retraction_within before good c reference up ok).within
  within_still (command.Decide d) not_one ok = decision_within before.relations d (up table.Appeals) ∙ good.limits
  within_still _ not_one ok = absurd cc

  -- what they refer to is there
  pub made_refers : (done : Command) → early_refusal done today before ≡ None
      → refers (facts_made done today before) ≡ true
  made_refers (command.Import import) ok = import_refers before.relations import.rows good.refer ok
  made_refers (command.Withdraw c p) ok =
      commanding.withdrawal_refers before good c p (with_live before.relations c p false) ok refl
  made_refers (command.Reinstate c p) ok =
      commanding.reinstatement_refers before good c p (with_live before.relations c p true) ok refl
  made_refers (command.CloseHall s h) ok =
      commanding.closing_known before good s h (without_opening before.relations s h) refl
  made_refers (command.Lodge l) ok =
      (lodging_settled before good today l (lodgings.with_lodging before.relations today l) ok refl).refer
  made_refers (command.Retract c reference) ok = (retraction_within before good c reference up ok).settled.refer
  made_refers (command.Decide d) ok = decision_refers before.relations d good.refer

  -- and the appeals that a candidate may have only once are still there only once
  pub made_single : (done : Command) → early_refusal done today before ≡ None → AreSingle (facts_made done today before)
  made_single (command.Import import) ok =
      subst (λ appeals. IsDistinct same_single_key (filter_map single_key appeals))
      (sym (import_appeals before.relations import.rows)) good.single
  made_single (command.Lodge l) ok =
      (lodging_settled before good today l (lodgings.with_lodging before.relations today l) ok refl).single
  made_single (command.Retract c reference) ok = (retraction_within before good c reference up ok).settled.single
  made_single (command.Decide d) ok = decision_single before.relations d good.single
  made_single _ ok = good.single

  -- and so do the marks
  pub made_marks : (done : Command) → early_refusal done today before ≡ None
      → marks_were_granted (facts_made done today before) ≡ true
  made_marks (command.Import import) ok =
      ap (λ rows. list_all (borne_in rows) (with_rows before.relations import.rows).standing)
      (import_appeals before.relations import.rows)
      ∙ ap (list_all (borne_in before.relations.appeals)) (import_standing before.relations import.rows) ∙ good.marks
  made_marks (command.Lodge l) ok =
      (lodging_settled before good today l (lodgings.with_lodging before.relations today l) ok refl).marks
  made_marks (command.Retract c reference) ok = (retraction_within before good c reference up ok).settled.marks
  made_marks (command.Decide d) ok = decision_marks before.relations d today good.marks ok
  made_marks _ ok = good.marks

-- refused by the checks on the facts as they are, the command is refused
pub early_is_change : (today : ℕ) (before : State) (done : Command) (e : Refusal)
    → early_refusal done today before ≡ Some e → change done today before ≡ Err e
early_is_change today before (command.Import import) e is =
    ap (λ o. unless (option_or o (first_refusal (too_many (with_rows before.relations import.rows) ∷ [])))
    (with_rows before.relations import.rows)) is
early_is_change today before (command.Withdraw c p) e is = ap (λ o. unless o (with_live before.relations c p false)) is
early_is_change today before (command.Reinstate c p) e is =
    ap (λ o. unless (option_or o (first_refusal (too_many (with_live before.relations c p true) ∷ [])))
    (with_live before.relations c p true)) is
early_is_change today before (command.CloseHall s h) e is = ap (λ o. unless o (without_opening before.relations s h)) is
early_is_change today before (command.Lodge l) e is =
    ap (λ o. unless (option_or o (first_refusal (lodgings.one_too_many before.relations today l ∷ [])))
    (lodgings.with_lodging before.relations today l)) is
early_is_change today before (command.Retract c reference) e is =
    ap (λ o. unless o (lodgings.with_retraction before.relations c reference)) is
early_is_change today before (command.Decide d) e is = ap (λ o. unless o (with_decision before.relations d)) is
