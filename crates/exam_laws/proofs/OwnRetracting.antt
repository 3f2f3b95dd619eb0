-- The candidate's own rows decide what a retraction is answered.
use Rattle.exam_laws.proofs.Words.{option_and_then, option_map, nat_cmp, and_parts, Refusal, Appeal, Candidate, Code}
use Rattle.exam_laws.proofs.Words.{appeal_cmp, code_cmp, has_row, row_at, all_at_row, appeals_exact, Reply, appeal_at}
use Rattle.exam_laws.proofs.Words.{first_refusal, unless, IsGood, appeal_refers, OwnRows, own_of, own_rows, State, Step}
use Rattle.exam_laws.proofs.Words.{StepTo}
use Rattle.std.proofs.Common.{◌≡◌, ℕ, ◌&&◌, map, Option, None, Some, Result, Ok, Err, refl, ap}
use Rattle.std.proofs.Common.{sym, ◌∙◌}
use Rattle.exam_commands.specs.declared.command.Command.TheVariants as command
use Rattle.exam_commands.specs.declared.command.Reply.TheVariants as reply
use Rattle.exam_commands.specs.Lodgings.{retraction_checks, retraction_refusal, with_retraction}
use Rattle.exam_laws.proofs.OwnFacts.{appeal_found, pair_of, pairs_own}
use Rattle.exam_commands.proofs.Referring.{stored_refer}

-- the appeal with the reference among what is shown
abbrev pub shown_appeal : Code → Option OwnRows → Option Appeal
shown_appeal reference own =
    option_and_then (λ (rows : OwnRows). row_at code_cmp (map pair_of rows.appeals) reference) own

pub appeal_told : (office : State) (c : ℕ) (reference : Code) → IsGood office
    → appeal_at office.relations c reference ≡ shown_appeal reference (own_of office c)
appeal_told office c reference good = inner (row_at nat_cmp office.relations.candidates c) refl
  where
    -- nobody's appeal is stored who is not there
    none_stored : row_at nat_cmp office.relations.candidates c ≡ None → (o : Option Appeal)
        → appeal_at office.relations c reference ≡ o → o ≡ None
    none_stored away None at = refl
    none_stored away (Some a) at =
        let refers = all_at_row appeal_cmp appeals_exact
        (λ x. has_row nat_cmp office.relations.candidates x.0.0 && appeal_refers office.relations x.1)
        office.relations.appeals (c, reference) a (stored_refer office.relations good.refer) at in
        absurd (cc (and_parts (has_row nat_cmp office.relations.candidates c)
        (appeal_refers office.relations a) refers).0)

    inner : (o : Option Candidate) → row_at nat_cmp office.relations.candidates c ≡ o
        → appeal_at office.relations c reference ≡ shown_appeal reference (option_map (own_rows office c) o)
    inner None away = none_stored away (appeal_at office.relations c reference) refl
    inner (Some row) there =
        appeal_found c reference office.relations.appeals
        ∙ ap (λ rows. row_at code_cmp rows reference) (sym (pairs_own office.relations c))

pub same_appeal : (one other : State) (c : ℕ) (reference : Code) → IsGood one → IsGood other
    → own_of one c ≡ own_of other c → appeal_at one.relations c reference ≡ appeal_at other.relations c reference
same_appeal one other c reference good sound same =
    appeal_told one c reference good ∙ ap (shown_appeal reference) same ∙ sym (appeal_told other c reference sound)

pub same_retraction_refusal : (one other : State) (c : ℕ) (reference : Code) → IsGood one → IsGood other
    → own_of one c ≡ own_of other c
    → retraction_refusal one.relations c reference ≡ retraction_refusal other.relations c reference
same_retraction_refusal one other c reference good sound same =
    ap (λ o. first_refusal (retraction_checks o)) (same_appeal one other c reference good sound same)

-- as answered: the refusal, or else that it is done
abbrev pub answer_or : Result Reply Refusal → Option Refusal → Result Reply Refusal
answer_or done None = done
answer_or done (Some e) = Err e

retraction_answered : (office after : State) (c : ℕ) (reference : Code) (day : ℕ) (answer : Result Reply Refusal)
    → Step (command.Retract c reference) day office answer after
    → answer ≡ answer_or (Ok reply.Retracted) (retraction_refusal office.relations c reference)
retraction_answered office after c reference day answer = inner (retraction_refusal office.relations c reference)
  where
    inner : (o : Option Refusal)
        → StepTo (command.Retract c reference) office answer after
        (unless o (with_retraction office.relations c reference)) → answer ≡ answer_or (Ok reply.Retracted) o
    inner None step = step.2
    inner (Some e) step = step.0

pub same_retraction_answer : (one other one_after other_after : State) (c : ℕ) (reference : Code) (day later : ℕ)
    (first second : Result Reply Refusal) → IsGood one → IsGood other → own_of one c ≡ own_of other c
    → Step (command.Retract c reference) day one first one_after
    → Step (command.Retract c reference) later other second other_after → first ≡ second
same_retraction_answer one other one_after other_after c reference day later first second good sound same step again =
    retraction_answered one one_after c reference day first step
    ∙ ap (answer_or (Ok reply.Retracted)) (same_retraction_refusal one other c reference good sound same)
    ∙ sym (retraction_answered other other_after c reference later second again)
