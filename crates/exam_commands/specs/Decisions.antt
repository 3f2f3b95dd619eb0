-- What the decision of an appeal makes of the facts, or why it is refused.
use Rattle.std.specs.Prelude.{ℕ, ◌==◌, ◌&&◌, nat_le, not, is_none, Bool, true, List, [], ◌∷◌, map, filter, Option, None}
use Rattle.std.specs.Prelude.{Some, Result, if◌then◌else◌}
use Rattle.std.specs.Option.{option_map_or}
use Rattle.std.specs.Ordering.{is_eq}
use Rattle.exam_types.specs.declared.refusal.Refusal.{Refusal}
use Rattle.exam_types.specs.declared.refusal.Refusal.TheVariants as refusal
use Rattle.exam_rules.specs.declared.rows.Appeal.{Appeal}
use Rattle.exam_rules.specs.declared.rows.Session.{Session}
use Rattle.exam_rules.specs.declared.rows.Subject.{Subject}
use Rattle.exam_rules.specs.declared.rows.Subject.TheVariants as subject
use Rattle.exam_rules.specs.Relations.{Code, Relations, appeal_cmp, code_cmp, put_row, row_at, same_code}
use Rattle.exam_rules.specs.Sessions.{asked_arrangement, is_granted, is_live_paper, is_marked}
use Rattle.exam_commands.specs.declared.command.Decision.{Decision}
use Rattle.exam_commands.specs.declared.command.Outcome.{Outcome}
use Rattle.exam_commands.specs.Appeals.{appeal_at, bears_mark, decided, is_decided, is_grant, is_open, superseded}
use Rattle.exam_commands.specs.Appeals.{supersedes}
use Rattle.exam_commands.specs.Changes.{first_refusal, unless}
use Rattle.exam_commands.specs.Lodgings.{not_member}

-- ---- the checks

-- the day is the session's date or a later one
abbrev pub is_too_late : Relations → Code → ℕ → Bool
is_too_late r s today =
    option_map_or (λ (x : Session). nat_le x.day today) (row_at code_cmp r.sessions s) true

-- for a granted clash: the paper is still a live one of the candidate in the session
abbrev pub paper_checks : Relations → Code → ℕ → Subject → List (Bool × Refusal)
paper_checks r s c (subject.Hall h) = []
paper_checks r s c (subject.Clash p) = (not (is_live_paper r s c p), refusal.NoEntry) ∷ []
paper_checks r s c (subject.Arrangement a) = []

-- only the grant of an arrangement may also hold for later sessions
abbrev pub not_arrangement : Appeal → Outcome → Bool × Refusal
not_arrangement a o = (bears_mark o && is_none (asked_arrangement a.subject), refusal.NotArrangement)

-- for a grant: the candidate is still a member
abbrev pub grant_checks : Relations → ℕ → Appeal → Outcome → List (Bool × Refusal)
grant_checks r c a o = if is_grant o then not_member r a.session c ∷ paper_checks r a.session c a.subject else []

-- the decision is already made: the appeal has this outcome with this answer, and with the mark or without it
abbrev pub is_made : Relations → Decision → Appeal → Bool
is_made r d a = is_decided d.outcome d.answer (is_marked r (d.number, d.reference)) a.status

-- the checks of an appeal that does not have this decision already
abbrev pub open_checks : Relations → ℕ → Decision → Appeal → List (Bool × Refusal)
open_checks r today d a =
    (not (is_open a.status), refusal.NotOpenAppeal)
    ∷ (is_too_late r a.session today, refusal.TooLate)
    ∷ not_arrangement a d.outcome
    ∷ grant_checks r d.number a d.outcome

abbrev pub decision_checks : Relations → ℕ → Decision → Option Appeal → List (Bool × Refusal)
decision_checks r today d None = (true, refusal.UnknownAppeal) ∷ []
decision_checks r today d (Some a) = if is_made r d a then [] else open_checks r today d a

abbrev pub decision_refusal : Relations → ℕ → Decision → Option Refusal
decision_refusal r today d = first_refusal (decision_checks r today d (appeal_at r d.number d.reference))

-- ---- the facts

-- an appeal of the candidate for the session that a grant on the subject supersedes if it was granted
abbrev pub gives_way : ℕ → Code → Subject → (ℕ × Code) × Appeal → Bool
gives_way c s asked a = (a.0.0 == c) && (same_code a.1.session s && supersedes asked a.1.subject)

abbrev pub giving_way : ℕ → Code → Subject → (ℕ × Code) × Appeal → (ℕ × Code) × Appeal
giving_way c s asked a =
    if gives_way c s asked a then (a.0, record a.1 { status = superseded a.1.status }) else a

-- one of them that was granted
abbrev pub is_earlier : ℕ → Code → Subject → (ℕ × Code) × Appeal → Bool
is_earlier c s asked a = gives_way c s asked a && is_granted a.1.status

-- a grant supersedes the earlier grants of the same candidate, session and kind, which keep their marks
abbrev pub with_superseded : ℕ → Appeal → Outcome → List ((ℕ × Code) × Appeal) → List ((ℕ × Code) × Appeal)
with_superseded c a o appeals = if is_grant o then map (giving_way c a.session a.subject) appeals else appeals

-- without a mark for the appeal
abbrev pub without_mark : ℕ × Code → List ((ℕ × Code) × Unit {0}) → List ((ℕ × Code) × Unit {0})
without_mark key standing = filter (λ (m : (ℕ × Code) × Unit {0}). not (is_eq (appeal_cmp key m.0))) standing

-- with a mark for the appeal exactly if its grant also holds for later sessions
abbrev pub with_mark : Decision → List ((ℕ × Code) × Unit {0}) → List ((ℕ × Code) × Unit {0})
with_mark d standing =
    if bears_mark d.outcome then put_row appeal_cmp standing (d.number, d.reference) tt
    else without_mark (d.number, d.reference) standing

-- with the outcome and the answer at this appeal
abbrev pub with_outcome : Relations → Decision → Appeal → Relations
with_outcome r d a = record r {
  appeals = put_row appeal_cmp (with_superseded d.number a d.outcome r.appeals) (d.number, d.reference)
      (record a { status = decided d.outcome d.answer });
  standing = with_mark d r.standing;
}

-- with the stored appeal decided, if there is one and the decision is not already made
abbrev pub with_decided : Relations → Decision → Option Appeal → Relations
with_decided r d None = r
with_decided r d (Some a) = if is_made r d a then r else with_outcome r d a

abbrev pub with_decision : Relations → Decision → Relations
with_decision r d = with_decided r d (appeal_at r d.number d.reference)

abbrev pub decision_made : Relations → ℕ → Decision → Result Relations Refusal
decision_made r today d = unless (decision_refusal r today d) (with_decision r d)

-- ---- the plans

-- the appellant of a grant
abbrev pub granted_number : Decision → Outcome → Option ℕ
granted_number d o = if is_grant o then Some d.number else None
