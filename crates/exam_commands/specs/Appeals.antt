-- Appeals: their kinds, their states, and what is stored of them.
use Rattle.std.specs.Prelude.{ℕ, ◌==◌, ◌&&◌, not, Bool, true, false, List, Option, if◌then◌else◌}
use Rattle.std.specs.List.{list_any}
use Rattle.std.specs.Option.{option_map_or}
use Rattle.exam_rules.specs.declared.rows.Appeal.{Appeal}
use Rattle.exam_rules.specs.declared.rows.Status.{Status}
use Rattle.exam_rules.specs.declared.rows.Status.TheVariants as status
use Rattle.exam_rules.specs.declared.rows.Subject.{Subject}
use Rattle.exam_rules.specs.declared.rows.Subject.TheVariants as subject
use Rattle.exam_rules.specs.Relations.{Code, Relations, appeal_cmp, row_at, same_code}
use Rattle.exam_commands.specs.declared.command.AppealState.{AppealState}
use Rattle.exam_commands.specs.declared.command.AppealState.TheVariants as state
use Rattle.exam_commands.specs.declared.command.Outcome.{Outcome}
use Rattle.exam_commands.specs.declared.command.Outcome.TheVariants as outcome
use Rattle.exam_commands.specs.SameRows.{same_arrangement}

-- ---- subjects

-- both against a hall, both on a clash, or both for an arrangement
abbrev pub same_kind : Subject → Subject → Bool
same_kind (subject.Hall h) (subject.Hall k) = true
same_kind (subject.Clash p) (subject.Clash q) = true
same_kind (subject.Arrangement a) (subject.Arrangement b) = true
same_kind asked other = false

abbrev pub same_subject : Subject → Subject → Bool
same_subject (subject.Hall h) (subject.Hall k) = same_code h k
same_subject (subject.Clash p) (subject.Clash q) = same_code p q
same_subject (subject.Arrangement a) (subject.Arrangement b) = same_arrangement a b
same_subject asked other = false

-- how many days before the session's date the last day to lodge is
abbrev pub notice_days : Subject → ℕ
notice_days (subject.Hall h) = 2
notice_days (subject.Clash p) = 5
notice_days (subject.Arrangement a) = 10

-- a grant takes the place of an earlier one of its kind; granted hall appeals add up
abbrev pub supersedes : Subject → Subject → Bool
supersedes (subject.Hall h) other = false
supersedes (subject.Clash p) other = same_kind (subject.Clash p) other
supersedes (subject.Arrangement a) other = same_kind (subject.Arrangement a) other

-- ---- states

abbrev pub state_of : Status → AppealState
state_of status.Pending = state.Pending
state_of (status.Granted answer) = state.Granted
state_of (status.Refused answer) = state.Refused
state_of status.Retracted = state.Retracted
state_of (status.Superseded answer) = state.Superseded

abbrev pub is_open : Status → Bool
is_open status.Pending = true
is_open (status.Granted answer) = false
is_open (status.Refused answer) = false
is_open status.Retracted = false
is_open (status.Superseded answer) = false

abbrev pub is_retracted : Status → Bool
is_retracted status.Pending = false
is_retracted (status.Granted answer) = false
is_retracted (status.Refused answer) = false
is_retracted status.Retracted = true
is_retracted (status.Superseded answer) = false

-- a grant, whether or not it also holds for later sessions
abbrev pub is_grant : Outcome → Bool
is_grant outcome.Grant = true
is_grant outcome.Standing = true
is_grant outcome.Refuse = false

-- it also holds for later sessions, so its appeal bears the mark
abbrev pub bears_mark : Outcome → Bool
bears_mark outcome.Grant = false
bears_mark outcome.Standing = true
bears_mark outcome.Refuse = false

abbrev pub decided : Outcome → List ℕ → Status
decided o answer = if is_grant o then status.Granted answer else status.Refused answer

-- the appeal was granted with this answer
abbrev pub is_granted_so : List ℕ → Status → Bool
is_granted_so answer (status.Granted stored) = same_code answer stored
is_granted_so answer other = false

-- the appeal was refused with this answer
abbrev pub is_refused_so : List ℕ → Status → Bool
is_refused_so answer (status.Refused stored) = same_code answer stored
is_refused_so answer other = false

-- the appeal has this outcome with this answer, and with the mark or without it; a superseded grant does not count
abbrev pub is_decided : Outcome → List ℕ → Bool → Status → Bool
is_decided outcome.Grant answer marked stored = not marked && is_granted_so answer stored
is_decided outcome.Standing answer marked stored = marked && is_granted_so answer stored
is_decided outcome.Refuse answer marked stored = is_refused_so answer stored

-- a grant that a later one has superseded
abbrev pub superseded : Status → Status
superseded status.Pending = status.Pending
superseded (status.Granted answer) = status.Superseded answer
superseded (status.Refused answer) = status.Refused answer
superseded status.Retracted = status.Retracted
superseded (status.Superseded answer) = status.Superseded answer

-- ---- what is stored

-- the candidate's appeal with the reference
abbrev pub appeal_at : Relations → ℕ → Code → Option Appeal
appeal_at r c reference = row_at appeal_cmp r.appeals (c, reference)

-- the state of the candidate's appeal with the reference; pending if there is none
abbrev pub stored_state : Relations → ℕ → Code → AppealState
stored_state r c reference =
    option_map_or (λ (a : Appeal). state_of a.status) (appeal_at r c reference) state.Pending

-- an open appeal of the candidate for the session, of the same kind
abbrev pub is_open_appeal : ℕ → Code → Subject → (ℕ × Code) × Appeal → Bool
is_open_appeal c s asked a =
    (a.0.0 == c) && (same_code a.1.session s && (same_kind a.1.subject asked && is_open a.1.status))

abbrev pub has_open_appeal : Relations → ℕ → Code → Subject → Bool
has_open_appeal r c s asked = list_any (is_open_appeal c s asked) r.appeals
