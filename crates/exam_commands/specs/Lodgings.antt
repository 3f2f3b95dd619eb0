-- What lodging and retracting an appeal make of the facts, or why they are refused.
use Rattle.std.specs.Prelude.{ℕ, ◌-◌, ◌==◌, ◌&&◌, nat_lt, not, Bool, true, false, List, [], ◌∷◌, ◌++◌, length, Option}
use Rattle.std.specs.Prelude.{None, Some, Result, is_none, if◌then◌else◌}
use Rattle.std.specs.Option.{option_map_or, option_or}
use Rattle.exam_types.specs.declared.refusal.Refusal.{Refusal}
use Rattle.exam_types.specs.declared.refusal.Refusal.TheVariants as refusal
use Rattle.exam_rules.specs.declared.rows.Appeal.{Appeal}
use Rattle.exam_rules.specs.declared.rows.Arrangement.{Arrangement}
use Rattle.exam_rules.specs.declared.rows.Session.{Session}
use Rattle.exam_rules.specs.declared.rows.Status.TheVariants as status
use Rattle.exam_rules.specs.declared.rows.Subject.{Subject}
use Rattle.exam_rules.specs.declared.rows.Subject.TheVariants as subject
use Rattle.exam_rules.specs.Relations.{Code, Relations, appeal_cmp, code_cmp, put_row, row_at, same_code}
use Rattle.exam_rules.specs.Sessions.{arrangement_in_force, clash_papers, is_live_paper, is_member, sitting}
use Rattle.exam_rules.specs.Seatings.{plan_of}
use Rattle.exam_commands.specs.declared.command.Lodging.{Lodging}
use Rattle.exam_commands.specs.Appeals.{appeal_at, has_open_appeal, is_open, is_retracted, notice_days, same_subject}
use Rattle.exam_commands.specs.Changes.{first_refusal, no_candidate, unless}
use Rattle.exam_commands.specs.Limits.{within_limits}
use Rattle.exam_commands.specs.SameRows.{same_arrangement}
use Rattle.exam_commands.specs.State.{Seats}

-- ---- lodging

-- the last day to lodge an appeal on this subject for the session
abbrev pub last_day : Session → Subject → ℕ
last_day x asked = x.day - notice_days asked

abbrev pub not_member : Relations → Code → ℕ → Bool × Refusal
not_member r s c = (not (is_member r s c), refusal.NotInSession)

-- refused if there is no such session, or after its last day to lodge
abbrev pub closing_check : Subject → ℕ → Option Session → Bool × Refusal
closing_check asked today None = (true, refusal.NotInSession)
closing_check asked today (Some x) = (nat_lt (last_day x asked) today, refusal.PastClosing (last_day x asked))

abbrev pub past_closing : Relations → Code → Subject → ℕ → Bool × Refusal
past_closing r s asked today = closing_check asked today (row_at code_cmp r.sessions s)

-- the candidate does not sit in the hall
abbrev pub not_seated_there : Seats → Code → ℕ → Code → Bool × Refusal
not_seated_there seats s c h =
    (not (option_map_or (same_code h) (plan_of seats s c) false), refusal.NotSeatedThere)

-- the candidate has a clash, and the paper is a live one of theirs that they do not sit
abbrev pub clash_checks : Relations → Code → ℕ → Code → List (Bool × Refusal)
clash_checks r s c p =
    (length (clash_papers r s c) == 0, refusal.NoClash)
    ∷ (not (is_live_paper r s c p), refusal.NoEntry)
    ∷ (option_map_or (same_code p) (sitting r s c) false, refusal.NothingToChange)
    ∷ []

-- the arrangement is the one that is in force
abbrev pub in_force : Relations → Code → ℕ → Arrangement → Bool × Refusal
in_force r s c a = (same_arrangement a (arrangement_in_force r s c), refusal.NothingToChange)

-- the checks that belong to the kind of the appeal
abbrev pub subject_checks : Relations → Seats → Code → ℕ → Subject → List (Bool × Refusal)
subject_checks r seats s c (subject.Hall h) = not_seated_there seats s c h ∷ []
subject_checks r seats s c (subject.Clash p) = clash_checks r s c p
subject_checks r seats s c (subject.Arrangement a) = in_force r s c a ∷ []

-- the appeal is the stored one, whatever became of it and whenever it was lodged
abbrev pub is_same_lodging : Lodging → Appeal → Bool
is_same_lodging l a =
    same_code l.session a.session && (same_subject l.subject a.subject && same_code l.reason a.reason)

-- the reference belongs to another appeal
abbrev pub other_appeal : Lodging → Appeal → Bool × Refusal
other_appeal l a = (not (is_same_lodging l a), refusal.RefTaken)

-- there is an open appeal of this kind
abbrev pub appeal_is_open : Relations → Lodging → Bool × Refusal
appeal_is_open r l = (has_open_appeal r l.number l.session l.subject, refusal.AppealStands)

-- the checks of an appeal; against the appeal that is stored under its reference, if one is
abbrev pub lodging_checks : Relations → Seats → ℕ → Lodging → Option Appeal → List (Bool × Refusal)
lodging_checks r seats today l (Some a) = other_appeal l a ∷ []
lodging_checks r seats today l None =
    not_member r l.session l.number
    ∷ past_closing r l.session l.subject today
    ∷ subject_checks r seats l.session l.number l.subject
    ++ appeal_is_open r l
    ∷ []

-- with the open appeal, lodged on the day
abbrev pub with_appeal : Relations → ℕ → Lodging → Relations
with_appeal r today l = record r {
  appeals = put_row appeal_cmp r.appeals (l.number, l.reference) (record {
    session = l.session;
    subject = l.subject;
    reason = l.reason;
    status = status.Pending;
    lodged = today;
  });
}

-- with the appeal, unless one is stored under its reference
abbrev pub with_lodging : Relations → ℕ → Lodging → Relations
with_lodging r today l =
    if is_none (appeal_at r l.number l.reference) then with_appeal r today l else r

-- the limits of the facts after the lodging, if the appeal is a new one
abbrev pub one_too_many : Relations → ℕ → Lodging → Bool × Refusal
one_too_many r today l = (
  is_none (appeal_at r l.number l.reference) && not (within_limits (with_appeal r today l)),
  refusal.TooMany,
)

-- the refusal by the checks on the facts as they are
abbrev pub lodging_refusal_but_limits : Relations → Seats → ℕ → Lodging → Option Refusal
lodging_refusal_but_limits r seats today l =
    first_refusal (no_candidate r l.number
    ∷ lodging_checks r seats today l (appeal_at r l.number l.reference))

abbrev pub lodging_refusal : Relations → Seats → ℕ → Lodging → Option Refusal
lodging_refusal r seats today l =
    option_or (lodging_refusal_but_limits r seats today l) (first_refusal (one_too_many r today l ∷ []))

abbrev pub lodged : Relations → Seats → ℕ → Lodging → Result Relations Refusal
lodged r seats today l = unless (lodging_refusal r seats today l) (with_lodging r today l)

-- ---- retracting

-- the appeal exists, and is open or retracted already
abbrev pub retraction_checks : Option Appeal → List (Bool × Refusal)
retraction_checks None = (true, refusal.UnknownAppeal) ∷ []
retraction_checks (Some a) =
    (not (is_open a.status) && not (is_retracted a.status), refusal.NotOpenAppeal) ∷ []

abbrev pub retraction_refusal : Relations → ℕ → Code → Option Refusal
retraction_refusal r c reference = first_refusal (retraction_checks (appeal_at r c reference))

-- with this appeal, retracted, under the reference
abbrev pub with_retracted_appeal : Relations → ℕ → Code → Appeal → Relations
with_retracted_appeal r c reference a = record r {
  appeals = put_row appeal_cmp r.appeals (c, reference) (record a { status = status.Retracted });
}

-- with the stored appeal retracted, if there is one and it is not retracted already
abbrev pub with_retracted : Relations → ℕ → Code → Option Appeal → Relations
with_retracted r c reference None = r
with_retracted r c reference (Some a) =
    if is_retracted a.status then r else with_retracted_appeal r c reference a

abbrev pub with_retraction : Relations → ℕ → Code → Relations
with_retraction r c reference = with_retracted r c reference (appeal_at r c reference)

abbrev pub retracted : Relations → ℕ → Code → Result Relations Refusal
retracted r c reference = unless (retraction_refusal r c reference) (with_retraction r c reference)
