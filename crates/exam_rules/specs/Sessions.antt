-- Who belongs to a session, which paper each sits, and under which arrangement.
use Rattle.std.specs.Prelude.{◌≡◌, ◌⊎◌, ℕ, ◌+◌, ◌*◌, ◌/◌, ◌==◌, ◌&&◌, not, Bool, true, false, length, List}
use Rattle.std.specs.Prelude.{[], ◌∷◌, map, filter, fold, nat_le, Option, None, Some, if◌then◌else◌}
use Rattle.std.specs.List.{list_any, filter_map, flat_map}
use Rattle.std.specs.Option.{option_map, option_and_then, option_map_or, option_or, unwrap_or}
use Rattle.std.specs.declared.cmp.Ordering.{Ordering}
use Rattle.std.specs.Ordering.{nat_cmp, ordering_then, is_lt}
use Rattle.exam_types.specs.Features.{no_features}
use Rattle.exam_types.specs.declared.refusal.Refusal.{Refusal}
use Rattle.exam_types.specs.declared.refusal.Refusal.TheVariants.{UnknownSession, NoMemory}
use Rattle.exam_rules.specs.declared.rows.Session.{Session}
use Rattle.exam_rules.specs.declared.rows.Paper.{Paper}
use Rattle.exam_rules.specs.declared.rows.Entry.{Entry}
use Rattle.exam_rules.specs.declared.rows.Arrangement.{Arrangement}
use Rattle.exam_rules.specs.declared.rows.Appeal.{Appeal}
use Rattle.exam_rules.specs.declared.rows.Status.{Status}
use Rattle.exam_rules.specs.declared.rows.Status.TheVariants as status
use Rattle.exam_rules.specs.declared.rows.Subject.{Subject}
use Rattle.exam_rules.specs.declared.rows.Subject.TheVariants as subject
use Rattle.exam_rules.specs.declared.standing.StandingGrant.{StandingGrant}
use Rattle.exam_rules.specs.Relations.{Code, Relations, code_cmp, same_code, appeal_cmp, entry_cmp, row_at}
use Rattle.exam_rules.specs.Relations.{has_row, is_row_of}

-- the first of a list, if there is one
abbrev pub head_of : {A : Type 0} → List A → Option A
head_of [] = None
head_of (x ∷ xs) = Some x

-- the value, if it passes
abbrev pub option_filter : {A : Type 0} → (A → Bool) → Option A → Option A
option_filter p o = option_and_then (λ x. if p x then Some x else None) o

-- ---- members and papers

abbrev pub is_paper_of : Relations → Code → Code → Bool
is_paper_of r s p = option_map_or (λ paper. same_code paper.session s) (row_at code_cmp r.papers p) false

-- a live entry of the candidate for a paper of the session
abbrev pub is_live_entry : Relations → Code → ℕ → (ℕ × Code) × Entry → Bool
is_live_entry r s c e = (e.0.0 == c) && (e.1.live && is_paper_of r s e.0.1)

-- the papers of those of these entries that are live and of the session, codes rising
abbrev pub live_papers_in : Relations → List ((ℕ × Code) × Entry) → Code → ℕ → List Code
live_papers_in r entries s c = map (λ (e : (ℕ × Code) × Entry). e.0.1) (filter (is_live_entry r s c) entries)

abbrev pub live_papers : Relations → Code → ℕ → List Code
live_papers r s c = live_papers_in r r.entries s c

abbrev pub is_live : Relations → ℕ → Code → Bool
is_live r c p = option_map_or (λ entry. entry.live) (row_at entry_cmp r.entries (c, p)) false

-- the paper is one of the live papers
abbrev pub is_live_paper : Relations → Code → ℕ → Code → Bool
is_live_paper r s c p = is_live r c p && is_paper_of r s p

-- a live entry for a paper of the session, whether or not the number is that of a candidate
abbrev pub has_live_entry : Relations → Code → ℕ → Bool
has_live_entry r s c = list_any (is_live_entry r s c) r.entries

-- a candidate of the office with a live entry for a paper of the session
abbrev pub is_member : Relations → Code → ℕ → Bool
is_member r s c = has_row nat_cmp r.candidates c && has_live_entry r s c

-- the members, numbers rising
abbrev pub members : Relations → Code → List ℕ
members r s = filter (has_live_entry r s) (map (λ e. e.0) r.candidates)

-- ---- granted appeals

abbrev pub is_granted : Status → Bool
is_granted status.Pending = false
is_granted (status.Granted answer) = true
is_granted (status.Refused answer) = false
is_granted status.Retracted = false
is_granted (status.Superseded answer) = false

abbrev pub asked_hall : Subject → Option Code
asked_hall (subject.Hall h) = Some h
asked_hall (subject.Clash p) = None
asked_hall (subject.Arrangement a) = None

abbrev pub asked_paper : Subject → Option Code
asked_paper (subject.Hall h) = None
asked_paper (subject.Clash p) = Some p
asked_paper (subject.Arrangement a) = None

abbrev pub asked_arrangement : Subject → Option Arrangement
asked_arrangement (subject.Hall h) = None
asked_arrangement (subject.Clash p) = None
asked_arrangement (subject.Arrangement a) = Some a

-- a granted appeal of the candidate for the session
abbrev pub is_granted_appeal : Code → ℕ → (ℕ × Code) × Appeal → Bool
is_granted_appeal s c a = (a.0.0 == c) && (same_code a.1.session s && is_granted a.1.status)

-- all appeals of the candidate
abbrev pub appeal_count : Relations → ℕ → ℕ
appeal_count r c = length (filter (is_row_of c) r.appeals)

-- what they ask, references rising
abbrev pub granted_subjects : List ((ℕ × Code) × Appeal) → Code → ℕ → List Subject
granted_subjects appeals s c =
    map (λ (a : (ℕ × Code) × Appeal). a.1.subject) (filter (is_granted_appeal s c) appeals)

abbrev pub granted_paper_in : List ((ℕ × Code) × Appeal) → Code → ℕ → Option Code
granted_paper_in appeals s c = head_of (filter_map asked_paper (granted_subjects appeals s c))

abbrev pub granted_arrangement_in : List ((ℕ × Code) × Appeal) → Code → ℕ → Option Arrangement
granted_arrangement_in appeals s c = head_of (filter_map asked_arrangement (granted_subjects appeals s c))

-- the paper of the granted clash appeal; a candidate has at most one for a session
abbrev pub granted_paper : Relations → Code → ℕ → Option Code
granted_paper r s c = granted_paper_in r.appeals s c

abbrev pub granted_arrangement : Relations → Code → ℕ → Option Arrangement
granted_arrangement r s c = granted_arrangement_in r.appeals s c

-- the halls that granted appeals bar
abbrev pub barred_halls_in : List ((ℕ × Code) × Appeal) → Code → ℕ → List Code
barred_halls_in appeals s c = filter_map asked_hall (granted_subjects appeals s c)

abbrev pub barred_halls : Relations → Code → ℕ → List Code
barred_halls r s c = barred_halls_in r.appeals s c

-- ---- the sitting paper, and clashes

abbrev pub least_live_paper : Relations → Code → ℕ → Option Code
least_live_paper r s c = head_of (live_papers r s c)

-- the paper of the granted clash appeal if it is live, or else the least live paper; does not ask whether the number is
-- a candidate's
abbrev pub sitting : Relations → Code → ℕ → Option Code
sitting r s c = option_or (option_filter (is_live_paper r s c) (granted_paper r s c)) (least_live_paper r s c)

-- the member's other live papers in the session
abbrev pub is_clash : Option Code → Code → Bool
is_clash sat p = not (option_map_or (λ q. same_code q p) sat false)

abbrev pub clash_papers : Relations → Code → ℕ → List Code
clash_papers r s c = filter (is_clash (sitting r s c)) (live_papers r s c)

abbrev pub clashes_of : Relations → Code → ℕ → List (ℕ × Code)
clashes_of r s c = map (λ p. (c, p)) (clash_papers r s c)

-- the clashes of a session: pairs of a candidate and a paper
abbrev pub clashes : Relations → Code → List (ℕ × Code)
clashes r s = flat_map (clashes_of r s) (members r s)

-- ---- arrangements and times

abbrev pub no_arrangement : Arrangement
no_arrangement = record { needs = no_features; extra = 0 }

-- the date of the session, if there is one
abbrev pub session_day : Relations → Code → Option ℕ
session_day r s = option_map (λ (session : Session). session.day) (row_at code_cmp r.sessions s)

-- the appeal bears the mark by which its grant also holds for later sessions
abbrev pub is_marked : Relations → ℕ × Code → Bool
is_marked r key = has_row appeal_cmp r.standing key

-- a granted appeal of the candidate that bears the mark; a superseded one is granted no more
abbrev pub is_standing : Relations → ℕ → (ℕ × Code) × Appeal → Bool
is_standing r c a = (a.0.0 == c) && (is_granted a.1.status && is_marked r a.0)

-- the arrangement that the appeal asks, with its session and the session's date
abbrev pub standing_grant : Relations → Appeal → Option StandingGrant
standing_grant r a =
    option_and_then (λ wanted.
    option_map (λ day. record { day = day; session = a.session; arrangement = wanted }) (session_day r a.session))
    (asked_arrangement a.subject)

-- what the candidate's standing grants among these appeals give, references rising
abbrev pub standing_grants_in : Relations → List ((ℕ × Code) × Appeal) → ℕ → List StandingGrant
standing_grants_in r appeals c =
    filter_map (λ (a : (ℕ × Code) × Appeal). standing_grant r a.1) (filter (is_standing r c) appeals)

abbrev pub standing_grants : Relations → ℕ → List StandingGrant
standing_grants r c = standing_grants_in r r.appeals c

-- by date, and then by session code
abbrev pub standing_cmp : StandingGrant → StandingGrant → Ordering
standing_cmp a b = ordering_then (nat_cmp a.day b.day) (code_cmp a.session b.session)

abbrev pub later_of : Option StandingGrant → StandingGrant → Option StandingGrant
later_of None b = Some b
later_of (Some a) b = Some (if is_lt (standing_cmp a b) then b else a)

-- the last of those whose date is not later than the day
abbrev pub last_until : ℕ → List StandingGrant → Option StandingGrant
last_until day grants = fold later_of None (filter (λ grant. nat_le grant.day day) grants)

-- what standing grants give in a session of this date
abbrev pub standing_arrangement : Option ℕ → List StandingGrant → Option Arrangement
standing_arrangement date grants =
    option_and_then (λ day. option_map (λ grant. grant.arrangement) (last_until day grants)) date

-- The arrangement granted for the session, or else that of a standing grant, or else the imported one, or else none.
abbrev pub arrangement_by : Option Arrangement → Option ℕ → List StandingGrant → Option Arrangement → Arrangement
arrangement_by granted date grants imported =
    unwrap_or (option_or granted (option_or (standing_arrangement date grants) imported)) no_arrangement

-- the arrangement in force
abbrev pub arrangement_in_force : Relations → Code → ℕ → Arrangement
arrangement_in_force r s c =
    arrangement_by (granted_arrangement r s c) (session_day r s) (standing_grants r c) (row_at nat_cmp r.arrangements c)

-- rounded up
abbrev pub ceiling_of_hundredths : ℕ → ℕ
ceiling_of_hundredths n = (n + 99) / 100

-- the minute of the day at which the member ends
abbrev pub end_of : Session → Paper → Arrangement → ℕ
end_of session paper arrangement =
    session.start + ceiling_of_hundredths (paper.minutes * (100 + arrangement.extra))

abbrev pub sitting_row : Relations → Code → ℕ → Option Paper
sitting_row r s c = option_and_then (row_at code_cmp r.papers) (sitting r s c)

-- the minute of the day at which a member ends: in the session, sitting their paper, under the arrangement in force;
-- does not ask whether the number is a candidate's
abbrev pub finish : Relations → Code → ℕ → Option ℕ
finish r s c =
    option_and_then (λ session.
    option_map (λ paper. end_of session paper (arrangement_in_force r s c)) (sitting_row r s c))
    (row_at code_cmp r.sessions s)

-- ---- refusals

-- refused if there is no such session, and otherwise only if memory runs out
abbrev pub IsSessionRefusal : Relations → Code → Refusal → Type 0
IsSessionRefusal r s e =
    ((e ≡ UnknownSession) × (has_row code_cmp r.sessions s ≡ false))
    ⊎ ((e ≡ NoMemory) × (has_row code_cmp r.sessions s ≡ true))
