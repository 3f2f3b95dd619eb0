-- A good office.
use Rattle.std.specs.Prelude.{◌≡◌, ◌&&◌, ◌⊎◌, Bool, true, false, IsTrue, List, [], ◌∷◌, Option, None, Some, is_some}
use Rattle.std.specs.List.{list_all}
use Rattle.std.specs.Option.{option_map_or}
use Rattle.std.specs.Ordering.{nat_cmp}
use Rattle.exam_plan.specs.Matching.{IsBest}
use Rattle.exam_rules.specs.declared.rows.Appeal.{Appeal}
use Rattle.exam_rules.specs.declared.rows.Status.{Status}
use Rattle.exam_rules.specs.declared.rows.Status.TheVariants as status
use Rattle.exam_rules.specs.declared.rows.Subject.{Subject}
use Rattle.exam_rules.specs.declared.rows.Subject.TheVariants as subject
use Rattle.exam_rules.specs.Relations.{Code, Relations, appeal_cmp, code_cmp, has_row, row_at}
use Rattle.exam_rules.specs.Sessions.{asked_arrangement}
use Rattle.exam_rules.specs.Seatings.{seating, plan_of}
use Rattle.exam_commands.specs.Limits as limits
use Rattle.exam_commands.specs.Limits.{within_limits}
use Rattle.exam_commands.specs.State.{State}
use Rattle.exam_commands.specs.Singles.{AreSingle}
use Rattle.exam_commands.specs.declared.table.Table.{Table}
use Rattle.exam_commands.specs.declared.table.Table.TheVariants as table

-- ---- whatever a row refers to exists

abbrev pub papers_refer : Relations → Bool
papers_refer r = list_all (λ x. has_row code_cmp r.sessions x.1.session) r.papers

abbrev pub openings_refer : Relations → Bool
openings_refer r =
    list_all (λ x. has_row code_cmp r.sessions x.0.0 && has_row code_cmp r.halls x.0.1) r.openings

abbrev pub entries_refer : Relations → Bool
entries_refer r =
    list_all (λ x. has_row nat_cmp r.candidates x.0.0 && has_row code_cmp r.papers x.0.1) r.entries

abbrev pub arrangements_refer : Relations → Bool
arrangements_refer r = list_all (λ x. has_row nat_cmp r.candidates x.0) r.arrangements

-- what an appeal's subject names exists
abbrev pub subject_refers : Relations → Subject → Bool
subject_refers r (subject.Hall h) = has_row code_cmp r.halls h
subject_refers r (subject.Clash p) = has_row code_cmp r.papers p
subject_refers r (subject.Arrangement a) = true

abbrev pub appeal_refers : Relations → Appeal → Bool
appeal_refers r a = has_row code_cmp r.sessions a.session && subject_refers r a.subject

abbrev pub appeals_refer : Relations → Bool
appeals_refer r = list_all (λ x. has_row nat_cmp r.candidates x.0.0 && appeal_refers r x.1) r.appeals

-- granted, or granted once and superseded since
abbrev pub was_granted : Status → Bool
was_granted status.Pending = false
was_granted (status.Granted answer) = true
was_granted (status.Refused answer) = false
was_granted status.Retracted = false
was_granted (status.Superseded answer) = true

-- an arrangement appeal that was granted may bear the mark of a standing grant
abbrev pub may_bear : Appeal → Bool
may_bear a = is_some (asked_arrangement a.subject) && was_granted a.status

-- the appeal of each mark exists and may bear it
abbrev pub marks_were_granted : Relations → Bool
marks_were_granted r = list_all (λ m. option_map_or may_bear (row_at appeal_cmp r.appeals m.0) false) r.standing

abbrev pub refers : Relations → Bool
refers r =
    papers_refer r && (openings_refer r && (entries_refer r && (arrangements_refer r && appeals_refer r)))

-- References and limits hold; a candidate has at most one granted clash appeal, one granted arrangement
-- appeal and one open appeal of a kind for a session; the appeal of each mark may bear it; every session's plan
-- is best.
pub record IsGood (office : State) : Type 0 where
  pub refer : IsTrue (refers office.relations)
  pub limits : IsTrue (within_limits office.relations)
  pub single : AreSingle office.relations
  pub marks : IsTrue (marks_were_granted office.relations)
  pub best : (s : Code) → IsBest (seating office.relations s) (plan_of office.seats s)

-- ---- by tables

-- The rows of the table refer to what exists, and the limits that belong to it hold. Appeals: a candidate has only once
-- what they may have only once. Marks: the appeal of each may bear it. Seats: every session's plan is best.
abbrev pub IsTableGood : State → Table → Type 0
IsTableGood office table.Sessions = IsTrue (limits.sessions_within office.relations)
IsTableGood office table.Papers =
    IsTrue (limits.papers_within office.relations && papers_refer office.relations)
IsTableGood office table.Halls = IsTrue (limits.halls_within office.relations)
IsTableGood office table.Openings =
    IsTrue (limits.openings_within office.relations && openings_refer office.relations)
IsTableGood office table.Candidates = IsTrue (limits.candidates_within office.relations)
IsTableGood office table.Entries =
    IsTrue (limits.members_within office.relations && entries_refer office.relations)
IsTableGood office table.Arrangements = IsTrue (arrangements_refer office.relations)
IsTableGood office table.Appeals =
    IsTrue (limits.appeals_within office.relations && appeals_refer office.relations)
    × AreSingle office.relations
IsTableGood office table.Standing = IsTrue (marks_were_granted office.relations)
IsTableGood office table.Seats = (s : Code) → IsBest (seating office.relations s) (plan_of office.seats s)

-- the tables in the order in which they are checked
abbrev pub tables : List Table
tables =
    table.Sessions ∷ table.Papers ∷ table.Halls ∷ table.Openings ∷ table.Candidates ∷ table.Entries
    ∷ table.Arrangements ∷ table.Appeals ∷ table.Standing ∷ table.Seats ∷ []

-- the first of these tables that is not good, or none
abbrev pub IsFirstBadOf : State → List Table → Option Table → Type 0
IsFirstBadOf office [] found = found ≡ None
IsFirstBadOf office (t ∷ ts) found =
    ((IsTableGood office t → ⊥) × (found ≡ Some t)) ⊎ (IsTableGood office t × IsFirstBadOf office ts found)

abbrev pub IsFirstBad : State → Option Table → Type 0
IsFirstBad office found = IsFirstBadOf office tables found
