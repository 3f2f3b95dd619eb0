-- Small offices, and what the definitions say of them. The check computes each case.
use Rattle.std.specs.Prelude.{◌≡◌, ℕ, true, false, List, [], ◌∷◌, Option, None, Some, refl, codes}
use Rattle.exam_types.specs.Features.{Features, no_features, named_features}
use Rattle.exam_rules.specs.declared.rows.Paper.{Paper}
use Rattle.exam_rules.specs.declared.rows.Appeal.{Appeal}
use Rattle.exam_rules.specs.declared.rows.Arrangement.{Arrangement}
use Rattle.exam_rules.specs.declared.rows.Candidate.{Candidate}
use Rattle.exam_rules.specs.declared.rows.Entry.{Entry}
use Rattle.exam_rules.specs.declared.rows.Hall.{Hall}
use Rattle.exam_rules.specs.declared.rows.Opening.{Opening}
use Rattle.exam_rules.specs.declared.rows.Session.{Session}
use Rattle.exam_rules.specs.declared.rows.Subject.{Subject}
use Rattle.exam_rules.specs.declared.rows.Status.TheVariants as status
use Rattle.exam_rules.specs.declared.rows.Subject.TheVariants as subject
use Rattle.exam_plan.specs.Matching.{desk_number}
use Rattle.exam_plan.specs.Repair.{kept_part}
use Rattle.exam_rules.specs.Relations.{Code, Relations}
use Rattle.exam_rules.specs.Sessions.{members, sitting, clashes, arrangement_in_force, finish}
use Rattle.exam_rules.specs.Seatings.{fits, seating, plan_of, comes_before, problem_of}
use Rattle.exam_plan.specs.Problems.{Problem}

abbrev pub paper_of : ℕ → Features → Paper
paper_of minutes required =
    record { title = codes "Maths"; session = codes "S1"; minutes = minutes; required = required }

abbrev pub opening_until : ℕ → Opening
opening_until until = record { desks = 1; until = until; reserved = false }

abbrev pub hall_with : Code → Features → Code × Hall
hall_with h features = (h, record { title = h; features = features })

abbrev pub opening_of : Code → Opening → (Code × Code) × Opening
opening_of h opening = ((codes "S1", h), opening)

abbrev pub named : ℕ → Code → Code → ℕ × Candidate
named c name code = (c, record { name = name; code = code })

abbrev pub step_free : Features
step_free = named_features (codes "step-free")

-- an entry for the paper MA-1
abbrev pub entered : ℕ → (ℕ × Code) × Entry
entered c = ((c, codes "MA-1"), record { live = true })

-- session S1 at 09:00 with the paper MA-1 of 60 minutes, halls A (step-free) and B, both with one desk until
-- 12:00
abbrev pub base : Relations
base = record {
  sessions = (codes "S1", record { day = 20970; start = 540 }) ∷ [];
  papers = (codes "MA-1", paper_of 60 no_features) ∷ [];
  halls = hall_with (codes "A") step_free ∷ hall_with (codes "B") no_features ∷ [];
  openings = opening_of (codes "A") (opening_until 720) ∷ opening_of (codes "B") (opening_until 720) ∷ [];
  candidates = named 1 (codes "Bo Berg") (codes "CODE0001")
      ∷ named 2 (codes "Ada Lin") (codes "CODE0002")
      ∷ named 3 (codes "Cy Dahl") (codes "CODE0003")
      ∷ [];
  entries = [];
  arrangements = [];
  appeals = [];
  standing = [];
}

-- 90 minutes and a quarter more: 112.5 is rounded up, from 09:00 to 10:53
abbrev quarter_more : Relations
quarter_more = record base {
  papers = (codes "MA-1", paper_of 90 no_features) ∷ [];
  entries = entered 1 ∷ [];
  arrangements = (1, record { needs = no_features; extra = 25 }) ∷ [];
}

finish_rounds_up : finish quarter_more (codes "S1") 1 ≡ Some 653
finish_rounds_up = refl

-- only the hall A is open, until the given time
abbrev until : ℕ → Relations
until end = record quarter_more { openings = opening_of (codes "A") (opening_until end) ∷ [] }

fits_until_then : fits (until 653) (codes "S1") 1 (codes "A") ≡ true
fits_until_then = refl

fits_not_sooner : fits (until 652) (codes "S1") 1 (codes "A") ≡ false
fits_not_sooner = refl

-- 1 and 3 without needs, and 2 who needs step-free access
abbrev pub three : Relations
three = record base {
  entries = entered 1 ∷ entered 2 ∷ entered 3 ∷ [];
  arrangements = (2, record { needs = step_free; extra = 0 }) ∷ [];
}

three_members : members three (codes "S1") ≡ 1 ∷ 2 ∷ 3 ∷ []
three_members = refl

two_fits_A : fits three (codes "S1") 2 (codes "A") ≡ true
two_fits_A = refl

two_not_B : fits three (codes "S1") 2 (codes "B") ≡ false
two_not_B = refl

one_fits_B : fits three (codes "S1") 1 (codes "B") ≡ true
one_fits_B = refl

-- a granted appeal for a session
abbrev pub granted : Code → Subject → Appeal
granted s wanted = record {
  session = s;
  subject = wanted;
  reason = [];
  status = status.Granted (codes "ok");
  lodged = 20965;
}

-- 1 may not sit in B
abbrev barred : Relations
barred = record three {
  appeals = ((1, codes "HA1"), granted (codes "S1") (subject.Hall (codes "B"))) ∷ [];
}

one_not_B : fits barred (codes "S1") 1 (codes "B") ≡ false
one_not_B = refl

one_still_A : fits barred (codes "S1") 1 (codes "A") ≡ true
one_still_A = refl

abbrev one_in_B : List ((Code × ℕ) × Code)
one_in_B = ((codes "S1", 1), codes "B") ∷ ((codes "S1", 2), codes "A") ∷ []

-- the seats that stay when B no longer fits 1
abbrev kept : ℕ → Option Code
kept = kept_part (seating barred (codes "S1")) (plan_of one_in_B (codes "S1"))

put_out : kept 1 ≡ None
put_out = refl

stays_in : kept 2 ≡ Some (codes "A")
stays_in = refl

-- 3 is entered for MA-1 and for PH-2, which requires a computer
abbrev pub two_papers : Relations
two_papers = record base {
  papers = (codes "MA-1", paper_of 60 no_features)
      ∷ (codes "PH-2", paper_of 60 (named_features (codes "computer")))
      ∷ [];
  entries = entered 3 ∷ ((3, codes "PH-2"), record { live = true }) ∷ [];
}

sits_least : sitting two_papers (codes "S1") 3 ≡ Some (codes "MA-1")
sits_least = refl

clash_named : clashes two_papers (codes "S1") ≡ (3, codes "PH-2") ∷ []
clash_named = refl

abbrev clash_granted : Relations
clash_granted = record two_papers {
  appeals = ((3, codes "C1"), granted (codes "S1") (subject.Clash (codes "PH-2"))) ∷ [];
}

sits_granted : sitting clash_granted (codes "S1") 3 ≡ Some (codes "PH-2")
sits_granted = refl

clash_turned : clashes clash_granted (codes "S1") ≡ (3, codes "MA-1") ∷ []
clash_turned = refl

-- a paper of 600 minutes at 23:59 with twice the time ends at 43:59
abbrev longest : Relations
longest = record base {
  sessions = (codes "S1", record { day = 20970; start = 1439 }) ∷ [];
  papers = (codes "MA-1", paper_of 600 no_features) ∷ [];
  entries = entered 1 ∷ [];
  arrangements = (1, record { needs = no_features; extra = 100 }) ∷ [];
}

latest_finish : finish longest (codes "S1") 1 ≡ Some 2639
latest_finish = refl

-- a withdrawn entry makes no member
abbrev one_withdrawn : Relations
one_withdrawn = record base { entries = ((1, codes "MA-1"), record { live = false }) ∷ entered 2 ∷ [] }

withdrawn_is_no_member : members one_withdrawn (codes "S1") ≡ 2 ∷ []
withdrawn_is_no_member = refl

-- a granted appeal of another session counts for nothing
abbrev granted_elsewhere : Relations
granted_elsewhere = record two_papers {
  appeals = ((3, codes "C1"), granted (codes "S2") (subject.Clash (codes "PH-2"))) ∷ [];
}

sits_least_still : sitting granted_elsewhere (codes "S1") 3 ≡ Some (codes "MA-1")
sits_least_still = refl

-- a reserved hall is for those with needs or extra time
abbrev reserved : Relations
reserved = record three {
  openings = opening_of (codes "A") (record { desks = 1; until = 720; reserved = true }) ∷ [];
}

reserved_for_needs : fits reserved (codes "S1") 2 (codes "A") ≡ true
reserved_for_needs = refl

reserved_not_for_others : fits reserved (codes "S1") 1 (codes "A") ≡ false
reserved_not_for_others = refl

-- by indices: all three fit A, and 2 comes second; B fits the first and the third
abbrev by_indices : Problem
by_indices = record {
  desk_counts = 1 ∷ 1 ∷ [];
  fit = (0 ∷ 1 ∷ []) ∷ (0 ∷ []) ∷ (0 ∷ 1 ∷ []) ∷ [];
  rank = 0 ∷ 1 ∷ 2 ∷ [];
}

three_by_indices : problem_of three (codes "S1") ≡ by_indices
three_by_indices = refl

-- candidate 5 sits MA-1 and candidate 2 sits PH-2 in one hall: desks are ordered by the paper first
abbrev two_sittings : Relations
two_sittings = record two_papers {
  candidates = named 2 (codes "Ada Lin") (codes "CODE0002")
      ∷ named 5 (codes "Ed Poe") (codes "CODE0005")
      ∷ [];
  entries = ((2, codes "PH-2"), record { live = true }) ∷ entered 5 ∷ [];
}

abbrev both_in_A : List ((Code × ℕ) × Code)
both_in_A = ((codes "S1", 2), codes "A") ∷ ((codes "S1", 5), codes "A") ∷ []

abbrev desk_in_A : ℕ → Option ℕ
desk_in_A = desk_number (seating two_sittings (codes "S1")) (comes_before two_sittings (codes "S1"))
    (plan_of both_in_A (codes "S1"))

first_desk : desk_in_A 5 ≡ Some 1
first_desk = refl

second_desk : desk_in_A 2 ≡ Some 2
second_desk = refl

-- ---- standing grants

abbrev extra_of : ℕ → Arrangement
extra_of extra = record { needs = no_features; extra = extra }

abbrev on_day : ℕ → Session
on_day day = record { day = day; start = 540 }

-- an appeal of 1 for extra time
abbrev asked : Code → Code → ℕ → (ℕ × Code) × Appeal
asked reference s extra = ((1, reference), granted s (subject.Arrangement (extra_of extra)))

abbrev mark : Code → (ℕ × Code) × Unit {0}
mark reference = ((1, reference), tt)

-- S1 on one day, S2 and S3 on the next, S4 on the third; 5 percent are imported
abbrev days : List ((ℕ × Code) × Appeal) → List ((ℕ × Code) × Unit {0}) → Relations
days appeals standing = record base {
  sessions = (codes "S1", on_day 20970) ∷ (codes "S2", on_day 20971) ∷ (codes "S3", on_day 20971)
      ∷ (codes "S4", on_day 20972) ∷ [];
  arrangements = (1, extra_of 5) ∷ [];
  appeals = appeals;
  standing = standing;
}

abbrev extra_in : Relations → Code → ℕ
extra_in r s = (arrangement_in_force r s 1).extra

-- one standing grant, for S2
abbrev from_S2 : Relations
from_S2 = days (asked (codes "AR1") (codes "S2") 25 ∷ []) (mark (codes "AR1") ∷ [])

stands_later : extra_in from_S2 (codes "S4") ≡ 25
stands_later = refl

stands_that_day : extra_in from_S2 (codes "S3") ≡ 25
stands_that_day = refl

stands_not_earlier : extra_in from_S2 (codes "S1") ≡ 5
stands_not_earlier = refl

no_mark_no_standing : extra_in (days (asked (codes "AR1") (codes "S2") 25 ∷ []) []) (codes "S4") ≡ 5
no_mark_no_standing = refl

-- two standing grants
abbrev both : (ℕ × Code) × Appeal → (ℕ × Code) × Appeal → Relations
both first second = days (first ∷ second ∷ []) (mark (codes "AR1") ∷ mark (codes "AR2") ∷ [])

latest_date : extra_in (both (asked (codes "AR1") (codes "S2") 30) (asked (codes "AR2") (codes "S1") 25)) (codes "S4")
    ≡ 30
latest_date = refl

greater_code : extra_in (both (asked (codes "AR1") (codes "S3") 40) (asked (codes "AR2") (codes "S2") 30)) (codes "S4")
    ≡ 40
greater_code = refl

-- the grant for the session itself comes first
granted_there : extra_in
    (days (asked (codes "AR1") (codes "S3") 40 ∷ asked (codes "AR2") (codes "S4") 50 ∷ []) (mark (codes "AR1") ∷ []))
    (codes "S4")
    ≡ 50
granted_there = refl

-- a superseded grant has no effect
abbrev superseded : (ℕ × Code) × Appeal → (ℕ × Code) × Appeal
superseded a = (a.0, record a.1 { status = status.Superseded (codes "ok") })

superseded_is_none : extra_in
    (both (superseded (asked (codes "AR1") (codes "S2") 30)) (asked (codes "AR2") (codes "S1") 25))
    (codes "S4")
    ≡ 25
superseded_is_none = refl
