-- What the office shows of a session.
use Rattle.std.specs.Prelude.{◌≡◌, ◌↔◌, ℕ, ◌+◌, Bool, List, [], ◌∷◌, map, filter, find, length, All, Contains, Option}
use Rattle.std.specs.Prelude.{Some, slice_index, slice_index_or}
use Rattle.std.specs.List.{list_any}
use Rattle.std.specs.Map.{keys_of}
use Rattle.std.specs.Option.{option_map, option_and_then}
use Rattle.std.specs.Ordering.{nat_cmp}
use Rattle.exam_plan.specs.Matching.{IsBest, IsCertificate, IsContested, desk_number, unseated}
use Rattle.exam_plan.specs.Problems.{Problem, IsProblem, IsPlan, seating_of, plan_at, ranks_before}
use Rattle.exam_rules.specs.declared.rows.Session.{Session}
use Rattle.exam_rules.specs.declared.rows.Opening.{Opening}
use Rattle.exam_rules.specs.declared.rows.Appeal.{Appeal}
use Rattle.exam_rules.specs.declared.rows.Candidate.{Candidate}
use Rattle.exam_rules.specs.declared.rows.Paper.{Paper}
use Rattle.exam_rules.specs.Relations.{Code, Relations, code_cmp, same_code, row_at}
use Rattle.exam_rules.specs.Sessions.{members, sitting, finish, clashes}
use Rattle.exam_rules.specs.Seatings.{seating, plan_of, desks}
use Rattle.exam_commands.specs.Appeals.{state_of}
use Rattle.exam_commands.specs.Headline.{desk_of}
use Rattle.exam_commands.specs.State.{State}
use Rattle.exam_views.specs.declared.view.AppealRow.{AppealRow}
use Rattle.exam_views.specs.declared.view.Clash.{Clash}
use Rattle.exam_views.specs.declared.view.Member.{Member}
use Rattle.exam_views.specs.declared.view.Seat.{Seat}
use Rattle.exam_views.specs.declared.view.SessionShortage.{SessionShortage}

-- One session as it is shown: its row, all halls of the office, its openings by hall, its members by number,
-- its papers by code, its clashes, its appeals by number and reference, and its seating problem with a plan.
-- The i-th member is candidate i of the problem, and the j-th opening hall j.
pub record View : Type 0 where
  pub code : Code
  pub session : Session
  pub hall_codes : List Code
  pub openings : List (Code × Opening)
  pub members : List Member
  pub papers : List Code
  pub clashes : List Clash
  pub appeals : List AppealRow
  pub problem : Problem
  pub plan : List (Option ℕ)

-- as many members and openings as the problem has, and a best plan
pub record IsView (view : View) : Type 0 where
  pub problem : IsProblem view.problem
  pub members : length view.members ≡ length view.problem.fit
  pub openings : length view.openings ≡ length view.problem.desk_counts
  pub plan : IsPlan view.problem view.plan
  pub best : IsBest (seating_of view.problem) (plan_at view.plan)

-- ---- what it shows

-- the office has the hall
abbrev pub has_hall : View → Code → Bool
has_hall view h = list_any (λ code. same_code code h) view.hall_codes

-- the paper is one of the session
abbrev pub has_paper : View → Code → Bool
has_paper view p = list_any (λ code. same_code code p) view.papers

-- how the hall is opened for the session
abbrev pub opening_of : View → Code → Option Opening
opening_of view h = option_map (λ opened. opened.1) (find (λ opened. same_code opened.0 h) view.openings)

abbrev pub hall_of : View → ℕ → Code
hall_of view j = slice_index_or (keys_of view.openings) j []

abbrev pub number_of : View → ℕ → ℕ
number_of view i = slice_index (map (λ (member : Member). member.number) view.members) i

-- a member in a hall, or in none, at a desk
abbrev pub seat_in : Member → Option Code → Option ℕ → Seat
seat_in member hall desk = record {
  number = member.number;
  name = member.name;
  paper = member.paper;
  finish = member.finish;
  hall = hall;
  desk = desk;
}

-- the i-th member in the hall that the plan gives them, with their desk number
abbrev pub seat_at : View → ℕ → Member → Seat
seat_at view i member =
    seat_in member (option_map (hall_of view) (plan_at view.plan i))
    (desk_number (seating_of view.problem) (ranks_before view.problem) (plan_at view.plan) i)

-- the seats of these members; the first is member i
abbrev pub seats_from : View → ℕ → List Member → List Seat
seats_from view i [] = []
seats_from view i (member ∷ rest) = seat_at view i member ∷ seats_from view (i + 1) rest

-- the seats of all members, by number
abbrev pub seats_of : View → List Seat
seats_of view = seats_from view 0 view.members

-- how many are unseated, halls with their desks, and candidates
pub record Report : Type 0 where
  pub unseated : ℕ
  pub halls : List (Code × ℕ)
  pub candidates : List ℕ

abbrev pub report_of : SessionShortage → Report
report_of shortage = record {
  unseated = shortage.unseated;
  halls = shortage.halls.items;
  candidates = shortage.candidates.items;
}

-- the hall with its desks
abbrev pub hall_with_desks : View → ℕ → Code × ℕ
hall_with_desks view j = (hall_of view j, slice_index view.problem.desk_counts j)

-- the report of the certificate whose candidates are exactly the contested ones
pub record ShowsShortage (view : View) (report : Report) : Type 0 where
  pub candidates : List ℕ
  pub halls : List ℕ
  pub certificate : IsCertificate (seating_of view.problem) (plan_at view.plan) candidates halls
  pub contested : (c : ℕ) → Contains candidates c ↔ IsContested (seating_of view.problem) c
  pub unseated : report.unseated ≡ length (unseated (seating_of view.problem) (plan_at view.plan))
  pub named : report.candidates ≡ map (number_of view) candidates
  pub halls_named : report.halls ≡ map (hall_with_desks view) halls

-- ---- the same for the office

-- the openings of the session by hall
abbrev pub openings_of : Relations → Code → List (Code × Opening)
openings_of r s =
    map (λ (o : (Code × Code) × Opening). (o.0.1, o.1))
    (filter (λ (o : (Code × Code) × Opening). same_code o.0.0 s) r.openings)

-- the papers of the session
abbrev pub papers_of : Relations → Code → List Code
papers_of r s = keys_of (filter (λ (p : Code × Paper). same_code p.1.session s) r.papers)

-- a candidate's paper that they do not sit, with the one that they sit
abbrev pub clash_of : Relations → Code → ℕ × Code → Option Clash
clash_of r s pair =
    option_map (λ (sat : Code).
    let clash : Clash = record { number = pair.0; sitting = sat; paper = pair.1 } in clash)
    (sitting r s pair.0)

-- an appeal with its key, as it is listed
abbrev pub appeal_row : (ℕ × Code) × Appeal → AppealRow
appeal_row a = record {
  number = a.0.0;
  reference = a.0.1;
  subject = a.1.subject;
  state = state_of a.1.status;
  lodged = a.1.lodged;
}

-- the appeals of all candidates for the session
abbrev pub appeals_of : Relations → Code → List AppealRow
appeals_of r s = map appeal_row (filter (λ (a : (ℕ × Code) × Appeal). same_code a.1.session s) r.appeals)

-- the candidate, with the sitting paper and the finish in the session
abbrev pub member_of : Relations → Code → ℕ → Option Member
member_of r s c =
    option_and_then (λ (row : Candidate).
    option_and_then (λ (paper : Code).
    option_map (λ (end : ℕ).
    let m : Member = record { number = c; name = row.name; paper = paper; finish = end } in m)
    (finish r s c)) (sitting r s c)) (row_at nat_cmp r.candidates c)

-- the member with their hall, or none, and their desk number in it
abbrev pub seat_of : State → Code → ℕ → Option Seat
seat_of office s c =
    option_map (λ member. seat_in member (plan_of office.seats s c) (desk_of office s c))
    (member_of office.relations s c)

-- The report lists exactly the contested candidates of the session. With all halls that fit any of them they are a
-- deficiency certificate of its plan.
pub record IsShortageOf (office : State) (s : Code) (report : Report) : Type 0 where
  pub certificate : IsCertificate (seating office.relations s) (plan_of office.seats s)
      report.candidates (keys_of report.halls)
  pub contested : (c : ℕ) → Contains report.candidates c ↔ IsContested (seating office.relations s) c
  pub desks : All (λ hall. hall.1 ≡ desks office.relations s hall.0) report.halls
  pub unseated : report.unseated ≡ length (unseated (seating office.relations s) (plan_of office.seats s))

-- the view shows the session as it is in the office
pub record IsViewOf (office : State) (s : Code) (view : View) : Type 0 where
  pub code : view.code ≡ s
  pub session : row_at code_cmp office.relations.sessions s ≡ Some view.session
  pub hall_codes : view.hall_codes ≡ keys_of office.relations.halls
  pub openings : view.openings ≡ openings_of office.relations s
  pub seats : map (λ (seat : Seat). Some seat) (seats_of view)
      ≡ map (seat_of office s) (members office.relations s)
  pub papers : view.papers ≡ papers_of office.relations s
  pub clashes : map (λ (clash : Clash). Some clash) view.clashes
      ≡ map (clash_of office.relations s) (clashes office.relations s)
  pub appeals : view.appeals ≡ appeals_of office.relations s
  pub shortage : (report : Report) → ShowsShortage view report → IsShortageOf office s report
