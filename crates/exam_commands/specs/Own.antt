-- What the office shows of one candidate.
use Rattle.std.specs.Prelude.{ℕ, List, map, filter, filter_map, Option}
use Rattle.std.specs.Option.{option_map, option_and_then}
use Rattle.std.specs.Ordering.{nat_cmp}
use Rattle.exam_rules.specs.declared.rows.Appeal.{Appeal}
use Rattle.exam_rules.specs.declared.rows.Arrangement.{Arrangement}
use Rattle.exam_rules.specs.declared.rows.Candidate.{Candidate}
use Rattle.exam_rules.specs.declared.rows.Session.{Session}
use Rattle.exam_rules.specs.Relations.{Code, Relations, is_row_of, row_at}
use Rattle.exam_rules.specs.Sessions.{is_marked, is_member, live_papers, sitting, clash_papers, arrangement_in_force}
use Rattle.exam_rules.specs.Sessions.{finish}
use Rattle.exam_rules.specs.Seatings.{plan_of}
use Rattle.exam_commands.specs.Headline.{desk_of}
use Rattle.exam_commands.specs.State.{State}
use Rattle.exam_commands.specs.declared.own.Own.{Own}
use Rattle.exam_commands.specs.declared.own.OwnAppeal.{OwnAppeal}
use Rattle.exam_commands.specs.declared.own.OwnSession.{OwnSession}

-- a session as its member sees it: when it is held, their live papers in it, which one they sit, which clash, under
-- which arrangement, until when, where, and at which desk
pub record OwnSessionRow : Type 0 where
  pub session : Code
  pub day : ℕ
  pub start : ℕ
  pub papers : List Code
  pub sitting : Code
  pub clashes : List Code
  pub arrangement : Arrangement
  pub finish : ℕ
  pub hall : Option Code
  pub desk : Option ℕ

-- a candidate as they see themselves: their row, the sessions that they are a member of, and their appeals
pub record OwnRows : Type 0 where
  pub number : ℕ
  pub name : List ℕ
  pub code : Code
  pub sessions : List OwnSessionRow
  pub appeals : List OwnAppeal

-- ---- what is taken from the office

-- the session, for a member who sits this paper and ends at this time
abbrev pub session_row : State → ℕ → Code × Session → Code → ℕ → OwnSessionRow
session_row office c held paper end = record {
  session = held.0;
  day = held.1.day;
  start = held.1.start;
  papers = live_papers office.relations held.0 c;
  sitting = paper;
  clashes = clash_papers office.relations held.0 c;
  arrangement = arrangement_in_force office.relations held.0 c;
  finish = end;
  hall = plan_of office.seats held.0 c;
  desk = desk_of office held.0 c;
}

-- the session as its member sees it, who sits some paper and ends at some time
abbrev pub own_session : State → ℕ → Code × Session → Option OwnSessionRow
own_session office c held =
    option_and_then (λ paper. option_map (session_row office c held paper) (finish office.relations held.0 c))
    (sitting office.relations held.0 c)

-- the sessions that the candidate is a member of, by code
abbrev pub own_sessions : State → ℕ → List OwnSessionRow
own_sessions office c =
    filter_map (own_session office c)
    (filter (λ (held : Code × Session). is_member office.relations held.0 c) office.relations.sessions)

-- an appeal as its candidate sees it: its reference, its row, and whether it bears the mark of a standing grant
abbrev pub own_appeal : Relations → (ℕ × Code) × Appeal → OwnAppeal
own_appeal r a = record { reference = a.0.1; appeal = a.1; standing = is_marked r a.0 }

-- the candidate's appeals, by reference
abbrev pub own_appeals : Relations → ℕ → List OwnAppeal
own_appeals r c = map (own_appeal r) (filter (is_row_of c) r.appeals)

-- all that the office shows of a candidate who has this row
abbrev pub own_rows : State → ℕ → Candidate → OwnRows
own_rows office c row = record {
  number = c;
  name = row.name;
  code = row.code;
  sessions = own_sessions office c;
  appeals = own_appeals office.relations c;
}

-- what the office shows of the candidate with the number, or none
abbrev pub own_of : State → ℕ → Option OwnRows
own_of office c = option_map (own_rows office c) (row_at nat_cmp office.relations.candidates c)

-- ---- what is answered

-- an answered session as plain values
abbrev pub shown_session : OwnSession → OwnSessionRow
shown_session own = record {
  session = own.session;
  day = own.day;
  start = own.start;
  papers = own.papers.items;
  sitting = own.sitting;
  clashes = own.clashes.items;
  arrangement = own.arrangement;
  finish = own.finish;
  hall = own.hall;
  desk = own.desk;
}

-- an answered candidate as plain values
abbrev pub shown : Own → OwnRows
shown own = record {
  number = own.number;
  name = own.name;
  code = own.code;
  sessions = map shown_session own.sessions.items;
  appeals = own.appeals.items;
}
