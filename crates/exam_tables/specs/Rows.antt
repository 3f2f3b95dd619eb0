-- The rows of each table: the columns of a row, as a query shows it, and the rows that there may be.
use Rattle.std.specs.Prelude.{ℕ, [], ◌∷◌, ◌++◌, IsTrue}
use Rattle.sqlite_value.specs.declared.value.Value.TheVariants.{Text}
use Rattle.sqlite_value.specs.Order.{Row}
use Rattle.exam_types.specs.Codes.{is_session_code, is_paper_code, is_hall_code, is_reference, is_access_code}
use Rattle.exam_types.specs.Days.{IsDay, IsSessionDay}
use Rattle.exam_types.specs.Numbers.{IsNumber, IsStartTime, IsClosingTime, IsExamMinutes, IsExtra, IsDeskCount}
use Rattle.exam_types.specs.Texts.{is_name, is_reason}
use Rattle.exam_rules.specs.Relations.{Code}
use Rattle.exam_rules.specs.declared.rows.Session.{Session}
use Rattle.exam_rules.specs.declared.rows.Paper.{Paper}
use Rattle.exam_rules.specs.declared.rows.Hall.{Hall}
use Rattle.exam_rules.specs.declared.rows.Opening.{Opening}
use Rattle.exam_rules.specs.declared.rows.Candidate.{Candidate}
use Rattle.exam_rules.specs.declared.rows.Entry.{Entry}
use Rattle.exam_rules.specs.declared.rows.Arrangement.{Arrangement}
use Rattle.exam_rules.specs.declared.rows.Appeal.{Appeal}
use Rattle.exam_tables.specs.Stored.{whole, flag, day, features, subject, status, IsSubject, IsStatus}

abbrev pub session_row : Code → Session → Row
session_row code s = Text code ∷ day s.day ∷ whole s.start ∷ []

abbrev pub IsSession : Code → Session → Type 0
IsSession code s = IsTrue (is_session_code code) × IsSessionDay s.day × IsStartTime s.start

abbrev pub paper_row : Code → Paper → Row
paper_row code p = Text code ∷ Text p.title ∷ Text p.session ∷ whole p.minutes ∷ features p.required ∷ []

abbrev pub IsPaper : Code → Paper → Type 0
IsPaper code p =
    IsTrue (is_paper_code code) × IsTrue (is_name p.title) × IsTrue (is_session_code p.session)
    × IsExamMinutes p.minutes

abbrev pub hall_row : Code → Hall → Row
hall_row code h = Text code ∷ Text h.title ∷ features h.features ∷ []

abbrev pub IsHall : Code → Hall → Type 0
IsHall code h = IsTrue (is_hall_code code) × IsTrue (is_name h.title)

abbrev pub opening_row : Code × Code → Opening → Row
opening_row key o = Text key.0 ∷ Text key.1 ∷ whole o.desks ∷ whole o.until ∷ flag o.reserved ∷ []

abbrev pub IsOpening : Code × Code → Opening → Type 0
IsOpening key o =
    IsTrue (is_session_code key.0) × IsTrue (is_hall_code key.1) × IsDeskCount o.desks × IsClosingTime o.until

abbrev pub candidate_row : ℕ → Candidate → Row
candidate_row number c = whole number ∷ Text c.name ∷ Text c.code ∷ []

abbrev pub IsCandidate : ℕ → Candidate → Type 0
IsCandidate number c = IsNumber number × IsTrue (is_name c.name) × IsTrue (is_access_code c.code)

abbrev pub entry_row : ℕ × Code → Entry → Row
entry_row key e = whole key.0 ∷ Text key.1 ∷ flag e.live ∷ []

abbrev pub IsEntry : ℕ × Code → Entry → Type 0
IsEntry key e = IsNumber key.0 × IsTrue (is_paper_code key.1)

abbrev pub arrangement_row : ℕ → Arrangement → Row
arrangement_row number a = whole number ∷ features a.needs ∷ whole a.extra ∷ []

abbrev pub IsArrangement : ℕ → Arrangement → Type 0
IsArrangement number a = IsNumber number × IsExtra a.extra

abbrev pub appeal_row : ℕ × Code → Appeal → Row
appeal_row key a =
    whole key.0 ∷ Text key.1 ∷ Text a.session ∷ [] ++ subject a.subject
    ++ Text a.reason ∷ [] ++ status a.status ++ day a.lodged ∷ []

abbrev pub IsAppeal : ℕ × Code → Appeal → Type 0
IsAppeal key a =
    IsNumber key.0 × IsTrue (is_reference key.1) × IsTrue (is_session_code a.session)
    × IsSubject a.subject × IsTrue (is_reason a.reason) × IsStatus a.status × IsDay a.lodged

-- the mark of an appeal
abbrev pub standing_row : ℕ × Code → Unit {0} → Row
standing_row key mark = whole key.0 ∷ Text key.1 ∷ []

abbrev pub IsStanding : ℕ × Code → Unit {0} → Type 0
IsStanding key mark = IsNumber key.0 × IsTrue (is_reference key.1)

abbrev pub seat_row : Code × ℕ → Code → Row
seat_row key hall = Text key.0 ∷ whole key.1 ∷ Text hall ∷ []

abbrev pub IsSeat : Code × ℕ → Code → Type 0
IsSeat key hall = IsTrue (is_session_code key.0) × IsNumber key.1 × IsTrue (is_hall_code hall)
