-- The text of an attendance sheet.
use Rattle.std.specs.Prelude.{ℕ, Bool, List, [], ◌++◌, Result, Ok, Err, codes, count_by, if◌then◌else◌}
use Rattle.std.specs.Fmt.{decimal}
use Rattle.std.specs.List.{flat_map}
use Rattle.exam_views.specs.declared.view.Seat.{Seat}
use Rattle.exam_views.specs.Views.{View, has_paper, seats_of}
use Rattle.exam_rules.specs.declared.rows.Session.{Session}
use Rattle.exam_rules.specs.Relations.{same_code}
use Rattle.exam_types.specs.Days.{day_text}
use Rattle.exam_types.specs.Numbers.{minute_text, number_text}
use Rattle.exam_types.specs.declared.refusal.Refusal.{Refusal}
use Rattle.exam_types.specs.declared.refusal.Refusal.TheVariants.{UnknownPaper}
use Rattle.exam_files.specs.Padding.{left_in, right_in}
use Rattle.exam_files.specs.Places.{hall_word, desk_word}
use Rattle.exam_files.specs.Writing.{sheet_if}

-- the member sits the paper
abbrev pub sits : List ℕ → Seat → Bool
sits paper seat = same_code seat.paper paper

abbrev pub attendance_line : Seat → List ℕ
attendance_line seat =
    number_text seat.number ++ codes " " ++ left_in 8 (hall_word seat.hall)
    ++ codes " " ++ right_in 4 (desk_word seat.desk) ++ codes " " ++ minute_text seat.finish
    ++ codes " " ++ seat.name ++ codes "\n"

-- the line of a member who sits the paper
abbrev pub line_for : List ℕ → Seat → List ℕ
line_for paper seat = if sits paper seat then attendance_line seat else []

abbrev pub attendance_heading : List ℕ → Session → List ℕ → ℕ → List ℕ
attendance_heading code session paper count =
    codes "ATTENDANCE session " ++ code ++ codes " paper " ++ paper
    ++ codes "\ndate " ++ day_text session.day ++ codes " start " ++ minute_text session.start
    ++ codes " candidates " ++ decimal count ++ codes "\n"

-- the heading, and a line for each member who sits the paper
abbrev pub attendance_text : List ℕ → Session → List ℕ → List Seat → List ℕ
attendance_text code session paper seats =
    attendance_heading code session paper (count_by (sits paper) seats) ++ flat_map (line_for paper) seats

-- a paper of the session, or its refusal
abbrev pub paper_in : View → List ℕ → Result (Unit {0}) Refusal
paper_in view paper = if has_paper view paper then Ok tt else Err UnknownPaper

abbrev pub attendance : View → List ℕ → Result (List ℕ) Refusal
attendance view paper =
    sheet_if (λ found. attendance_text view.code view.session paper (seats_of view)) (paper_in view paper)
