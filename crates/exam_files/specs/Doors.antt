-- The text of a door list.
use Rattle.std.specs.Prelude.{ℕ, Bool, false, List, [], ◌++◌, Option, Some, None, Result, Err, ◌==◌, ◌&&◌, nat_eq}
use Rattle.std.specs.Prelude.{codes, count_by, if◌then◌else◌}
use Rattle.std.specs.Cmp.Lexicographic.{pointwise}
use Rattle.std.specs.Fmt.{decimal}
use Rattle.std.specs.Option.{ok_or}
use Rattle.std.specs.List.{flat_map, range_with_len}
use Rattle.exam_views.specs.declared.view.Seat.{Seat}
use Rattle.exam_views.specs.Views.{View, has_hall, opening_of, seats_of}
use Rattle.exam_rules.specs.declared.rows.Opening.{Opening}
use Rattle.exam_rules.specs.declared.rows.Session.{Session}
use Rattle.exam_types.specs.Days.{day_text}
use Rattle.exam_types.specs.Numbers.{minute_text, number_text}
use Rattle.exam_types.specs.declared.refusal.Refusal.{Refusal}
use Rattle.exam_types.specs.declared.refusal.Refusal.TheVariants.{HallNotOpened, UnknownHall}
use Rattle.exam_files.specs.Padding.{left_in, right_in}
use Rattle.exam_files.specs.Writing.{sheet_if}

abbrev pub is_in : List ℕ → Option (List ℕ) → Bool
is_in hall None = false
is_in hall (Some code) = pointwise nat_eq code hall

abbrev pub sits_in : List ℕ → Seat → Bool
sits_in hall seat = is_in hall seat.hall

abbrev pub is_desk : ℕ → Option ℕ → Bool
is_desk desk None = false
is_desk desk (Some n) = n == desk

abbrev pub door_line : ℕ → Seat → List ℕ
door_line desk seat =
    right_in 4 (decimal desk) ++ codes " " ++ number_text seat.number ++ codes " "
    ++ left_in 12 seat.paper ++ codes " " ++ seat.name ++ codes "\n"

-- the line of a member who sits at that desk of that hall
abbrev pub line_at : List ℕ → ℕ → Seat → List ℕ
line_at hall desk seat = if sits_in hall seat && is_desk desk seat.desk then door_line desk seat else []

-- the heading of a hall as it is opened for a session, with the seats of the session's members
abbrev pub door_heading : List ℕ → Session → List ℕ → Opening → List Seat → List ℕ
door_heading code session hall opening seats =
    codes "DOOR LIST session " ++ code ++ codes " hall " ++ hall
    ++ codes "\ndate " ++ day_text session.day ++ codes " start " ++ minute_text session.start
    ++ codes " desks " ++ decimal opening.desks
    ++ codes " seated " ++ decimal (count_by (sits_in hall) seats) ++ codes "\n"

-- the heading, and for each desk the line of the member who sits there
abbrev pub door_text : List ℕ → Session → List ℕ → Opening → List Seat → List ℕ
door_text code session hall opening seats =
    door_heading code session hall opening seats
    ++ flat_map (λ desk. flat_map (line_at hall desk) seats) (range_with_len 1 opening.desks)

-- the opening of a hall in the session, or its refusal: the office has no such hall, or it is not opened
abbrev pub opening_in : View → List ℕ → Result Opening Refusal
opening_in view hall =
    if has_hall view hall then ok_or (opening_of view hall) HallNotOpened else Err UnknownHall

abbrev pub door_list : View → List ℕ → Result (List ℕ) Refusal
door_list view hall =
    sheet_if (λ opening. door_text view.code view.session hall opening (seats_of view)) (opening_in view hall)
