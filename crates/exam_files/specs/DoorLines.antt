-- A door list by its lines.
use Rattle.std.specs.Prelude.{◌≡◌, ℕ, List, [], ◌++◌, length, map, filter, count_by, Some}
use Rattle.std.specs.Prelude.{IsPermutation}
use Rattle.std.specs.List.{flat_map, range_with_len}
use Rattle.std.specs.Option.{option_map_or}
use Rattle.exam_views.specs.declared.view.Seat.{Seat}
use Rattle.exam_views.specs.Views.{View, opening_of, seats_of}
use Rattle.exam_rules.specs.declared.rows.Opening.{Opening}
use Rattle.exam_files.specs.Doors.{door_heading, door_line, sits_in}

-- the line of a member at their desk
abbrev pub own_line : Seat → List ℕ
own_line seat = option_map_or (λ desk. door_line desk seat) seat.desk []

-- After the heading comes a line for each occupant of the hall, once, as many as the heading says, and the desks
-- of the lines are 1, 2 and so on.
pub record HasLines (view : View) (hall : List ℕ) (text : List ℕ) : Type 0 where
  pub opening : Opening
  pub opened : opening_of view hall ≡ Some opening
  pub occupants : List Seat
  pub all : IsPermutation (filter (sits_in hall) (seats_of view)) occupants
  pub count : length occupants ≡ count_by (sits_in hall) (seats_of view)
  pub desks : map (λ (seat : Seat). seat.desk) occupants ≡ map (λ n. Some n) (range_with_len 1 (length occupants))
  pub text_is : text ≡ door_heading view.code view.session hall opening (seats_of view)
      ++ flat_map own_line occupants
