-- The text of a seat export.
use Rattle.std.specs.Prelude.{ℕ, List, ◌++◌, codes}
use Rattle.std.specs.List.{flat_map}
use Rattle.exam_views.specs.declared.view.Seat.{Seat}
use Rattle.exam_views.specs.Views.{View, seats_of}
use Rattle.exam_types.specs.Numbers.{number_text}
use Rattle.exam_files.specs.Places.{hall_word, desk_word}

-- the record of a member of the session
abbrev pub export_line : List ℕ → Seat → List ℕ
export_line code seat =
    code ++ codes "," ++ number_text seat.number ++ codes "," ++ seat.paper
    ++ codes "," ++ hall_word seat.hall ++ codes "," ++ desk_word seat.desk ++ codes "\n"

-- the header, and a record for each member
abbrev pub export_text : List ℕ → List Seat → List ℕ
export_text code seats = codes "session,number,paper,hall,desk\n" ++ flat_map (export_line code) seats

abbrev pub seat_export : View → List ℕ
seat_export view = export_text view.code (seats_of view)
