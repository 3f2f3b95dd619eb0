-- The text of a clash list.
use Rattle.std.specs.Prelude.{ℕ, List, ◌++◌, length, codes}
use Rattle.std.specs.Fmt.{decimal}
use Rattle.std.specs.List.{flat_map}
use Rattle.exam_views.specs.declared.view.Clash.{Clash}
use Rattle.exam_views.specs.Views.{View}
use Rattle.exam_rules.specs.declared.rows.Session.{Session}
use Rattle.exam_types.specs.Days.{day_text}
use Rattle.exam_types.specs.Numbers.{number_text}
use Rattle.exam_files.specs.Padding.{left_in}

abbrev pub clash_line : Clash → List ℕ
clash_line clash =
    number_text clash.number ++ codes " sits " ++ left_in 12 clash.sitting
    ++ codes " clash " ++ clash.paper ++ codes "\n"

abbrev pub clash_heading : List ℕ → Session → ℕ → List ℕ
clash_heading code session count =
    codes "CLASHES session " ++ code ++ codes "\ndate " ++ day_text session.day
    ++ codes " clashes " ++ decimal count ++ codes "\n"

-- the heading, and a line for each clash
abbrev pub clash_text : List ℕ → Session → List Clash → List ℕ
clash_text code session clashes = clash_heading code session (length clashes) ++ flat_map clash_line clashes

abbrev pub clash_list : View → List ℕ
clash_list view = clash_text view.code view.session view.clashes
