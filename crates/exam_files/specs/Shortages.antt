-- The text of a shortage sheet.
use Rattle.std.specs.Prelude.{ℕ, List, ◌++◌, length, codes, sum_by}
use Rattle.std.specs.Fmt.{decimal}
use Rattle.std.specs.List.{flat_map}
use Rattle.exam_views.specs.Views.{Report}
use Rattle.exam_types.specs.Numbers.{number_text}

abbrev pub hall_line : List ℕ × ℕ → List ℕ
hall_line hall = codes "hall " ++ hall.0 ++ codes " desks " ++ decimal hall.1 ++ codes "\n"

abbrev pub candidate_line : ℕ → List ℕ
candidate_line number = number_text number ++ codes "\n"

abbrev pub shortage_heading : List ℕ → Report → List ℕ
shortage_heading session report =
    codes "SHORTAGE session " ++ session ++ codes "\nunseated " ++ decimal report.unseated
    ++ codes "\nhalls " ++ decimal (length report.halls)
    ++ codes " desks " ++ decimal (sum_by (λ hall. hall.1) report.halls) ++ codes "\n"

-- the halls by code, and the candidates by number
abbrev pub shortage_text : List ℕ → Report → List ℕ
shortage_text session report =
    shortage_heading session report ++ flat_map hall_line report.halls
    ++ codes "candidates " ++ decimal (length report.candidates) ++ codes "\n"
    ++ flat_map candidate_line report.candidates
