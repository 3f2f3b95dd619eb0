-- How a seat is written: a dash is written for no hall and for no desk.
use Rattle.std.specs.Prelude.{ℕ, List, Option, None, Some, codes}
use Rattle.std.specs.Fmt.{decimal}

abbrev pub hall_word : Option (List ℕ) → List ℕ
hall_word None = codes "-"
hall_word (Some hall) = hall

abbrev pub desk_word : Option ℕ → List ℕ
desk_word None = codes "-"
desk_word (Some desk) = decimal desk
