-- The ranges and the texts of the numbered values. The ranges are numbers, not the constants of the code.
use Rattle.std.specs.Prelude.{ℕ, ◌≤◌, ◌+◌, ◌-◌, ◌/◌, ◌%◌, List, ◌∷◌, ◌++◌, Option, find, bytes_eq}
use Rattle.std.specs.Fmt.{decimal}
use Rattle.std.specs.List.{range_with_len}
use Rattle.exam_types.specs.Digits.{digits}

-- 1 to 9,999,999
abbrev pub IsNumber : ℕ → Type 0
IsNumber n = (1 ≤ n) × (n ≤ 9999999)

-- a time from 00:00 to 43:59, in minutes
abbrev pub IsMinute : ℕ → Type 0
IsMinute m = m ≤ 2639

-- 00:00 to 23:59
abbrev pub IsStartTime : ℕ → Type 0
IsStartTime m = m ≤ 1439

-- 00:00 to 24:00
abbrev pub IsClosingTime : ℕ → Type 0
IsClosingTime m = m ≤ 1440

-- the length of a paper in minutes
abbrev pub IsExamMinutes : ℕ → Type 0
IsExamMinutes m = (1 ≤ m) × (m ≤ 600)

-- extra time in percent
abbrev pub IsExtra : ℕ → Type 0
IsExtra p = p ≤ 100

-- desks of an opening
abbrev pub IsDeskCount : ℕ → Type 0
IsDeskCount n = (1 ≤ n) × (n ≤ 2000)

-- seven digits
unfoldable pub number_text : ℕ → List ℕ
number_text n = digits 7 n

-- HH:MM
unfoldable pub minute_text : ℕ → List ℕ
minute_text m = digits 2 (m / 60) ++ 58 ∷ digits 2 (m % 60)

-- the number from a least to a greatest one that has this text, if there is one
unfoldable pub value_in : (ℕ → List ℕ) → ℕ → ℕ → List ℕ → Option ℕ
value_in text least greatest bytes =
    find (λ n. bytes_eq (text n) bytes) (range_with_len least (greatest + 1 - least))

-- The value that a text is, if it is one.

abbrev pub number_in : List ℕ → Option ℕ
number_in = value_in number_text 1 9999999

abbrev pub start_in : List ℕ → Option ℕ
start_in = value_in minute_text 0 1439

abbrev pub until_in : List ℕ → Option ℕ
until_in = value_in minute_text 0 1440

abbrev pub minutes_in : List ℕ → Option ℕ
minutes_in = value_in decimal 1 600

abbrev pub extra_in : List ℕ → Option ℕ
extra_in = value_in decimal 0 100

abbrev pub desks_in : List ℕ → Option ℕ
desks_in = value_in decimal 1 2000
