-- Which record and which column the refusal of an import file names.
use Rattle.std.specs.Prelude.{◌≡◌, ◌+◌, ℕ, List, [], ◌∷◌, ◌++◌, length, map, true, false, Bool, AllPairs}
use Rattle.std.specs.Prelude.{Option, Some, None, Ok, is_some, ◌==◌, if◌then◌else◌}
use Rattle.csv.specs.Reading.{default_config, records, strip_bom}
use Rattle.exam_commands.specs.declared.import_row.Kind.{Kind}
use Rattle.exam_commands.specs.declared.import_row.Kind.TheVariants.{Sessions, Papers, Halls, Openings}
use Rattle.exam_commands.specs.declared.import_row.Kind.TheVariants.{Candidates, Entries, Arrangements}
use Rattle.exam_commands.specs.declared.import_row.Row.{Row}
use Rattle.exam_types.specs.Codes.{is_access_code, is_hall_code, is_paper_code, is_session_code}
use Rattle.exam_types.specs.Days.{session_day_in}
use Rattle.exam_types.specs.Features.{features_in}
use Rattle.exam_types.specs.Numbers.{desks_in, extra_in, minutes_in, number_in, start_in, until_in}
use Rattle.exam_types.specs.Texts.{is_name}
use Rattle.exam_files.specs.Accepted.{AgreeOnKey, denoted_from}
use Rattle.exam_files.specs.ImportFiles.{field, flag_in, header_of, is_header, is_too_long, row_of}

-- the text is one that has a value
abbrev pub has : {X : Type 0} → (List ℕ → Option X) → List ℕ → Bool
has value_in text = is_some (value_in text)

-- for each column of a kind, from the left, which texts are good
abbrev pub columns_of : Kind → List (List ℕ → Bool)
columns_of Sessions = is_session_code ∷ has session_day_in ∷ has start_in ∷ []
columns_of Papers = is_paper_code ∷ is_name ∷ is_session_code ∷ has minutes_in ∷ has features_in ∷ []
columns_of Halls = is_hall_code ∷ is_name ∷ has features_in ∷ []
columns_of Openings = is_session_code ∷ is_hall_code ∷ has desks_in ∷ has until_in ∷ has flag_in ∷ []
columns_of Candidates = has number_in ∷ is_name ∷ is_access_code ∷ []
columns_of Entries = has number_in ∷ is_paper_code ∷ []
columns_of Arrangements = has number_in ∷ has features_in ∷ has extra_in ∷ []

-- so many columns are good; the number, counted from 1, of the first one behind them whose text is not
abbrev pub first_bad : ℕ → List (List ℕ → Bool) → List (List ℕ) → Option ℕ
first_bad i [] fields = None
first_bad i (is_good ∷ columns) fields =
    if is_good (field i fields) then first_bad (i + 1) columns fields else Some (i + 1)

-- The first bad column of a record. It is 0 if the record has too many fields, or too few.
abbrev pub first_bad_column : Kind → List (List ℕ) → Option ℕ
first_bad_column kind fields =
    if length fields == length (header_of kind) then first_bad 0 (columns_of kind) fields else Some 0

-- The file is not too long, begins with the header, and has a record of this number with these fields. The records
-- between are these rows, in their order, and any two with the same key are equal.
pub record Reaches (kind : Kind) (bytes : List ℕ) (number : ℕ) (rows : List Row) (fields : List (List ℕ)) : Type 0 where
  pub short : is_too_long bytes ≡ false
  pub header : List (List ℕ)
  pub early : List (List (List ℕ))
  pub late : List (List (List ℕ))
  pub records : records default_config (strip_bom bytes) ≡ header ∷ (early ++ fields ∷ late)
  pub begins : is_header kind header ≡ true
  pub denoted : map (λ row. Ok row) rows ≡ denoted_from kind 1 early
  pub agree : AllPairs AgreeOnKey rows
  pub counted : number ≡ length early + 1

-- this column of this record is the first that is bad
abbrev pub IsFirstBad : Kind → List ℕ → ℕ → ℕ → Type 0
IsFirstBad kind bytes number column =
    (rows : List Row) × (fields : List (List ℕ)) × Reaches kind bytes number rows fields
    × (first_bad_column kind fields ≡ Some column)

-- this record is the first that contradicts an earlier one, and it is a row
abbrev pub IsFirstConflict : Kind → List ℕ → ℕ → Type 0
IsFirstConflict kind bytes number =
    (rows : List Row) × (fields : List (List ℕ)) × (row : Row) × Reaches kind bytes number rows fields
    × (row_of kind number fields ≡ Ok row) × (AllPairs AgreeOnKey (rows ++ row ∷ []) → ⊥)
