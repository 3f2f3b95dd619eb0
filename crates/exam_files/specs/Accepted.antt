-- Which import files are accepted, and with which rows.
use Rattle.std.specs.Prelude.{◌≡◌, ℕ, List, ◌∷◌, length, map, zip, true, false, AllPairs, Result, Ok}
use Rattle.std.specs.List.{range_with_len}
use Rattle.csv.specs.Reading.{default_config, records, strip_bom}
use Rattle.exam_commands.specs.Imports.{key_of}
use Rattle.exam_commands.specs.declared.import_row.Kind.{Kind}
use Rattle.exam_commands.specs.declared.import_row.Row.{Row}
use Rattle.exam_types.specs.declared.refusal.Refusal.{Refusal}
use Rattle.exam_files.specs.ImportFiles.{is_header, is_too_long, row_of}

-- what each record denotes, in their order; the first record has this number
abbrev pub denoted_from : Kind → ℕ → List (List (List ℕ)) → List (Result Row Refusal)
denoted_from kind first records =
    map (λ numbered. row_of kind numbered.0 numbered.1) (zip (range_with_len first (length records)) records)

-- rows with the same key are equal
abbrev pub AgreeOnKey : Row → Row → Type 0
AgreeOnKey one other = key_of one ≡ key_of other → one ≡ other

-- The file is not too long and begins with the header. Each record after it is a row, these are the rows in their
-- order, and any two with the same key are equal.
pub record Accepts (kind : Kind) (bytes : List ℕ) (rows : List Row) : Type 0 where
  pub short : is_too_long bytes ≡ false
  pub header : List (List ℕ)
  pub rest : List (List (List ℕ))
  pub records : records default_config (strip_bom bytes) ≡ header ∷ rest
  pub begins : is_header kind header ≡ true
  pub denoted : map (λ row. Ok row) rows ≡ denoted_from kind 1 rest
  pub agree : AllPairs AgreeOnKey rows
