-- The rows of an accepted file, from its records and back.
use Rattle.std.proofs.Common.{◌≡◌, ◌↔◌, ◌∙◌, ◌+◌, ◌<◌, ◌&&◌, ℕ, List, [], ◌∷◌, ◌++◌, length, get_or, map, Bool, true}
use Rattle.std.proofs.Common.{false, cond, not, AllPairs, Result, Ok, Err, refl, sym, ap, subst, arith, append_assoc}
use Rattle.std.proofs.Common.{append-nil, length-append, inl, inr}
use Rattle.std.proofs.lemmas.Bool.{cases_Bool}
use Rattle.std.proofs.lemmas.List.{get_or_append_left}
use Rattle.std.proofs.lemmas.List.Elements.{All-from_get_or}
use Rattle.std.proofs.lemmas.List.Folds.{list_any_at, list_any_none}
use Rattle.std.proofs.lemmas.List.Quantifiers.{all_pairs_push}
use Rattle.csv.specs.Reading.{default_config, records, strip_bom}
use Rattle.exam_commands.specs.Imports.{ImportRows, conflicts, has_key, key_of, same_row}
use Rattle.exam_commands.specs.declared.import_row.Kind.{Kind}
use Rattle.exam_commands.specs.declared.import_row.Row.{Row}
use Rattle.exam_commands.proofs.ImportKeys.{key_exact, key_itself}
use Rattle.exam_commands.proofs.ImportRowsEqual.{row_exact, row_refl}
use Rattle.exam_types.specs.declared.refusal.Refusal.{Refusal}
use Rattle.exam_types.specs.declared.refusal.Refusal.TheVariants.{BadHeader, RowConflict, TooMany}
use Rattle.exam_files.specs.Accepted.{Accepts, AgreeOnKey, denoted_from}
use Rattle.exam_files.specs.ImportFiles.{and_then, import_of, is_header, is_too_long, row_of, rows_from, rows_of}
use Rattle.exam_files.proofs.OfficeSheets.{cons_parts}

abbrev ok : Row → Result Row Refusal
ok row = Ok row

abbrev import : Kind → List Row → Result ImportRows Refusal
import kind rows = Ok (record { kind = kind; rows = rows })

-- ---- rows with one key

-- a row that another contradicts
abbrev differs : Row → Row → Bool
differs row other = has_key (key_of row) other && not (same_row other row)

own_key : (row other : Row) → key_of other ≡ key_of row → has_key (key_of row) other ≡ true
own_key row other same = rw same (key_itself (key_of row))

settled : (a b : Bool) → (a && not b) ≡ false → a ≡ true → b ≡ true
settled true true e h = refl
settled true false e h = sym e
settled false b e h = cc h

agrees : (row other : Row) → differs row other ≡ false → AgreeOnKey other row
agrees row other apart same =
    row_exact other row (settled (has_key (key_of row) other) (same_row other row) apart (own_key row other same))

agreed : (row other : Row) → AgreeOnKey other row → differs row other ≡ false
agreed row other same = step (has_key (key_of row) other) refl
  where
    step : (b : Bool) → has_key (key_of row) other ≡ b → (b && not (same_row other row)) ≡ false
    step false e = refl
    step true e =
        let one : other ≡ row = same (key_exact (key_of other) (key_of row) e) in
        let equal : same_row other row ≡ true = subst (λ (x : Row). same_row x row ≡ true) (sym one) (row_refl row) in
        rw equal refl

-- a row that contradicts none of those before it agrees with each
pub one_more : (row : Row) (before : List Row) → conflicts row before ≡ false → AllPairs AgreeOnKey before
    → AllPairs AgreeOnKey (before ++ row ∷ [])
one_more row before none agree = all_pairs_push AgreeOnKey before row agree at
  where
    at : (k : ℕ) (d : Row) → k < length before → AgreeOnKey (get_or before k d) row
    at k d below = elim (cases_Bool (differs row (get_or before k d))) [
      | inl is ↦ absurd (let clash : true ≡ false = sym (list_any_at (differs row) before k d below is) ∙ none in cc)
      | inr apart ↦ agrees row (get_or before k d) apart
    ]

-- and the other way round
pub clear : (before : List Row) (row : Row) (after : List Row) → AllPairs AgreeOnKey (before ++ row ∷ after)
    → conflicts row before ≡ false
clear before row after agree =
    list_any_none (differs row) before (All-from_get_or (λ other. differs row other ≡ false) before row at)
  where
    here : (xs : List Row) → get_or (xs ++ row ∷ after) (length xs) row ≡ row
    here [] = refl
    here (x ∷ xs) = here xs

    at : (i : ℕ) → i < length before → differs row (get_or before i row) ≡ false
    at i below =
        let long = length-append before (row ∷ after) in
        let pair = agree i (length before) row below (omega (arith, long)) in
        agreed row (get_or before i row) (rw (get_or_append_left before (row ∷ after) row i below, here before) at pair)

-- ---- the rows of the records

-- the rows of these records come behind those before
record Adds (kind : Kind) (first : ℕ) (before : List Row) (rest : List (List (List ℕ))) (rows : List Row) : Type 0 where
  after : List Row
  is : rows ≡ before ++ after
  denoted : map ok after ≡ denoted_from kind first rest
  agree : AllPairs AgreeOnKey rows

import_rows : (kind : Kind) (rows others : List Row) → import kind rows ≡ import kind others → rows ≡ others
import_rows kind rows others e =
    let one : ImportRows = record { kind = kind; rows = rows } in
    let other : ImportRows = record { kind = kind; rows = others } in
    let same : one ≡ other = cc in ap (λ (v : ImportRows). v.rows) same

adds : (kind : Kind) (first : ℕ) (before : List Row) (rest : List (List (List ℕ))) (rows : List Row)
    → rows_from kind first before rest ≡ import kind rows → AllPairs AgreeOnKey before
    → Adds kind first before rest rows
unfolding rows_from
adds kind first before [] rows e agree =
    let same = import_rows kind before rows e in
    record {
      after = [];
      is = sym same ∙ sym (append-nil before);
      denoted = refl;
      agree = subst (AllPairs AgreeOnKey) same agree;
    }
adds kind first before (fields ∷ rest) rows e agree =
    by_row (row_of kind first fields) refl e (λ row. adds kind (first + 1) (before ++ row ∷ []) rest rows)
  where
    -- one more row, and what the rest adds
    more : (row : Row) → row_of kind first fields ≡ Ok row → Adds kind (first + 1) (before ++ row ∷ []) rest rows
        → Adds kind first before (fields ∷ rest) rows
    more row is w = record {
      after = row ∷ w.after;
      is = w.is ∙ append_assoc before (row ∷ []) w.after;
      denoted = ap (λ (r : Result Row Refusal). r ∷ map ok w.after) (sym is)
          ∙ ap (λ (rs : List (Result Row Refusal)). row_of kind first fields ∷ rs) w.denoted;
      agree = w.agree;
    }

    by_conflict : (row : Row) → row_of kind first fields ≡ Ok row → (b : Bool) → conflicts row before ≡ b
        → cond b (Err (RowConflict first)) (rows_from kind (first + 1) (before ++ row ∷ []) rest) ≡ import kind rows
        → (rows_from kind (first + 1) (before ++ row ∷ []) rest ≡ import kind rows
        → AllPairs AgreeOnKey (before ++ row ∷ []) → Adds kind (first + 1) (before ++ row ∷ []) rest rows)
        → Adds kind first before (fields ∷ rest) rows
    by_conflict row is true clash e next = cc e
    by_conflict row is false none e next = more row is (next e (one_more row before none agree))

    by_row : (r : Result Row Refusal) → row_of kind first fields ≡ r
        → and_then r (λ row. cond (conflicts row before) (Err (RowConflict first))
        (rows_from kind (first + 1) (before ++ row ∷ []) rest)) ≡ import kind rows
        → ((row : Row) → rows_from kind (first + 1) (before ++ row ∷ []) rest ≡ import kind rows
        → AllPairs AgreeOnKey (before ++ row ∷ []) → Adds kind (first + 1) (before ++ row ∷ []) rest rows)
        → Adds kind first before (fields ∷ rest) rows
    by_row (Err x) is e next = cc e
    by_row (Ok row) is e next = by_conflict row is (conflicts row before) refl e (next row)

gives : (kind : Kind) (first : ℕ) (before : List Row) (rest : List (List (List ℕ))) (after : List Row)
    → map ok after ≡ denoted_from kind first rest → AllPairs AgreeOnKey (before ++ after)
    → rows_from kind first before rest ≡ import kind (before ++ after)
unfolding rows_from
gives kind first before [] [] denoted agree = rw (append-nil before) refl
gives kind first before [] (row ∷ after) denoted agree = cc denoted
gives kind first before (fields ∷ rest) [] denoted agree = cc denoted
gives kind first before (fields ∷ rest) (row ∷ after) denoted agree =
    let parts = cons_parts (ok row) (row_of kind first fields) (map ok after)
    (denoted_from kind (first + 1) rest) denoted in
    let same = append_assoc before (row ∷ []) after in
    rw (← parts.0, clear before row after agree)
    (gives kind (first + 1) (before ++ row ∷ []) rest after parts.1 (subst (AllPairs AgreeOnKey) (sym same) agree)
    ∙ ap (import kind) same)

-- ---- files

module _ (kind : Kind) (bytes : List ℕ) (rows : List Row) where
  no_pairs : AllPairs AgreeOnKey []
  no_pairs i j d low high = absurd (omega arith)

  of_header : is_too_long bytes ≡ false → (header : List (List ℕ)) (rest : List (List (List ℕ)))
      → records default_config (strip_bom bytes) ≡ header ∷ rest
      → (b : Bool) → is_header kind header ≡ b → cond b (rows_from kind 1 [] rest) (Err BadHeader) ≡ import kind rows
      → Accepts kind bytes rows
  of_header short header rest are false other e = cc e
  of_header short header rest are true begins e =
      let w = adds kind 1 [] rest rows e no_pairs in
      record {
        short = short;
        header = header;
        rest = rest;
        records = are;
        begins = begins;
        denoted = ap (map ok) w.is ∙ w.denoted;
        agree = w.agree;
      }

  of_records : is_too_long bytes ≡ false → (all : List (List (List ℕ)))
      → records default_config (strip_bom bytes) ≡ all → rows_of kind all ≡ import kind rows → Accepts kind bytes rows
  of_records short [] are e = cc e
  of_records short (header ∷ rest) are e = of_header short header rest are (is_header kind header) refl e

  of_file : (b : Bool) → is_too_long bytes ≡ b
      → cond b (Err TooMany) (rows_of kind (records default_config (strip_bom bytes))) ≡ import kind rows
      → Accepts kind bytes rows
  of_file true long e = cc e
  of_file false short e = of_records short (records default_config (strip_bom bytes)) refl e

  accepted : Accepts kind bytes rows → import_of kind bytes ≡ import kind rows
  accepted w = rw (w.short, w.records, w.begins) (gives kind 1 [] w.rest rows w.denoted w.agree)

  pub accepts : (import_of kind bytes ≡ import kind rows) ↔ Accepts kind bytes rows
  accepts = (of_file (is_too_long bytes) refl, accepted)
