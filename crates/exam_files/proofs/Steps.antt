-- How the rows of a file follow, a record at a time.
use Rattle.std.proofs.Common.{◌≡◌, ◌∙◌, ◌+◌, ℕ, List, [], ◌∷◌, ◌++◌, true, false, refl, sym, ap, inl, inr}
use Rattle.std.specs.Prelude.{Ok, Err, Result, ◌⊎◌}
use Rattle.std.specs.Result.{IsErrAnd}
use Rattle.exam_commands.specs.Imports.{ImportRows, conflicts}
use Rattle.exam_commands.specs.declared.import_row.Kind.{Kind}
use Rattle.exam_commands.specs.declared.import_row.Row.{Row}
use Rattle.exam_types.specs.declared.refusal.Refusal.{Refusal}
use Rattle.exam_types.specs.declared.refusal.Refusal.TheVariants.{BadHeader, NoMemory, RowConflict}
use Rattle.exam_files.specs.ImportFiles.{GivesUnlessMemory, is_header, row_of, rows_from, rows_of}

pub rows-more : (kind : Kind) (place : ℕ) (rows : List Row) (f : List (List ℕ)) (rest : List (List (List ℕ)))
    (row : Row) → row_of kind place f ≡ Ok row → conflicts row rows ≡ false
    → rows_from kind place rows (f ∷ rest) ≡ rows_from kind (place + 1) (rows ++ row ∷ []) rest
unfolding rows_from
rows-more kind place rows f rest row h a = rw (h, a) refl

pub rows-bad : (kind : Kind) (place : ℕ) (rows : List Row) (f : List (List ℕ)) (rest : List (List (List ℕ)))
    (x : Refusal) → row_of kind place f ≡ Err x
    → rows_from kind place rows (f ∷ rest) ≡ Err x
unfolding rows_from
rows-bad kind place rows f rest x h = rw h refl

pub rows-conflict : (kind : Kind) (place : ℕ) (rows : List Row) (f : List (List ℕ)) (rest : List (List (List ℕ)))
    (row : Row) → row_of kind place f ≡ Ok row → conflicts row rows ≡ true
    → rows_from kind place rows (f ∷ rest) ≡ Err (RowConflict place)
unfolding rows_from
rows-conflict kind place rows f rest row h a = rw (h, a) refl

pub rows-end : (kind : Kind) (place : ℕ) (rows : List Row)
    → rows_from kind place rows [] ≡ Ok (record { kind = kind; rows = rows })
unfolding rows_from
rows-end kind place rows = refl

pub header-yes : (kind : Kind) (h : List (List ℕ)) (rs : List (List (List ℕ))) → true ≡ is_header kind h
    → rows_of kind (h ∷ rs) ≡ rows_from kind 1 [] rs
header-yes kind h rs e = rw (← e) refl

pub header-no : (kind : Kind) (h : List (List ℕ)) (rs : List (List (List ℕ))) → false ≡ is_header kind h
    → rows_of kind (h ∷ rs) ≡ Err BadHeader
header-no kind h rs e = rw (← e) refl

-- an error that is passed on
pub passes_on : (r : Result ImportRows Refusal) (e : Refusal) (answer : Result ImportRows Refusal)
    → IsErrAnd r (λ y. y ≡ e) → (e ≡ NoMemory) ⊎ (answer ≡ Err e) → GivesUnlessMemory r answer
passes_on (Ok x) e answer h why = absurd h
passes_on (Err y) e answer h (inl memory) = inl (h ∙ memory)
passes_on (Err y) e answer h (inr all) = inr (all ∙ ap Err (sym h))
