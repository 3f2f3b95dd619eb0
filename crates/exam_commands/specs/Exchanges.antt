-- How some rows replace others, key by key, and how they are taken back.
use Rattle.std.specs.Prelude.{◌≡◌, IsTrue, List, fold, Option, None, Some, if◌then◌else◌}
use Rattle.std.specs.declared.cmp.Ordering.{Ordering}
use Rattle.std.specs.declared.cmp.Ordering.TheVariants.{Equal}
use Rattle.exam_rules.specs.Relations.{has_row, put_row, remove_row, row_at}

module _ {K X : Type 0} (cmp : K → K → Ordering) where
  -- with each of the new rows in turn
  abbrev pub all_put : List (K × X) → List (K × X) → List (K × X)
  all_put rows new = fold (λ held e. put_row cmp held e.0 e.1) rows new

  -- with this row at the key, or none
  abbrev pub set_row : List (K × X) → K → Option X → List (K × X)
  set_row rows k None = remove_row cmp rows k
  set_row rows k (Some x) = put_row cmp rows k x

  -- with each of these keys as it was: with this row, or with none
  abbrev pub put_back : List (K × X) → List (K × Option X) → List (K × X)
  put_back rows was = fold (λ held e. set_row held e.0 e.1) rows was

  -- each of these keys has a row
  abbrev pub HasRows : {Y : Type 0} → List (K × Y) → List (K × X) → Type 0
  HasRows was rows = (k : K) → IsTrue (has_row cmp was k) → IsTrue (has_row cmp rows k)

  -- each of these keys has a row among the new ones; putting the keys back as they were gives the old rows
  pub record GoBack (was : List (K × Option X)) (new old : List (K × X)) : Type 0 where
    pub there : HasRows was new
    pub back : put_back new was ≡ old

  -- at the key of each new row what the old ones have there, or nothing
  abbrev pub taken_back : List (K × X) → List (K × X) → List (K × X) → List (K × X)
  taken_back rows old new = fold (λ held e. set_row held e.0 (row_at cmp old e.0)) rows new

  -- without the old rows at whose keys there is no new one
  abbrev pub without_old : List (K × X) → List (K × X) → List (K × X) → List (K × X)
  without_old rows old new = fold (λ held e. if has_row cmp new e.0 then held else remove_row cmp held e.0) rows old

-- keys that compare as equal are the same
abbrev pub TellsApart : {K : Type 0} → (K → K → Ordering) → Type 0
TellsApart {K} cmp = (j k : K) → cmp j k ≡ Equal → j ≡ k
