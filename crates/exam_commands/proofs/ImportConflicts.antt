-- What the first row with a key says of conflicts, and what one more row does.
use Rattle.std.proofs.Common.{◌≡◌, ◌∙◌, ◌+◌, Bool, true, false, refl, sym, subst, ℕ, List, [], ◌∷◌, ◌++◌, length}
use Rattle.std.proofs.Common.{Option, Some, None, cond, arith}
use Rattle.std.specs.Prelude.{not, ◌&&◌, ◌||◌}
use Rattle.std.specs.Option.{option_or}
use Rattle.std.specs.List.{find, position_from}
use Rattle.std.proofs.lemmas.List.Elements.{All-append, All-cons, All-nil}
use Rattle.std.proofs.lemmas.List.Folds.{list_any-append}
use Rattle.exam_commands.specs.declared.import_row.Key.{Key}
use Rattle.exam_commands.specs.declared.import_row.Kind.{Kind}
use Rattle.exam_commands.specs.declared.import_row.Row.{Row}
use Rattle.exam_commands.specs.Imports.{AreOfKind, conflicts, has_key, is_consistent, key_of, kind_of, same_row}
use Rattle.exam_commands.proofs.ImportKeys.{key_exact, key_itself}
use Rattle.exam_commands.proofs.ImportRowsEqual.{row_exact, row_refl}
use Rattle.exam_commands.proofs.ImportPlaces.{first-none, place-append, place-none}
use Rattle.std.proofs.lemmas.Bool.{and_parts, not-true, or_parts}

-- a row with a key has it, and no other
key_is : (k : Key) (r : Row) → has_key k r ≡ true → key_of r ≡ k
key_is k r e = key_exact (key_of r) k e

has_own : (r : Row) → has_key (key_of r) r ≡ true
has_own r = key_itself (key_of r)

has_other : (r s : Row) → has_key (key_of r) s ≡ true → has_key (key_of s) r ≡ true
has_other r s e = subst (λ k. has_key k r ≡ true) (sym (key_is (key_of r) s e)) (has_own r)

pub conflicts-none : (row : Row) (rows : List Row) → find (has_key (key_of row)) rows ≡ None
    → conflicts row rows ≡ false
conflicts-none row [] e = refl
conflicts-none row (r ∷ rows) e = step (has_key (key_of row) r) (conflicts-none row rows) e
  where
    step : (b : Bool) → (find (has_key (key_of row)) rows ≡ None → conflicts row rows ≡ false)
        → cond b (Some r) (find (has_key (key_of row)) rows) ≡ None
        → ((b && not (same_row r row)) || conflicts row rows) ≡ false
    step true more e = cc e
    step false more e = more e

pub conflicts-other : (row first : Row) (rows : List Row) → find (has_key (key_of row)) rows ≡ Some first
    → same_row first row ≡ false → conflicts row rows ≡ true
conflicts-other row first [] e other = cc e
conflicts-other row first (r ∷ rows) e other =
    step (has_key (key_of row) r) (λ h. conflicts-other row first rows h other) e
  where
    step : (b : Bool) → (find (has_key (key_of row)) rows ≡ Some first → conflicts row rows ≡ true)
        → cond b (Some r) (find (has_key (key_of row)) rows) ≡ Some first
        → ((b && not (same_row r row)) || conflicts row rows) ≡ true
    step true more e = let same : first ≡ r = cc in let differs : same_row r row ≡ false =
        subst (λ x. same_row x row ≡ false) same other in rw differs refl
    step false more e = more e

or_left : (x y : Bool) → (x || y) ≡ false → x ≡ false
or_left true y e = e
or_left false y e = refl

pub conflicts-same : (row first : Row) (rows : List Row) → is_consistent rows ≡ true
    → find (has_key (key_of row)) rows ≡ Some first → same_row first row ≡ true → conflicts row rows ≡ false
conflicts-same row first [] good e same = cc e
conflicts-same row first (r ∷ rows) good e same =
    step (has_key (key_of row) r) (λ h. conflicts-same row first rows (and_parts _ _ good).1 h same) e
  where
    step : (b : Bool) → (find (has_key (key_of row)) rows ≡ Some first → conflicts row rows ≡ false)
        → cond b (Some r) (find (has_key (key_of row)) rows) ≡ Some first
        → ((b && not (same_row r row)) || conflicts row rows) ≡ false
    step true more e =
        let is_first : first ≡ r = cc in
        let equal : r ≡ row = subst (λ x. x ≡ row) is_first (row_exact first row same) in
        let none : conflicts row rows ≡ false =
        subst (λ x. conflicts x rows ≡ false) equal (not-true _ (and_parts _ _ good).0) in
        let agrees : same_row r row ≡ true = subst (λ x. same_row x row ≡ true) is_first same in
        rw (agrees, none) refl
    step false more e = more e

-- a row that does not contradict an earlier one is not contradicted by it
other_way : (r row : Row) → (has_key (key_of row) r && not (same_row r row)) ≡ false
    → (has_key (key_of r) row && not (same_row row r)) ≡ false
other_way r row h = step (has_key (key_of r) row) refl
  where
    step : (b : Bool) → has_key (key_of r) row ≡ b → (b && not (same_row row r)) ≡ false
    step false e = refl
    step true e =
        let back = has_other r row e in
        let agrees : same_row r row ≡ true = agreed (same_row r row) (rw back at h) in
        let equal = row_exact r row agrees in
        let self : same_row row r ≡ true = subst (λ x. same_row row x ≡ true) (sym equal) (row_refl row) in
        rw self refl
      where
        agreed : (b : Bool) → (true && not b) ≡ false → b ≡ true
        agreed true e = refl
        agreed false e = sym e

pub consistent-more : (row : Row) (rows : List Row) → is_consistent rows ≡ true → conflicts row rows ≡ false
    → is_consistent (rows ++ row ∷ []) ≡ true
consistent-more row [] good none = refl
consistent-more row (r ∷ rows) good none =
    let here : (has_key (key_of r) row && not (same_row row r)) ≡ false =
    other_way r row (or_left (has_key (key_of row) r && not (same_row r row)) (conflicts row rows) none) in
    let rest : is_consistent (rows ++ row ∷ []) ≡ true =
    consistent-more row rows (and_parts _ _ good).1 (or_parts _ _ none).1 in
    let before : conflicts r rows ≡ false = not-true _ (and_parts _ _ good).0 in
    rw (list_any-append (λ s. has_key (key_of r) s && not (same_row s r)) rows (row ∷ []), before, here, rest) refl

pub kind-more : (kind : Kind) (row : Row) (rows : List Row) → kind_of row ≡ kind → AreOfKind kind rows
    → AreOfKind kind (rows ++ row ∷ [])
kind-more kind row rows is good =
    All-append (λ r. kind_of r ≡ kind) rows (row ∷ []) good
    (All-cons (λ r. kind_of r ≡ kind) row [] is (All-nil (λ r. kind_of r ≡ kind)))

-- a repeated row is the first with no key
pub places-repeat : (row : Row) (rows : List Row) → find (has_key (key_of row)) rows ≡ Some row → (k : Key)
    → position_from (has_key k) 0 rows ≡ position_from (has_key k) 0 (rows ++ row ∷ [])
places-repeat row rows found k =
    sym (place-append (has_key k) 0 rows row ∙ step (position_from (has_key k) 0 rows) refl (has_key k row) refl)
  where
    step : (o : Option ℕ) → position_from (has_key k) 0 rows ≡ o → (b : Bool) → has_key k row ≡ b
        → option_or o (cond b (Some (0 + length rows)) None) ≡ o
    step (Some j) e b h = refl
    step None e false h = refl
    step None e true h =
        let none = first-none (has_key k) 0 rows e in
        let none' : find (has_key (key_of row)) rows ≡ None =
        subst (λ x. find (has_key x) rows ≡ None) (sym (key_is k row h)) none in
        cc (found, none')

-- a row with a new key is the first with it
pub places-new : (row : Row) (rows : List Row) → find (has_key (key_of row)) rows ≡ None → (k : Key)
    → cond (has_key k row) (Some (length rows)) (position_from (has_key k) 0 rows)
    ≡ position_from (has_key k) 0 (rows ++ row ∷ [])
places-new row rows none k =
    sym (place-append (has_key k) 0 rows row ∙ step (has_key k row) refl (position_from (has_key k) 0 rows) refl)
  where
    step : (b : Bool) → has_key k row ≡ b → (o : Option ℕ) → position_from (has_key k) 0 rows ≡ o
        → option_or o (cond b (Some (0 + length rows)) None) ≡ cond b (Some (length rows)) o
    step false h (Some j) e = refl
    step false h None e = refl
    step true h None e = let z : 0 + length rows ≡ length rows = omega arith in rw z refl
    step true h (Some j) e =
        let absent = place-none (has_key k) 0 rows (subst (λ x. find (has_key x) rows ≡ None) (key_is k row h) none) in
        cc (absent, e)
