-- Lists that rise: the numbers below a bound that pass a test, and lists with the same elements.
use Rattle.exam_plan.proofs.Words.{range_with_len, list_any, AllByRecursion, IsStrictlySortedBy, nat_cmp, nat_cmp_is}
use Rattle.exam_plan.proofs.Words.{Less, cases_eq, cases_lt, eq-eqb, ne_eqb, eqb-true, All-filter, All-from_get_or}
use Rattle.exam_plan.proofs.Words.{list_any_at, Any-from_list_any, length-range_with_len, get_or-range_with_len}
use Rattle.std.proofs.Common.{◌≡◌, ℕ, zero, suc, ◌+◌, ◌<◌, Bool, true, false, cond, ◌||◌, List, [], ◌∷◌, ◌++◌, get_or}
use Rattle.std.proofs.Common.{nat_eq, refl, sym, ap, ◌∙◌, inl, inr, subst, arith, zero-add}
use Rattle.std.specs.Prelude.{All, Contains, filter}
use Rattle.std.proofs.lemmas.List.Elements.{All-contains, filter_passes, filter-append}
use Rattle.std.proofs.lemmas.List.Elements.{Contains-push, Contains-append_left}
use Rattle.std.proofs.lemmas.List.Kept.{IsStrictlySortedBy-filter}
use Rattle.std.proofs.lemmas.Cmp.{ranked}
use Rattle.exam_plan.proofs.Counting.{range_more}
use Rattle.exam_plan.proofs.Seatings.{listed_below}

-- ---- the indices that pass

pub range_below : (n : ℕ) → All (λ x. x < n) (range_with_len 0 n)
range_below n = All-from_get_or (λ x. x < n) (range_with_len 0 n) 0
    (λ i l. let long = length-range_with_len 0 n in let e =
    get_or-range_with_len 0 n i 0 (omega (arith, l, long)) in omega (arith, e, l, long))

pub passing : (P : ℕ → Bool) (n x : ℕ) → Contains (filter P (range_with_len 0 n)) x → (x < n) × (P x ≡ true)
passing P n x c = (
  All-contains (λ y. y < n) (filter P (range_with_len 0 n)) x
      (All-filter P (λ y. y < n) (range_with_len 0 n) (range_below n)) c,
  All-contains (λ y. P y ≡ true) (filter P (range_with_len 0 n)) x (filter_passes P (range_with_len 0 n)) c,
)

pub next_filter : (P : ℕ → Bool) (n : ℕ) (b : Bool) → P n ≡ b
    → filter P (range_with_len 0 (suc n)) ≡ filter P (range_with_len 0 n) ++ cond b (n ∷ []) []
next_filter P n b e =
    ap (filter P) (range_more 0 n ∙ ap (λ k. range_with_len 0 n ++ k ∷ []) (zero-add n))
    ∙ filter-append P (range_with_len 0 n) (n ∷ []) ∙ ap (λ t. filter P (range_with_len 0 n) ++ cond t (n ∷ []) []) e

pub passes_in : (P : ℕ → Bool) (n x : ℕ) → x < n → P x ≡ true → Contains (filter P (range_with_len 0 n)) x
passes_in P zero x l e = absurd (omega arith)
passes_in P (suc n) x l e = elim (cases_eq x n) [
  | inl s ↦ subst (λ (xs : List ℕ). Contains xs x) (sym (next_filter P n true (ap P (sym s) ∙ e)))
      (subst (λ (z : ℕ). Contains (filter P (range_with_len 0 n) ++ z ∷ []) x) s
      (Contains-push (filter P (range_with_len 0 n)) x))
  | inr a ↦ subst (λ (xs : List ℕ). Contains xs x) (sym (next_filter P n (P n) refl))
      (Contains-append_left (filter P (range_with_len 0 n)) (cond (P n) (n ∷ []) []) x
      (passes_in P n x (omega arith) e))
]

later : (a b n : ℕ) → a < b → AllByRecursion (λ y. nat_cmp a y ≡ Less) (range_with_len b n)
later a b zero l = tt
later a b (suc n) l = (sym (nat_cmp_is a b Less l), later a (b + 1) n (omega arith))

range_sorted : (a n : ℕ) → IsStrictlySortedBy nat_cmp (range_with_len a n)
unfolding IsStrictlySortedBy
range_sorted a zero = tt
range_sorted a (suc n) = (later a (a + 1) n (omega arith), range_sorted (a + 1) n)

pub filter_sorted : (P : ℕ → Bool) (n : ℕ) → IsStrictlySortedBy nat_cmp (filter P (range_with_len 0 n))
filter_sorted P n = IsStrictlySortedBy-filter nat_cmp P (range_with_len 0 n) (range_sorted 0 n)

-- ---- a rising list has each element once

pub later_all : (x : ℕ) (xs : List ℕ) → AllByRecursion (λ y. nat_cmp x y ≡ Less) xs → list_any (nat_eq x) xs ≡ false
later_all x [] a = refl
later_all x (y ∷ ys) a =
    ap (λ b. b || list_any (nat_eq x) ys) (ne_eqb x y (λ s. let l : x < y = ranked x y Less (sym a.0) in omega arith))
    ∙ later_all x ys a.1

pub listed_in : (xs : List ℕ) (x : ℕ) → Contains xs x → list_any (nat_eq x) xs ≡ true
listed_in xs x m = list_any_at (nat_eq x) xs m.0 x m.1 (eq-eqb x (get_or xs m.0 x) (sym m.2))

pub in_listed : (xs : List ℕ) (x : ℕ) → list_any (nat_eq x) xs ≡ true → Contains xs x
in_listed xs x t = let a = Any-from_list_any (nat_eq x) xs t in let same : x ≡ a.1 =
    eqb-true x a.1 a.4 in subst (λ (z : ℕ). Contains xs z) (sym same) (a.0, a.2, a.3)

-- ---- lists that rise and have the same elements

less_than_all : (x y : ℕ) (ys : List ℕ) → x < y → AllByRecursion (λ z. nat_cmp y z ≡ Less) ys
    → AllByRecursion (λ z. nat_cmp x z ≡ Less) ys
less_than_all x y [] l a = tt
less_than_all x y (z ∷ zs) l a = (
  sym (nat_cmp_is x z Less (let m : y < z = ranked y z Less (sym a.0) in omega (arith, l, m))),
  less_than_all x y zs l a.1,
)

-- the first of a rising list is in no list whose first is greater
not_first : (x y : ℕ) (xs ys : List ℕ) → x < y → AllByRecursion (λ z. nat_cmp y z ≡ Less) ys
    → ((z : ℕ) → list_any (nat_eq z) (x ∷ xs) ≡ list_any (nat_eq z) (y ∷ ys)) → ⊥
not_first x y xs ys l later same =
    let here : list_any (nat_eq x) (x ∷ xs) ≡ true = ap (λ b. b || list_any (nat_eq x) xs) (eq-eqb x x refl) in
    let away : list_any (nat_eq x) (y ∷ ys) ≡ false =
    later_all x (y ∷ ys) (sym (nat_cmp_is x y Less l), less_than_all x y ys l later) in
    let z : true ≡ false = sym here ∙ same x ∙ away in cc

pub rising_are_same : (xs ys : List ℕ) → IsStrictlySortedBy nat_cmp xs → IsStrictlySortedBy nat_cmp ys
    → ((z : ℕ) → list_any (nat_eq z) xs ≡ list_any (nat_eq z) ys) → xs ≡ ys
unfolding IsStrictlySortedBy
rising_are_same [] [] s t same = refl
rising_are_same [] (y ∷ ys) s t same =
    absurd (let e : list_any (nat_eq y) (y ∷ ys) ≡ true = ap (λ b. b || list_any (nat_eq y) ys) (eq-eqb y y refl) in
    let z : false ≡ true = same y ∙ e in cc)
rising_are_same (x ∷ xs) [] s t same =
    absurd (let e : list_any (nat_eq x) (x ∷ xs) ≡ true = ap (λ b. b || list_any (nat_eq x) xs) (eq-eqb x x refl) in
    let z : true ≡ false = sym e ∙ same x in cc)
rising_are_same (x ∷ xs) (y ∷ ys) s t same = elim (cases_eq x y) [
  | inl e ↦ ap (λ z. z ∷ xs) e ∙ ap (λ zs. y ∷ zs) (rising_are_same xs ys s.1 t.1 (λ z. elim (cases_eq z x) [
    | inl at ↦ later_all z xs (subst (λ (w : ℕ). AllByRecursion (λ v. nat_cmp w v ≡ Less) xs) (sym at) s.0)
        ∙ sym (later_all z ys (subst (λ (w : ℕ). AllByRecursion (λ v. nat_cmp w v ≡ Less) ys) (sym e ∙ sym at) t.0))
    | inr n ↦ sym (ap (λ b. b || list_any (nat_eq z) xs) (ne_eqb z x n)) ∙ same z
        ∙ ap (λ b. b || list_any (nat_eq z) ys) (ne_eqb z y (λ w. n (w ∙ sym e)))
  ]))
  | inr n ↦ elim (cases_lt x y) [
    | inl l ↦ absurd (not_first x y xs ys l t.0 same)
    | inr g ↦ absurd (not_first y x ys xs (omega arith) s.0 (λ z. sym (same z)))
  ]
]

-- what one list has and the other has is tested alike
pub same_tests : (xs ys : List ℕ) → ((z : ℕ) → Contains xs z → Contains ys z)
    → ((z : ℕ) → Contains ys z → Contains xs z) → (z : ℕ) → list_any (nat_eq z) xs ≡ list_any (nat_eq z) ys
same_tests xs ys there back z = at (list_any (nat_eq z) xs) (list_any (nat_eq z) ys) refl refl
  where
    at : (a b : Bool) → list_any (nat_eq z) xs ≡ a → list_any (nat_eq z) ys ≡ b → a ≡ b
    at true true d e = refl
    at false false d e = refl
    at true false d e = let t = listed_in ys z (there z (in_listed xs z d)) in let f : false ≡ true = sym e ∙ t in cc
    at false true d e = let t = listed_in xs z (back z (in_listed ys z e)) in let f : false ≡ true = sym d ∙ t in cc

-- ---- the numbers that pass, as a list that was there before

pub any_passing : (P : ℕ → Bool) (n h : ℕ) → (P h ≡ true → h < n)
    → list_any (nat_eq h) (filter P (range_with_len 0 n)) ≡ P h
any_passing P n h below = at (list_any (nat_eq h) (filter P (range_with_len 0 n))) (P h) refl refl
  where
    at : (a b : Bool) → list_any (nat_eq h) (filter P (range_with_len 0 n)) ≡ a → P h ≡ b → a ≡ b
    at true true d e = refl
    at false false d e = refl
    at true false d e = let t = passing P n h (in_listed (filter P (range_with_len 0 n)) h d) in let f : false ≡ true =
        sym e ∙ t.1 in cc
    at false true d e = let t =
        listed_in (filter P (range_with_len 0 n)) h (passes_in P n h (below e) e) in let f : false ≡ true =
        sym d ∙ t in cc

pub row_again : (P : ℕ → Bool) (n : ℕ) (row : List ℕ) → IsStrictlySortedBy nat_cmp row → All (λ h. h < n) row
    → ((h : ℕ) → P h ≡ list_any (nat_eq h) row) → filter P (range_with_len 0 n) ≡ row
row_again P n row sorted below tests =
    rising_are_same (filter P (range_with_len 0 n)) row (filter_sorted P n) sorted
    (λ h. any_passing P n h (λ e. listed_below n row h below (sym (tests h) ∙ e)) ∙ tests h)
