-- A list, laid out by the numbers of its elements.
use Rattle.std.proofs.Common.{◌≡◌, ◌∙◌, ◌+◌, ◌<◌, ◌≤◌, ◌==◌, ◌&&◌, ℕ, zero, suc, Bool, true, false, cond, List, [], ◌∷◌}
use Rattle.std.proofs.Common.{◌++◌, length, map, filter, Option, Some, None, refl, sym, ap, subst, arith, inl, inr}
use Rattle.std.proofs.Common.{IsPermutation}
use Rattle.std.specs.Prelude.{⊤}
use Rattle.std.specs.List.{AllByRecursion, flat_map, list_any, range_with_len}
use Rattle.std.proofs.lemmas.Bool.{cases_Bool, cases_eq, eq-eqb, eqb-true, ne_eqb}
use Rattle.std.proofs.lemmas.List.{length-map, map-append}
use Rattle.std.proofs.lemmas.List.Sorted.{IsPermutation-append_right, IsPermutation-cons, IsPermutation-middle}
use Rattle.std.proofs.lemmas.List.Sorted.{IsPermutation-refl, IsPermutation-sym, IsPermutation-trans}
use Rattle.std.proofs.lemmas.List.Sorted.{length_permutation}
use Rattle.exam_files.specs.Doors.{is_desk}

-- ---- one more element at its number

module _ {X : Type 0} (f : ℕ → List X) (x : X) (m : ℕ) where
  abbrev with_one : ℕ → List X
  with_one n = cond (m == n) (x ∷ f n) (f n)

  at_others : (n : ℕ) → (m ≡ n → ⊥) → with_one n ≡ f n
  at_others n other = rw (ne_eqb m n other) refl

  beyond : (a k : ℕ) → m < a → flat_map with_one (range_with_len a k) ≡ flat_map f (range_with_len a k)
  beyond a zero less = refl
  beyond a (suc k) less = rw (at_others a (λ e. omega arith), beyond (a + 1) k (omega arith)) refl

  put_in : (a k : ℕ) → a ≤ m → m < a + k
      → IsPermutation (x ∷ flat_map f (range_with_len a k)) (flat_map with_one (range_with_len a k))
  put_in a zero low high = absurd (omega arith)
  put_in a (suc k) low high = elim (cases_eq m a) [
    | inl here ↦ rw (eq-eqb m a here, beyond (a + 1) k (omega arith))
        (IsPermutation-refl (x ∷ f a ++ flat_map f (range_with_len (a + 1) k)))
    | inr later ↦
        let rest = flat_map f (range_with_len (a + 1) k) in
        let more = put_in (a + 1) k (omega arith) (omega arith) in
        rw (at_others a later)
        (IsPermutation-trans (x ∷ (f a ++ rest)) (f a ++ x ∷ rest) (f a ++ flat_map with_one (range_with_len (a + 1) k))
        (IsPermutation-sym (f a ++ x ∷ rest) (x ∷ (f a ++ rest)) (IsPermutation-middle (f a) x rest))
        (IsPermutation-append_right (f a) (x ∷ rest) (flat_map with_one (range_with_len (a + 1) k)) more))
  ]

-- ---- numbers without a gap

too_far : (c a k : ℕ) → c ≤ a + k → AllByRecursion (λ n. n < c) (range_with_len a (suc k)) → ⊥
too_far c a zero far all = let first = all.0 in omega arith
too_far c a (suc k) far all = too_far c (a + 1) k (omega arith) all.1

-- m of k numbers, none above the first m, are the first m
no_gap : (P : ℕ → Bool) (a k m : ℕ) → length (filter P (range_with_len a k)) ≡ m
    → AllByRecursion (λ n. n < a + m) (filter P (range_with_len a k))
    → filter P (range_with_len a k) ≡ range_with_len a m
no_gap P a zero m long all = rw (← long) refl
no_gap P a (suc k) m long all = step (P a) long all (no_gap P (a + 1) k)
  where
    fewer : (c d : ℕ) (ns : List ℕ) → c ≤ d → AllByRecursion (λ n. n < c) ns → AllByRecursion (λ n. n < d) ns
    fewer c d [] le all = tt
    fewer c d (n ∷ ns) le all = (let first = all.0 in omega arith, fewer c d ns le all.1)

    skipped : (m : ℕ) → AllByRecursion (λ n. n < a + m) (filter P (range_with_len (a + 1) k))
        → filter P (range_with_len (a + 1) k) ≡ range_with_len (a + 1) m
        → filter P (range_with_len (a + 1) k) ≡ range_with_len a m
    skipped zero all is = is
    skipped (suc j) all is =
        absurd (too_far (a + suc j) (a + 1) j (omega arith) (subst (AllByRecursion (λ n. n < a + suc j)) is all))

    step : (b : Bool) → length (cond b (a ∷ filter P (range_with_len (a + 1) k)) (filter P (range_with_len (a + 1) k)))
        ≡ m
        → AllByRecursion (λ n. n < a + m)
        (cond b (a ∷ filter P (range_with_len (a + 1) k)) (filter P (range_with_len (a + 1) k)))
        → ((j : ℕ) → length (filter P (range_with_len (a + 1) k)) ≡ j
        → AllByRecursion (λ n. n < a + 1 + j) (filter P (range_with_len (a + 1) k))
        → filter P (range_with_len (a + 1) k) ≡ range_with_len (a + 1) j)
        → cond b (a ∷ filter P (range_with_len (a + 1) k)) (filter P (range_with_len (a + 1) k)) ≡ range_with_len a m
    step true long all next =
        let j = length (filter P (range_with_len (a + 1) k)) in
        let is = next j refl
        (fewer (a + m) (a + 1 + j) (filter P (range_with_len (a + 1) k)) (omega (arith, long)) all.1) in
        rw (← long) (ap (λ (ns : List ℕ). a ∷ ns) is)
    step false long all next =
        skipped m all (next m long (fewer (a + m) (a + 1 + m) (filter P (range_with_len (a + 1) k)) (omega arith) all))

-- ---- those that a test keeps, by their numbers

module _ {X : Type 0} (keeps : X → Bool) (number : X → Option ℕ) where
  abbrev pub has : ℕ → X → Bool
  has n x = keeps x && is_desk n (number x)

  -- those at a number
  abbrev pub at : List X → ℕ → List X
  at xs n = filter (has n) xs

  -- those at these numbers
  abbrev pub laid_out : List X → List ℕ → List X
  laid_out xs ns = flat_map (at xs) ns

  -- an element that is kept has one of k numbers from a on
  abbrev pub IsNumbered : ℕ → ℕ → X → Type 0
  IsNumbered a k x = keeps x ≡ true → (n : ℕ) × (number x ≡ Some n) × (a ≤ n) × (n < a + k)

  none : (ns : List ℕ) → laid_out [] ns ≡ []
  none [] = refl
  none (n ∷ ns) = none ns

  left_out : (x : X) (xs : List X) → keeps x ≡ false → (ns : List ℕ) → laid_out (x ∷ xs) ns ≡ laid_out xs ns
  left_out x xs out [] = refl
  left_out x xs out (n ∷ ns) = rw (out, left_out x xs out ns) refl

  taken_in : (x : X) (xs : List X) (m : ℕ) → keeps x ≡ true → number x ≡ Some m → (ns : List ℕ)
      → laid_out (x ∷ xs) ns ≡ flat_map (with_one (at xs) x m) ns
  taken_in x xs m kept is [] = refl
  taken_in x xs m kept is (n ∷ ns) = rw (kept, is, taken_in x xs m kept is ns) refl

  -- all that are kept, each once
  pub shuffled : (a k : ℕ) (xs : List X) → AllByRecursion (IsNumbered a k) xs
      → IsPermutation (filter keeps xs) (laid_out xs (range_with_len a k))
  shuffled a k [] all = rw (none (range_with_len a k)) (IsPermutation-refl [])
  shuffled a k (x ∷ xs) all = elim (cases_Bool (keeps x)) [
    | inl kept ↦
        let ns = range_with_len a k in
        let own = all.0 kept in
        rw (kept, taken_in x xs own.0 kept own.1 ns)
        (IsPermutation-trans (x ∷ filter keeps xs) (x ∷ laid_out xs ns) (flat_map (with_one (at xs) x own.0) ns)
        (IsPermutation-cons x (filter keeps xs) (laid_out xs ns) (shuffled a k xs all.1))
        (put_in (at xs) x own.0 a k own.2 own.3))
    | inr out ↦ rw (out, left_out x xs out (range_with_len a k)) (shuffled a k xs all.1)
  ]

  -- ---- at each number one at most

  abbrev pub IsApart : X → X → Type 0
  IsApart x y = keeps x ≡ true → keeps y ≡ true → number x ≡ number y → ⊥

  -- no two that are kept have one number
  abbrev pub AreApart : List X → Type 0
  AreApart [] = ⊤
  AreApart (x ∷ xs) = AllByRecursion (IsApart x) xs × AreApart xs

  pub has_is : (n : ℕ) (x : X) → has n x ≡ true → (keeps x ≡ true) × (number x ≡ Some n)
  has_is n x is = step (keeps x) (number x) is
    where
      step : (b : Bool) (o : Option ℕ) → (b && is_desk n o) ≡ true → (b ≡ true) × (o ≡ Some n)
      step true (Some m) e = (refl, ap (λ k. Some k) (eqb-true m n e))
      step true None e = cc e
      step false o e = cc e

  others_none : (n : ℕ) (x : X) (xs : List X) → has n x ≡ true → AllByRecursion (IsApart x) xs → at xs n ≡ []
  others_none n x [] is all = refl
  others_none n x (y ∷ ys) is all = elim (cases_Bool (has n y)) [
    | inl too ↦
        let one = has_is n x is in
        let other = has_is n y too in absurd (all.0 one.0 other.0 (one.1 ∙ sym other.1))
    | inr out ↦ rw out (others_none n x ys is all.1)
  ]

  single : (n : ℕ) (xs : List X) → AreApart xs → map number (at xs n) ≡ cond (list_any (has n) xs) (Some n ∷ []) []
  single n [] apart = refl
  single n (x ∷ xs) apart = elim (cases_Bool (has n x)) [
    | inl is ↦ rw (is, others_none n x xs is apart.0, (has_is n x is).1) refl
    | inr out ↦ rw out (single n xs apart.1)
  ]

  -- the numbers at which one is, in their order
  numbers : (xs : List X) → AreApart xs → (ns : List ℕ)
      → map number (laid_out xs ns) ≡ map (λ n. Some n) (filter (λ n. list_any (has n) xs) ns)
  numbers xs apart [] = refl
  numbers xs apart (n ∷ ns) =
      map-append number (at xs n) (laid_out xs ns)
      ∙ rw (single n xs apart, numbers xs apart ns) (joined (list_any (has n) xs))
    where
      joined : (b : Bool) → cond b (Some n ∷ []) []
          ++ map (λ n. Some n) (filter (λ n. list_any (has n) xs) ns)
          ≡ map (λ n. Some n) (cond b (n ∷ filter (λ n. list_any (has n) xs) ns) (filter (λ n. list_any (has n) xs) ns))
      joined true = refl
      joined false = refl

  same_number : (m n : ℕ) → Some m ≡ Some n → m ≡ n
  same_number m n e = cc

  -- a number at which one is
  number_within : (a k n : ℕ) (xs : List X) → AllByRecursion (IsNumbered a k) xs → list_any (has n) xs ≡ true
      → n < a + k
  number_within a k n [] all is = cc is
  number_within a k n (x ∷ xs) all is = elim (cases_Bool (has n x)) [
    | inl here ↦
        let both = has_is n x here in
        let own = all.0 both.0 in
        let same = same_number own.0 n (sym own.1 ∙ both.1) in
        let high = own.3 in omega (arith, same, high)
    | inr out ↦ number_within a k n xs all.1 (rw out at is)
  ]

  numbers_within : (a k : ℕ) (xs : List X) (ns : List ℕ) → AllByRecursion (IsNumbered a k) xs
      → AllByRecursion (λ n. n < a + k) (filter (λ n. list_any (has n) xs) ns)
  numbers_within a k xs [] all = tt
  numbers_within a k xs (n ∷ ns) all = elim (cases_Bool (list_any (has n) xs)) [
    | inl is ↦ rw is (number_within a k n xs all is, numbers_within a k xs ns all)
    | inr out ↦ rw out (numbers_within a k xs ns all)
  ]

  -- where no more numbers are used than are kept, they are used without a gap
  pub numbers_from : (a k : ℕ) (xs : List X) → AreApart xs → AllByRecursion (IsNumbered a k) xs
      → AllByRecursion (IsNumbered a (length (filter keeps xs))) xs
      → map number (laid_out xs (range_with_len a k))
      ≡ map (λ n. Some n) (range_with_len a (length (laid_out xs (range_with_len a k))))
  numbers_from a k xs apart all tight =
      let out = laid_out xs (range_with_len a k) in
      let used = filter (λ n. list_any (has n) xs) (range_with_len a k) in
      let are : map number out ≡ map (λ n. Some n) used = numbers xs apart (range_with_len a k) in
      let long : length used ≡ length out =
      sym (length-map used (λ (n : ℕ). Some n)) ∙ sym (ap length are) ∙ length-map out number in
      let kept : length out ≡ length (filter keeps xs) =
      length_permutation (filter keeps xs) out (shuffled a k xs all) in
      let high : AllByRecursion (λ n. n < a + length out) used =
      rw kept (numbers_within a (length (filter keeps xs)) xs (range_with_len a k) tight) in
      are ∙ ap (map (λ n. Some n)) (no_gap (λ n. list_any (has n) xs) a k (length out) long high)
