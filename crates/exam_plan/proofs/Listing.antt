-- The list of the dead halls: one set after the other, each hall once.
use Rattle.exam_plan.proofs.Words.{range_with_len, list_any, AllByRecursion, IsDistinct, IsStrictlySortedBy, nat_cmp}
use Rattle.exam_plan.proofs.Words.{cases_Bool, eq-eqb, or_cases, or_left, or_right, length-append, length-filter, holds}
use Rattle.exam_plan.proofs.Words.{halls_below, IsMarked}
use Rattle.std.proofs.Common.{◌≡◌, ◌↔◌, ℕ, ◌+◌, ◌<◌, ◌≤◌, Bool, true, false, ◌||◌, List, [], ◌∷◌, ◌++◌, length, nat_eq}
use Rattle.std.proofs.Common.{refl, sym, ap, ◌∙◌, inl, inr, subst, arith}
use Rattle.std.specs.Prelude.{Contains, filter}
use Rattle.std.proofs.lemmas.Bool.{or_from, or_parts}
use Rattle.std.proofs.lemmas.List.{append_assoc}
use Rattle.std.proofs.lemmas.List.Folds.{list_any-append}
use Rattle.exam_plan.proofs.Counting.{bit, count_below, count_by-range, count_below-add, count_below-le-bound}
use Rattle.exam_plan.proofs.Counting.{count_below-reaches, count_below-none}
use Rattle.exam_plan.proofs.DrawLemmas.{filter_takes, filter_leaves}
use Rattle.exam_plan.proofs.Rising.{passing, passes_in, filter_sorted, listed_in, in_listed, later_all}

-- ---- how many halls a set has

pub many_below : (P : ℕ → Bool) (n : ℕ) → length (filter P (range_with_len 0 n)) ≡ count_below P n
many_below P n = length-filter P (range_with_len 0 n) ∙ count_by-range P n

-- a hall that is still to be listed leaves room
pub still_fewer : (P : ℕ → Bool) (n k : ℕ) → k < n → P k ≡ true
    → length (filter P (range_with_len 0 k)) < length (filter P (range_with_len 0 n))
still_fewer P n k l t = let h = count_below-reaches P k n l t in let a = many_below P k in let b =
    many_below P n in omega (arith, h, a, b)

pub none_below : (P : ℕ → Bool) (n : ℕ) → ((h : ℕ) → P h ≡ false) → length (filter P (range_with_len 0 n)) ≡ 0
none_below P n none = many_below P n ∙ count_below-none P n none

-- ---- a list that goes on

pub takes_more : (P : ℕ → Bool) (i : ℕ) (old so_far after : List ℕ) → so_far ≡ old ++ filter P (range_with_len 0 i)
    → after ≡ so_far ++ i ∷ [] → P i ≡ true → after ≡ old ++ filter P (range_with_len 0 (i + 1))
takes_more P i old so_far after is more t =
    more ∙ ap (λ xs. xs ++ i ∷ []) is ∙ append_assoc old (filter P (range_with_len 0 i)) (i ∷ [])
    ∙ ap (λ xs. old ++ xs) (filter_takes P i (filter P (range_with_len 0 i)) refl t)

pub leaves_same : (P : ℕ → Bool) (i : ℕ) (old so_far : List ℕ) → so_far ≡ old ++ filter P (range_with_len 0 i)
    → P i ≡ false → so_far ≡ old ++ filter P (range_with_len 0 (i + 1))
leaves_same P i old so_far is t = is ∙ ap (λ xs. old ++ xs) (filter_leaves P i (filter P (range_with_len 0 i)) refl t)

-- ---- lists one after the other

none_as_recursion : (x : ℕ) (xs : List ℕ) → list_any (nat_eq x) xs ≡ false → AllByRecursion (λ y. nat_eq x y ≡ false) xs
none_as_recursion x [] e = tt
none_as_recursion x (y ∷ ys) e = let parts =
    or_parts (nat_eq x y) (list_any (nat_eq x) ys) e in (parts.0, none_as_recursion x ys parts.1)

recursion_as_none : (x : ℕ) (xs : List ℕ) → AllByRecursion (λ y. nat_eq x y ≡ false) xs → list_any (nat_eq x) xs ≡ false
recursion_as_none x [] a = refl
recursion_as_none x (y ∷ ys) a = or_from (nat_eq x y) (list_any (nat_eq x) ys) a.0 (recursion_as_none x ys a.1)

rising_distinct : (xs : List ℕ) → IsStrictlySortedBy nat_cmp xs → IsDistinct nat_eq xs
unfolding IsStrictlySortedBy IsDistinct
rising_distinct [] s = tt
rising_distinct (x ∷ xs) s = (none_as_recursion x xs (later_all x xs s.0), rising_distinct xs s.1)

distinct_append : (xs ys : List ℕ) → IsDistinct nat_eq xs → IsDistinct nat_eq ys
    → ((h : ℕ) → list_any (nat_eq h) xs ≡ true → list_any (nat_eq h) ys ≡ false) → IsDistinct nat_eq (xs ++ ys)
unfolding IsDistinct
distinct_append [] ys dx dy apart = dy
distinct_append (x ∷ xs) ys dx dy apart = (
  none_as_recursion x (xs ++ ys)
      (list_any-append (nat_eq x) xs ys
      ∙ or_from (list_any (nat_eq x) xs) (list_any (nat_eq x) ys) (recursion_as_none x xs dx.0)
      (apart x (or_left (nat_eq x x) (list_any (nat_eq x) xs) (eq-eqb x x refl)))),
  distinct_append xs ys dx.1 dy (λ h t. apart h (or_right (nat_eq h x) (list_any (nat_eq h) xs) t)),
)

pub none_distinct : (xs : List ℕ) → xs ≡ [] → IsDistinct nat_eq xs
unfolding IsDistinct
none_distinct [] e = tt
none_distinct (x ∷ xs) e = cc

pub nothing_listed : (xs : List ℕ) (set : ℕ) → xs ≡ [] → ((h : ℕ) → holds set h ≡ false) → (h : ℕ)
    → Contains xs h ↔ IsMarked (holds set) h
nothing_listed xs set e none h = (
  (λ m. absurd (let t = listed_in xs h m in let z : false ≡ true = ap (list_any (nat_eq h)) (sym e) ∙ t in cc)),
  (λ t. absurd (let z : false ≡ true = sym (none h) ∙ t in cc)),
)

-- ---- the halls of one more search

apart_bits : (a b : Bool) → (b ≡ true → a ≡ true → ⊥) → bit a + bit b ≡ bit (a || b)
apart_bits true true apart = absurd (apart refl refl)
apart_bits true false apart = refl
apart_bits false true apart = refl
apart_bits false false apart = refl

module _ (n dead led both : ℕ) (is : (h : ℕ) → holds both h ≡ holds dead h || holds led h)
    (apart : (h : ℕ) → IsMarked (holds led) h → IsMarked (holds dead) h → ⊥)
    (within : (h : ℕ) → IsMarked (holds led) h → h < n)
    (listed after : List ℕ) (are : (h : ℕ) → Contains listed h ↔ IsMarked (holds dead) h)
    (after_is : after ≡ listed ++ halls_below n led) where
  any_after : (h : ℕ) → list_any (nat_eq h) after
      ≡ list_any (nat_eq h) listed || list_any (nat_eq h) (halls_below n led)
  any_after h = ap (list_any (nat_eq h)) after_is ∙ list_any-append (nat_eq h) listed (halls_below n led)

  pub after_lists : (h : ℕ) → Contains after h ↔ IsMarked (holds both) h
  after_lists h = (
    (λ m. is h ∙ elim (or_cases (list_any (nat_eq h) listed) (list_any (nat_eq h) (halls_below n led))
        (sym (any_after h) ∙ listed_in after h m)) [
          | inl t ↦ or_left (holds dead h) (holds led h) ((are h).0 (in_listed listed h t))
          | inr t ↦ or_right (holds dead h) (holds led h)
              (passing (holds led) n h (in_listed (halls_below n led) h t)).1
        ]),
    (λ t. in_listed after h (any_after h ∙ elim (or_cases (holds dead h) (holds led h) (sym (is h) ∙ t)) [
      | inl d ↦ or_left (list_any (nat_eq h) listed) (list_any (nat_eq h) (halls_below n led))
          (listed_in listed h ((are h).1 d))
      | inr l ↦ or_right (list_any (nat_eq h) listed) (list_any (nat_eq h) (halls_below n led))
          (listed_in (halls_below n led) h (passes_in (holds led) n h (within h l) l))
    ])),
  )

  pub after_once : IsDistinct nat_eq listed → IsDistinct nat_eq after
  after_once once = subst (IsDistinct nat_eq) (sym after_is)
      (distinct_append listed (halls_below n led) once
      (rising_distinct (halls_below n led) (filter_sorted (holds led) n))
      (λ h t. elim (cases_Bool (list_any (nat_eq h) (halls_below n led))) [
        | inl u ↦ absurd (apart h (passing (holds led) n h (in_listed (halls_below n led) h u)).1
            ((are h).0 (in_listed listed h t)))
        | inr f ↦ f
      ]))

  bits : (h : ℕ) → bit (holds dead h) + bit (holds led h) ≡ bit (holds both h)
  bits h = apart_bits (holds dead h) (holds led h) (apart h) ∙ ap bit (sym (is h))

  both_many : length (halls_below n dead) + length (halls_below n led) ≡ length (halls_below n both)
  both_many =
      let a = many_below (holds dead) n in let b = many_below (holds led) n in let c = many_below (holds both) n in
      let s = count_below-add (holds dead) (holds led) (holds both) n (λ h l. bits h) in omega (arith, a, b, c, s)

  pub after_many : length listed ≡ length (halls_below n dead) → length after ≡ length (halls_below n both)
  after_many many = let s = both_many in let e : length after ≡ length listed + length (halls_below n led) =
      ap length after_is ∙ length-append listed (halls_below n led) in omega (arith, many, s, e)

-- sets that are apart have no more halls than there are
pub room_left : (n dead led listed : ℕ) → ((h : ℕ) → IsMarked (holds led) h → IsMarked (holds dead) h → ⊥)
    → listed ≡ length (halls_below n dead) → listed + length (halls_below n led) ≤ n
room_left n dead led listed apart many =
    let a = many_below (holds dead) n in let b = many_below (holds led) n in
    let s = count_below-add (holds dead) (holds led) (λ h. holds dead h || holds led h) n
    (λ h l. apart_bits (holds dead h) (holds led h) (apart h)) in
    let c = count_below-le-bound (λ h. holds dead h || holds led h) n in omega (arith, a, b, s, c, many)
