-- Equal feature sets, sets in sets, the one set with a sum, and the one set with a text.
use mir.Val.{bool_byte}
use Rattle.std.proofs.Common.{◌≡◌, ◌∙◌, ◌+◌, ◌*◌, ◌/◌, ◌%◌, ◌^◌, ◌<◌, ◌≤◌, ℕ, zero, suc, Bool, true, false, List, []}
use Rattle.std.proofs.Common.{◌∷◌, length, nat_eq, bit_and, refl, sym, ap, arith, inl, inr, pow-suc}
use Rattle.std.specs.Prelude.{◌&&◌, ◌==◌}
use Rattle.std.proofs.lemmas.Bool.{cases_eq, eq-eqb, ne_eqb, eqb-true, and_parts}
use Rattle.std.proofs.lemmas.Nat.{and_le_r, and_shr, and_mod}
use Rattle.exam_types.specs.Features.{Features, Flags, feature_names, features_sum, features_text, all_met, is_met}
use Rattle.exam_types.specs.Features.{named_features, part, same_features, sum_among, summed_among, summed_features}

-- ---- each set, and the sum that it has

-- a test that passes for every set of these names
abbrev pub is_of_all : (names : List (List ℕ)) → (Flags names → Bool) → Bool
is_of_all [] test = test tt
is_of_all (name ∷ names) test = is_of_all names (λ f. test (true, f)) && is_of_all names (λ f. test (false, f))

pub of_all : (names : List (List ℕ)) (test : Flags names → Bool) → is_of_all names test ≡ true → (f : Flags names)
    → test f ≡ true
of_all [] test all f = all
of_all (name ∷ names) test all (true, f) = of_all names (λ f. test (true, f)) (and_parts _ _ all).0 f
of_all (name ∷ names) test all (false, f) = of_all names (λ f. test (false, f)) (and_parts _ _ all).1 f

bits_of_sum : (names : List (List ℕ)) (f : Flags names) → summed_among names (sum_among names f) ≡ f
bits_of_sum [] f = refl
bits_of_sum (name ∷ names) (true, f) =
    let low : (1 + 2 * sum_among names f) % 2 ≡ 1 = omega arith in
    let high : (1 + 2 * sum_among names f) / 2 ≡ sum_among names f = omega arith in
    rw (low, high, bits_of_sum names f) refl
bits_of_sum (name ∷ names) (false, f) =
    let low : (0 + 2 * sum_among names f) % 2 ≡ 0 = omega arith in
    let high : (0 + 2 * sum_among names f) / 2 ≡ sum_among names f = omega arith in
    rw (low, high, bits_of_sum names f) refl

-- a sum is that of one set alone, which its powers name
pub set_of_sum : (f : Features) (sum : ℕ) → features_sum f ≡ sum → summed_features sum ≡ f
set_of_sum f sum e = ap summed_features (sym e) ∙ bits_of_sum feature_names f

-- ---- sets in sets

met_bit : (x y : ℕ) → x < 2 → y < 2 → is_met (y == 1) (x == 1) ≡ nat_eq (bit_and x y) y
met_bit zero zero l m = refl
met_bit zero (suc zero) l m = refl
met_bit (suc zero) zero l m = refl
met_bit (suc zero) (suc zero) l m = refl
met_bit (suc (suc x)) y l m = absurd (omega arith)
met_bit x (suc (suc y)) l m = absurd (omega arith)

halves_equal : (x y : ℕ) → nat_eq (x % 2) (y % 2) && nat_eq (x / 2) (y / 2) ≡ nat_eq x y
halves_equal x y = elim (cases_eq x y) [
  | inl e ↦ (let low : x % 2 ≡ y % 2 = ap (λ n. n % 2) e in
      let high : x / 2 ≡ y / 2 = ap (λ n. n / 2) e in
      rw (eq-eqb _ _ low, eq-eqb _ _ high, eq-eqb _ _ e) refl)
  | inr n ↦ elim (cases_eq (x % 2) (y % 2)) [
    | inl e ↦ (let high : x / 2 ≡ y / 2
        → ⊥ = (λ h. n (omega arith)) in rw (eq-eqb _ _ e, ne_eqb _ _ high, ne_eqb _ _ n) refl)
    | inr m ↦ rw (ne_eqb _ _ m, ne_eqb _ _ n) refl
  ]
]

-- a mask has each bit of another if their common bits are the other's
pub met_bits : (names : List (List ℕ)) (a b : ℕ) → a < 2 ^ length names → b < 2 ^ length names
    → all_met names (summed_among names a) (summed_among names b) ≡ nat_eq (bit_and a b) b
met_bits [] a b l m = let c : bit_and a b ≤ b = and_le_r a b in sym (eq-eqb _ _ (omega arith))
met_bits (name ∷ names) a b l m =
    ap (λ t. t && all_met names (summed_among names (a / 2)) (summed_among names (b / 2)))
    (met_bit (a % 2) (b % 2) (omega arith) (omega arith) ∙ ap (λ t. nat_eq t (b % 2)) (sym (and_mod a b 1)))
    ∙ ap (λ t. nat_eq (bit_and a b % 2) (b % 2) && t)
    (met_bits names (a / 2) (b / 2) (omega (arith, pow-suc 2 (length names)))
    (omega (arith, pow-suc 2 (length names))) ∙ ap (λ t. nat_eq t (b / 2)) (sym (and_shr a b 1)))
    ∙ halves_equal (bit_and a b) b

-- ---- equal sets

-- sets with the same sum are one set
pub same_features-is : (x y : Features) → same_features x y ≡ true → x ≡ y
same_features-is x y e = sym (set_of_sum x (features_sum y) (eqb-true _ _ e)) ∙ set_of_sum y (features_sum y) refl

pub same_features-itself : (f : Features) → same_features f f ≡ true
same_features-itself f = eq-eqb (features_sum f) (features_sum f) refl

-- ---- texts

-- the set that a set's text names is the set
pub named_again : (f : Features) → named_features (features_text f) ≡ f
named_again f = same_features-is _ _
    (of_all feature_names (λ f. same_features (named_features (features_text f)) f) refl f)

-- a flag as a byte counts as a part of 1
pub byte_is : (flag : Bool) → bool_byte flag ≡ part flag 1
byte_is true = refl
byte_is false = refl
