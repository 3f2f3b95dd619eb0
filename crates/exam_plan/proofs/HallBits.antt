-- What the operations on numbers do to the sets that the numbers are, and on two words to the set of both.
use Rattle.exam_plan.proofs.Words.{cases_eq, cases_lt, eq-eqb, ne_eqb, and_parts, holds}
use Rattle.std.proofs.Common.{◌≡◌, ◌≢◌, ℕ, zero, suc, ◌+◌, ◌-◌, ◌*◌, ◌/◌, ◌%◌, ◌^◌, ◌<◌, ◌≤◌, ◌↔◌, Option, None, Some}
use Rattle.std.proofs.Common.{Bool, true, false, not, ◌&&◌, ◌||◌, cond, min, max, nat_eq, bit_and, bit_or, bit_xor}
use Rattle.std.proofs.Common.{refl, sym, ap, ◌∙◌, inl, inr, arith}
use Rattle.std.specs.Prelude.{MatchOption, is_some}
use Rattle.std.specs.Int.{bit_at, bit_not, trailing_zeros, w128}
use Rattle.std.specs.Int.Bits.{and_le_l, or_lt}
use Rattle.std.proofs.lemmas.Nat.{one_shl}
use Rattle.std.proofs.lemmas.Nat.Bits.{bit_at-lt, bit_at-zero, bit_at_lowest, bit_at-suc, bit_at_or, bit_at_and}
use Rattle.std.proofs.lemmas.Nat.Bits.{bit_at_xor, bit_at_not, bit_at_above, bit_at-pow_same, bit_at-pow_other}
use Rattle.std.proofs.lemmas.Nat.Bits.{shr_and_one, bit_at-trailing_zeros, bit_at_cat_low, bit_at_cat_high}
use Rattle.std.proofs.Math.Bool.{or_comm, and-false, and_self}
use Rattle.exam_plan.specs.HallSets.{IsLeast}

-- ---- bits as tests

-- what holds of two bits, whichever they are
by_bits : (P : ℕ → ℕ → Type 0) → P zero zero → P zero (suc zero) → P (suc zero) zero → P (suc zero) (suc zero)
    → (x y : ℕ) → x < 2 → y < 2 → P x y
by_bits P a b c d zero zero l m = a
by_bits P a b c d zero (suc zero) l m = b
by_bits P a b c d (suc zero) zero l m = c
by_bits P a b c d (suc zero) (suc zero) l m = d
by_bits P a b c d (suc (suc x)) y l m = absurd (omega arith)
by_bits P a b c d x (suc (suc y)) l m = absurd (omega arith)

or_test : (x y : ℕ) → x < 2 → y < 2 → nat_eq (max x y) 1 ≡ nat_eq x 1 || nat_eq y 1
or_test = by_bits (λ x y. nat_eq (max x y) 1 ≡ nat_eq x 1 || nat_eq y 1) refl refl refl refl

and_test : (x y : ℕ) → x < 2 → y < 2 → nat_eq (min x y) 1 ≡ nat_eq x 1 && nat_eq y 1
and_test = by_bits (λ x y. nat_eq (min x y) 1 ≡ nat_eq x 1 && nat_eq y 1) refl refl refl refl

not_test : (x : ℕ) → x < 2 → nat_eq (1 - x) 1 ≡ not (nat_eq x 1)
not_test zero l = refl
not_test (suc zero) l = refl
not_test (suc (suc x)) l = absurd (omega arith)

other_test : (x y : ℕ) → x < 2 → y < 2
    → nat_eq ((x + y) % 2) 1 ≡ (nat_eq x 1 || nat_eq y 1) && not (nat_eq x 1 && nat_eq y 1)
other_test = by_bits
    (λ x y. nat_eq ((x + y) % 2) 1 ≡ (nat_eq x 1 || nat_eq y 1) && not (nat_eq x 1 && nat_eq y 1)) refl refl refl refl

one_test : (x : ℕ) → x < 2 → not (nat_eq x 0) ≡ nat_eq x 1
one_test zero l = refl
one_test (suc zero) l = refl
one_test (suc (suc x)) l = absurd (omega arith)

-- ---- the operations

pub holds_empty : (h : ℕ) → holds 0 h ≡ false
holds_empty h = ap (λ t. nat_eq t 1) (bit_at-zero h)

pub holds_or : (a b h : ℕ) → holds (bit_or a b) h ≡ holds a h || holds b h
holds_or a b h = ap (λ t. nat_eq t 1) (bit_at_or a b h)
    ∙ or_test (bit_at a h) (bit_at b h) (bit_at-lt a h) (bit_at-lt b h)

pub holds_and : (a b h : ℕ) → holds (bit_and a b) h ≡ holds a h && holds b h
holds_and a b h = ap (λ t. nat_eq t 1) (bit_at_and a b h)
    ∙ and_test (bit_at a h) (bit_at b h) (bit_at-lt a h) (bit_at-lt b h)

pub holds_xor : (a b h : ℕ) → holds (bit_xor a b) h ≡ (holds a h || holds b h) && not (holds a h && holds b h)
holds_xor a b h = ap (λ t. nat_eq t 1) (bit_at_xor a b h)
    ∙ other_test (bit_at a h) (bit_at b h) (bit_at-lt a h) (bit_at-lt b h)

-- no hall is in the set of a number below 2 ^ n from n on
pub holds_past : (n a h : ℕ) → a < 2 ^ n → n ≤ h → holds a h ≡ false
holds_past n a h within past = ap (λ t. nat_eq t 1) (bit_at_above a n h within past)

pub holds_minus : (a b h : ℕ) → a < 2 ^ 128 → b < 2 ^ 128
    → holds (bit_and a (bit_not w128 b)) h ≡ holds a h && not (holds b h)
holds_minus a b h within also = holds_and a (bit_not w128 b) h ∙ elim (cases_lt h 128) [
  | inl l ↦ ap (λ t. holds a h && t)
      (ap (λ t. nat_eq t 1) (bit_at_not w128 b h also l) ∙ not_test (bit_at b h) (bit_at-lt b h))
  | inr g ↦ (let none : holds a h ≡ false = holds_past 128 a h within g in
      ap (λ t. t && holds (bit_not w128 b) h) none ∙ sym (ap (λ t. t && not (holds b h)) none))
]

holds_one : (k h : ℕ) → holds (2 ^ k) h ≡ nat_eq h k
holds_one k h = elim (cases_eq h k) [
  | inl e ↦ ap (λ t. holds (2 ^ k) t) e ∙ ap (λ t. nat_eq t 1) (bit_at-pow_same k) ∙ sym (eq-eqb h k e)
  | inr n ↦ ap (λ t. nat_eq t 1) (bit_at-pow_other k h n) ∙ sym (ne_eqb h k n)
]

pub holds_with : (n k h : ℕ) → k < 128 → holds (bit_or n (1 * 2 ^ k % 2 ^ 128)) h ≡ nat_eq h k || holds n h
holds_with n k h within =
    ap (λ t. holds (bit_or n t) h) (one_shl k 128 within) ∙ holds_or n (2 ^ k) h
    ∙ or_comm (holds n h) (holds (2 ^ k) h) ∙ ap (λ t. t || holds n h) (holds_one k h)

pub test_holds : (n k : ℕ) → not (nat_eq (bit_and (n / 2 ^ k) 1) 0) ≡ holds n k
test_holds n k = ap (λ t. not (nat_eq t 0)) (shr_and_one n k) ∙ one_test (bit_at n k) (bit_at-lt n k)

-- the least hall of a set that has one
pub least_holds : (n : ℕ) → 0 < n → n < 2 ^ 128
    → (trailing_zeros w128 n < 128) × (holds n (trailing_zeros w128 n) ≡ true)
    × ((k : ℕ) → holds n k ≡ true → trailing_zeros w128 n ≤ k)
least_holds n some within =
    let t = bit_at-trailing_zeros w128 n some within in (
      t.0,
      ap (λ b. nat_eq b 1) t.1,
      λ k m. elim (cases_lt k (trailing_zeros w128 n)) [
        | inl l ↦ absurd (let z : false ≡ true = sym (ap (λ b. nat_eq b 1) (t.2 k l)) ∙ m in cc)
        | inr g ↦ g
      ],
    )

pub or_within : (a b : ℕ) → a < 2 ^ 128 → b < 2 ^ 128 → bit_or a b < 2 ^ 128
or_within a b within also = or_lt 128 a b within also

pub and_within : (a b : ℕ) → a < 2 ^ 128 → bit_and a b < 2 ^ 128
and_within a b within = let le = and_le_l a b in omega arith

pub with_within : (n k : ℕ) → n < 2 ^ 128 → k < 128 → bit_or n (1 * 2 ^ k % 2 ^ 128) < 2 ^ 128
with_within n k within below = or_lt 128 n (1 * 2 ^ k % 2 ^ 128) within (mod_below (1 * 2 ^ k))
  where
    mod_below : (x : ℕ) → x % 2 ^ 128 < 2 ^ 128
    mod_below x = omega arith

-- ---- two words: the low one has the halls below 128, the high one the others

pub in_low : (low high h : ℕ) → h < 128 → holds (high * 2 ^ 128 + low) h ≡ holds low h
in_low low high h below = ap (λ t. nat_eq t 1) (bit_at_cat_low high 128 low h below)

pub in_high : (low high h : ℕ) → low < 2 ^ 128 → 128 ≤ h → holds (high * 2 ^ 128 + low) h ≡ holds high (h - 128)
in_high low high h within past = ap (λ t. nat_eq t 1) (bit_at_cat_high high 128 low h within past)

-- an operation on two sets is the same operation on both words
pub in_both : (f : Bool → Bool → Bool) (a b c d low high h : ℕ) → a < 2 ^ 128 → c < 2 ^ 128 → low < 2 ^ 128
    → ((k : ℕ) → holds low k ≡ f (holds a k) (holds c k)) → ((k : ℕ) → holds high k ≡ f (holds b k) (holds d k))
    → holds (high * 2 ^ 128 + low) h ≡ f (holds (b * 2 ^ 128 + a) h) (holds (d * 2 ^ 128 + c) h)
in_both f a b c d low high h within also small lows highs = elim (cases_lt h 128) [
  | inl l ↦ in_low low high h l ∙ lows h ∙ (λ i. f (sym (in_low a b h l) i) (sym (in_low c d h l) i))
  | inr g ↦ in_high low high h small g ∙ highs (h - 128)
      ∙ (λ i. f (sym (in_high a b h within g) i) (sym (in_high c d h also g) i))
]

-- the bit of a hall in its word
pub low_bit : (low high hall : ℕ) → hall < 128 → holds low (hall % 128) ≡ holds (high * 2 ^ 128 + low) hall
low_bit low high hall below = let e : hall % 128 ≡ hall =
    omega arith in ap (holds low) e ∙ sym (in_low low high hall below)

pub high_bit : (low high hall : ℕ) → low < 2 ^ 128 → 128 ≤ hall → hall < 256
    → holds high (hall % 128) ≡ holds (high * 2 ^ 128 + low) hall
high_bit low high hall within past below =
    let e : hall % 128 ≡ hall - 128 = omega arith in ap (holds high) e ∙ sym (in_high low high hall within past)

pub no_bit_past : (low high hall : ℕ) → low < 2 ^ 128 → high < 2 ^ 128 → 256 ≤ hall
    → holds 0 (hall % 128) ≡ holds (high * 2 ^ 128 + low) hall
no_bit_past low high hall within also past =
    holds_empty (hall % 128)
    ∙ sym (in_high low high hall within (omega arith) ∙ holds_past 128 high (hall - 128) also (omega arith))

-- a hall put into its word
pub with_low : (low high hall h : ℕ) → low < 2 ^ 128 → hall < 128
    → holds (high * 2 ^ 128 + bit_or low (1 * 2 ^ (hall % 128) % 2 ^ 128)) h
    ≡ nat_eq h hall || holds (high * 2 ^ 128 + low) h
with_low low high hall h within below =
    let e : hall % 128 ≡ hall = omega arith in
    let more = bit_or low (1 * 2 ^ (hall % 128) % 2 ^ 128) in
    elim (cases_lt h 128) [
      | inl l ↦ in_low more high h l ∙ holds_with low (hall % 128) h (omega arith)
          ∙ (λ i. nat_eq h (e i) || sym (in_low low high h l) i)
      | inr g ↦ in_high more high h (with_within low (hall % 128) within (omega arith)) g
          ∙ sym (in_high low high h within g)
          ∙ ap (λ t. t || holds (high * 2 ^ 128 + low) h) (sym (ne_eqb h hall (λ s. absurd (omega arith))))
    ]

pub with_high : (low high hall h : ℕ) → low < 2 ^ 128 → 128 ≤ hall → hall < 256
    → holds (bit_or high (1 * 2 ^ (hall % 128) % 2 ^ 128) * 2 ^ 128 + low) h
    ≡ nat_eq h hall || holds (high * 2 ^ 128 + low) h
with_high low high hall h within past below =
    let e : hall % 128 ≡ hall - 128 = omega arith in
    let more = bit_or high (1 * 2 ^ (hall % 128) % 2 ^ 128) in
    elim (cases_lt h 128) [
      | inl l ↦ in_low low more h l ∙ sym (in_low low high h l)
          ∙ ap (λ t. t || holds (high * 2 ^ 128 + low) h) (sym (ne_eqb h hall (λ s. absurd (omega arith))))
      | inr g ↦ in_high low more h within g ∙ holds_with high (hall % 128) (h - 128) (omega arith)
          ∙ (λ i. moved g i || sym (in_high low high h within g) i)
    ]
  where
    moved : 128 ≤ h → nat_eq (h - 128) (hall % 128) ≡ nat_eq h hall
    moved g = elim (cases_eq h hall) [
      | inl s ↦ eq-eqb (h - 128) (hall % 128) (omega arith) ∙ sym (eq-eqb h hall s)
      | inr n ↦ ne_eqb (h - 128) (hall % 128) (λ s. n (omega arith)) ∙ sym (ne_eqb h hall n)
    ]

-- ---- the least hall

pub first_low : (low high : ℕ) → low < 2 ^ 128 → 0 < low → IsLeast (high * 2 ^ 128 + low) (trailing_zeros w128 low)
first_low low high within some =
    let first = least_holds low some within in (
      omega (arith, first.0),
      in_low low high (trailing_zeros w128 low) first.0 ∙ first.1,
      λ k held. elim (cases_lt k 128) [
        | inl l ↦ first.2 k (sym (in_low low high k l) ∙ held)
        | inr g ↦ omega (arith, first.0)
      ],
    )

pub first_high : (low high : ℕ) → low ≡ 0 → high < 2 ^ 128 → 0 < high
    → IsLeast (high * 2 ^ 128 + low) (128 + trailing_zeros w128 high)
first_high low high none within some =
    let first = least_holds high some within in
    let e : 128 + trailing_zeros w128 high - 128 ≡ trailing_zeros w128 high = omega arith in (
      omega (arith, first.0),
      in_high low high (128 + trailing_zeros w128 high) (omega arith) (omega arith) ∙ ap (holds high) e ∙ first.1,
      λ k held. elim (cases_lt k 128) [
        | inl l ↦ absurd (let z : false ≡ true = sym (holds_empty k) ∙ ap (λ n. holds n k) (sym none)
            ∙ sym (in_low low high k l) ∙ held in cc)
        | inr g ↦ let le = first.2 (k - 128) (sym (in_high low high k (omega arith) g) ∙ held) in omega (arith, le)
      ],
    )

pub first_nowhere : (low high : ℕ) → low ≡ 0 → high ≡ 0 → (h : ℕ) → holds (high * 2 ^ 128 + low) h ≡ false
first_nowhere low high none also h = (λ i. holds (also i * 2 ^ 128 + none i) h) ∙ holds_empty h

-- ---- a number without its lowest bit

-- one less has the same bits beyond the lowest, which it lacks
one_less : (t n : ℕ) → bit_at n t ≡ 1 → ((j : ℕ) → j < t → bit_at n j ≡ 0)
    → (bit_at (n - 1) t ≡ 0) × ((i : ℕ) → t < i → bit_at (n - 1) i ≡ bit_at n i)
one_less zero n one below =
    let odd : n % 2 ≡ 1 = sym (bit_at_lowest n) ∙ one in
    (bit_at_lowest (n - 1) ∙ omega (arith, odd), λ i l. beyond i l odd)
  where
    beyond : (i : ℕ) → 0 < i → n % 2 ≡ 1 → bit_at (n - 1) i ≡ bit_at n i
    beyond zero l odd = absurd (omega arith)
    beyond (suc i) l odd = let half : (n - 1) / 2 ≡ n / 2 =
        omega (arith, odd) in bit_at-suc (n - 1) i ∙ ap (λ z. bit_at z i) half ∙ sym (bit_at-suc n i)
one_less (suc t) n one below =
    let even : n % 2 ≡ 0 = sym (bit_at_lowest n) ∙ below 0 (omega arith) in
    let half : (n - 1) / 2 ≡ n / 2 - 1 = omega (arith, even) in
    let less = one_less t (n / 2) (sym (bit_at-suc n t) ∙ one)
    (λ j l. sym (bit_at-suc n j) ∙ below (suc j) (omega (arith, l))) in
    (bit_at-suc (n - 1) t ∙ ap (λ z. bit_at z t) half ∙ less.0, λ i l. beyond i l half less.1)
  where
    beyond : (i : ℕ) → suc t < i → (n - 1) / 2 ≡ n / 2 - 1
        → ((i : ℕ) → t < i → bit_at (n / 2 - 1) i ≡ bit_at (n / 2) i) → bit_at (n - 1) i ≡ bit_at n i
    beyond zero l half less = absurd (omega arith)
    beyond (suc i) l half less =
        bit_at-suc (n - 1) i ∙ ap (λ z. bit_at z i) half ∙ less i (omega (arith, l)) ∙ sym (bit_at-suc n i)

pub without_least : (n k : ℕ) → 0 < n → n < 2 ^ 128
    → holds (bit_and n (n - 1)) k ≡ cond (nat_eq k (trailing_zeros w128 n)) false (holds n k)
without_least n k some within =
    let t = bit_at-trailing_zeros w128 n some within in
    let less = one_less (trailing_zeros w128 n) n t.1 t.2 in
    holds_and n (n - 1) k ∙ elim (cases_eq k (trailing_zeros w128 n)) [
      | inl e ↦ ap (λ b. holds n k && nat_eq b 1) (ap (bit_at (n - 1)) e ∙ less.0) ∙ and-false (holds n k)
          ∙ sym (ap (λ b. cond b false (holds n k)) (eq-eqb k (trailing_zeros w128 n) e))
      | inr away ↦ others (trailing_zeros w128 n) away t.2 less.1
          ∙ sym (ap (λ b. cond b false (holds n k)) (ne_eqb k (trailing_zeros w128 n) away))
    ]
  where
    others : (t : ℕ) → k ≢ t → ((i : ℕ) → i < t → bit_at n i ≡ 0) → ((i : ℕ) → t < i → bit_at (n - 1) i ≡ bit_at n i)
        → holds n k && holds (n - 1) k ≡ holds n k
    others t away none same = elim (cases_lt k t) [
      | inl l ↦ (let z : holds n k ≡ false = ap (λ b. nat_eq b 1) (none k l) in
          ap (λ b. b && holds (n - 1) k) z ∙ sym z)
      | inr g ↦ ap (λ b. holds n k && nat_eq b 1) (same k (omega (arith, g, away))) ∙ and_self (holds n k)
    ]

-- the other halls of a set of two words
pub others_low : (low high h : ℕ) → low < 2 ^ 128 → 0 < low
    → holds (high * 2 ^ 128 + bit_and low (low - 1)) h
    ≡ cond (nat_eq h (trailing_zeros w128 low)) false (holds (high * 2 ^ 128 + low) h)
others_low low high h within some =
    let first = least_holds low some within in
    let less = bit_and low (low - 1) in
    elim (cases_lt h 128) [
      | inl l ↦ in_low less high h l ∙ without_least low h some within
          ∙ ap (cond (nat_eq h (trailing_zeros w128 low)) false) (sym (in_low low high h l))
      | inr g ↦ in_high less high h (and_within low (low - 1) within) g ∙ sym (in_high low high h within g)
          ∙ ap (λ t. cond t false (holds (high * 2 ^ 128 + low) h))
          (sym (ne_eqb h (trailing_zeros w128 low) (λ s. absurd (omega (arith, first.0)))))
    ]

pub others_high : (low high h : ℕ) → low ≡ 0 → high < 2 ^ 128 → 0 < high
    → holds (bit_and high (high - 1) * 2 ^ 128 + 0) h
    ≡ cond (nat_eq h (128 + trailing_zeros w128 high)) false (holds (high * 2 ^ 128 + low) h)
others_high low high h none within some =
    let less = bit_and high (high - 1) in
    elim (cases_lt h 128) [
      | inl l ↦ in_low 0 less h l ∙ ap (λ n. holds n h) (sym none) ∙ sym (in_low low high h l)
          ∙ ap (λ t. cond t false (holds (high * 2 ^ 128 + low) h))
          (sym (ne_eqb h (128 + trailing_zeros w128 high) (λ s. absurd (omega arith))))
      | inr g ↦ in_high 0 less h (omega arith) g ∙ without_least high (h - 128) some within
          ∙ (λ i. cond (moved (trailing_zeros w128 high) g i) false (sym (in_high low high h (omega arith) g) i))
    ]
  where
    moved : (t : ℕ) → 128 ≤ h → nat_eq (h - 128) t ≡ nat_eq h (128 + t)
    moved t g = elim (cases_eq h (128 + t)) [
      | inl s ↦ eq-eqb (h - 128) t (omega arith) ∙ sym (eq-eqb h (128 + t) s)
      | inr n ↦ ne_eqb (h - 128) t (λ s. n (omega arith)) ∙ sym (ne_eqb h (128 + t) n)
    ]

-- a set is empty where it has no least hall
pub none_found : (o : Option ℕ) (r : Bool) (set : ℕ) → MatchOption o ((h : ℕ) → holds set h ≡ false) (IsLeast set)
    → is_some o ≡ not r → (r ≡ true) ↔ ((h : ℕ) → holds set h ≡ false)
none_found None true set found e = ((λ t. found), (λ none. refl))
none_found None false set found e = cc
none_found (Some h) true set found e = cc
none_found (Some h) false set found e = (
  (λ t. absurd (let z : false ≡ true = t in cc)),
  (λ none. absurd (let z : false ≡ true = sym (none h) ∙ found.1 in cc)),
)

-- two sets meet where what they have in common has a least hall
pub both_found : (o : Option ℕ) (r : Bool) (a b both : ℕ)
    → MatchOption o ((h : ℕ) → holds both h ≡ false) (IsLeast both) → ((h : ℕ) → holds both h ≡ holds a h && holds b h)
    → r ≡ is_some o → (r ≡ true) ↔ ((h : ℕ) × (holds a h ≡ true) × (holds b h ≡ true))
both_found None true a b both found parts e = cc
both_found None false a b both found parts e = (
  (λ t. absurd (let z : false ≡ true = t in cc)),
  (λ w. absurd (let z : false ≡ true = sym (found w.0) ∙ parts w.0 ∙ (λ i. w.1 i && w.2 i) in cc)),
)
both_found (Some h) true a b both found parts e =
    ((λ t. let s = and_parts (holds a h) (holds b h) (sym (parts h) ∙ found.1) in (h, s.0, s.1)), (λ w. refl))
both_found (Some h) false a b both found parts e = cc

-- a set with one hall put in or taken out
pub put_in : (a e z : Bool) → z ≡ false → (a || (e || z)) ≡ cond e true a
put_in true true z none = refl
put_in true false z none = refl
put_in false true z none = refl
put_in false false z none = none

pub put_out : (a e z : Bool) → z ≡ false → (a && not (e || z)) ≡ cond e false a
put_out true true z none = refl
put_out true false z none = ap not none
put_out false true z none = refl
put_out false false z none = refl
