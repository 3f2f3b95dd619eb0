-- Counting by binary digits, all halls of a set at once.
use Rattle.exam_plan.proofs.Words.{cases_lt, cases_Bool, or_cases, or_left, or_right, lt-ltb, le-ltb, holds, Tally}
use Rattle.exam_plan.proofs.Words.{one_if, tally_of}
use Rattle.std.proofs.Common.{◌≡◌, ℕ, zero, suc, ◌+◌, ◌-◌, ◌*◌, ◌^◌, ◌<◌, ◌≤◌, ◌↔◌, Bool, true, false, not, cond, ◌&&◌}
use Rattle.std.proofs.Common.{◌||◌, List, [], ◌∷◌, length, replicate, get_or, set, refl, sym, ap, ◌∙◌, inl, inr, arith}
use Rattle.std.proofs.Math.Bool.{and_comm}
use Rattle.exam_plan.specs.Tallies.{tallied}
use Rattle.exam_plan.proofs.HallBits.{holds_empty, in_low, in_high}

-- what a one at this digit adds
abbrev pub worth : ℕ → Bool → ℕ
worth zero b = one_if b
worth (suc i) b = 2 * worth i b

-- one digit is written
pub tallied_set : (digits : List ℕ) (i new h : ℕ) → i < length digits
    → tallied (set digits i new) h + worth i (holds (get_or digits i 0) h) ≡ tallied digits h + worth i (holds new h)
tallied_set [] i new h l = absurd (omega arith)
tallied_set (x ∷ xs) zero new h l = omega arith
tallied_set (x ∷ xs) (suc i) new h l = let e = tallied_set xs i new h (omega arith) in omega (arith, e)

worth_none : (i : ℕ) → worth i false ≡ 0
worth_none zero = refl
worth_none (suc i) = let e = worth_none i in omega (arith, e)

-- a digit and a carry make a digit and the next carry
carries : (i : ℕ) (x s : Bool) → worth i ((x || s) && not (x && s)) + 2 * worth i (x && s) ≡ worth i x + worth i s
carries i true true = let e = worth_none i in omega (arith, e)
carries i true false = let e = worth_none i in omega (arith, e)
carries i false true = let e = worth_none i in omega (arith, e)
carries i false false = let e = worth_none i in omega (arith, e)

-- a digit and a borrowed one make a digit and the next that is borrowed
borrows : (i : ℕ) (x s : Bool) → worth i x + 2 * worth i (s && not x) ≡ worth i ((x || s) && not (x && s)) + worth i s
borrows i true true = let e = worth_none i in omega (arith, e)
borrows i true false = let e = worth_none i in omega (arith, e)
borrows i false true = let e = worth_none i in omega (arith, e)
borrows i false false = let e = worth_none i in omega (arith, e)

-- what is borrowed from the next digit, read from the new one
pub still_borrowed : (x s : Bool) → s && ((x || s) && not (x && s)) ≡ s && not x
still_borrowed true true = refl
still_borrowed true false = refl
still_borrowed false true = refl
still_borrowed false false = refl

-- the numbers so far, while a set of halls is counted: what is carried to the digit is still missing
abbrev pub IsCounting : List ℕ → ℕ → List ℕ → ℕ → ℕ → Type 0
IsCounting before halls digits i carry = (h : ℕ)
    → tallied digits h + worth i (holds carry h) ≡ tallied before h + one_if (holds halls h)

-- the numbers so far, while a set of halls is counted once less: what was borrowed from the digit is still too much
abbrev pub IsDiscounting : List ℕ → ℕ → List ℕ → ℕ → ℕ → Type 0
IsDiscounting before halls digits i borrow = (h : ℕ)
    → tallied digits h + one_if (holds halls h) ≡ tallied before h + worth i (holds borrow h)

module _ (before digits : List ℕ) (halls i digit set_by new : ℕ) (inside : i < length digits)
    (read : digit ≡ get_or digits i 0)
    (written : (h : ℕ) → holds new h ≡ (holds digit h || holds set_by h) && not (holds digit h && holds set_by h)) where
  step : (h : ℕ) → tallied (set digits i new) h + worth i (holds digit h)
      ≡ tallied digits h + worth i ((holds digit h || holds set_by h) && not (holds digit h && holds set_by h))
  step h = ap (λ t. tallied (set digits i new) h + worth i (holds t h)) read ∙ tallied_set digits i new h inside
      ∙ ap (λ t. tallied digits h + worth i t) (written h)

  pub counts_more : (both : ℕ) → ((h : ℕ) → holds both h ≡ holds set_by h && holds digit h) → (next : ℕ) → next ≡ suc i
      → IsCounting before halls digits i set_by → IsCounting before halls (set digits i new) next both
  counts_more both both_is next follows w h =
      let a = step h in
      let b = carries i (holds digit h) (holds set_by h) in
      let e = w h in
      let f : worth next (holds both h) ≡ 2 * worth i (holds digit h && holds set_by h) =
      ap (λ n. worth n (holds both h)) follows
      ∙ ap (worth (suc i)) (both_is h ∙ and_comm (holds set_by h) (holds digit h)) in
      omega (arith, a, b, e, f)

  pub discounts_more : (less : ℕ) → ((h : ℕ) → holds less h ≡ holds set_by h && not (holds digit h)) → (next : ℕ)
      → next ≡ suc i → IsDiscounting before halls digits i set_by
      → IsDiscounting before halls (set digits i new) next less
  discounts_more less less_is next follows w h =
      let a = step h in
      let b = borrows i (holds digit h) (holds set_by h) in
      let e = w h in
      let f : worth next (holds less h) ≡ 2 * worth i (holds set_by h && not (holds digit h)) =
      ap (λ n. worth n (holds less h)) follows ∙ ap (worth (suc i)) (less_is h) in
      omega (arith, a, b, e, f)

-- where nothing is carried any more, all is counted
pub counting_done : (before digits : List ℕ) (halls i carry h : ℕ) → holds carry h ≡ false
    → IsCounting before halls digits i carry → tallied digits h ≡ tallied before h + one_if (holds halls h)
counting_done before digits halls i carry h none w =
    let e = w h in
    let f : worth i (holds carry h) ≡ 0 = ap (worth i) none ∙ worth_none i in
    omega (arith, e, f)

pub discounting_done : (before digits : List ℕ) (halls i borrow h : ℕ) → holds borrow h ≡ false
    → IsDiscounting before halls digits i borrow → tallied digits h + one_if (holds halls h) ≡ tallied before h
discounting_done before digits halls i borrow h none w =
    let e = w h in
    let f : worth i (holds borrow h) ≡ 0 = ap (worth i) none ∙ worth_none i in
    omega (arith, e, f)

one_if_le : (b : Bool) → one_if b ≤ 1
one_if_le true = omega arith
one_if_le false = omega arith

-- a number is less than its digits can be
tallied_lt : (digits : List ℕ) (h : ℕ) → tallied digits h < worth (length digits) true
tallied_lt [] h = omega arith
tallied_lt (x ∷ xs) h = let e = tallied_lt xs h in let b = one_if_le (holds x h) in omega (arith, e, b)

worth_all : worth 13 true ≡ 8192
worth_all = refl

-- nothing is carried beyond the last digit of a number of candidates
pub carried_none : (before digits : List ℕ) (halls i carry h : ℕ) → i ≡ 13 → tallied before h ≤ 4096
    → IsCounting before halls digits i carry → holds carry h ≡ false
carried_none before digits halls i carry h last few w = elim (cases_Bool (holds carry h)) [
  | inl t ↦ absurd (
      let e = w h in
      let f : worth i (holds carry h) ≡ 8192 = ap (λ n. worth n (holds carry h)) last ∙ ap (worth 13) t ∙ worth_all in
      let b = one_if_le (holds halls h) in
      omega (arith, e, f, b, few))
  | inr f ↦ f
]

-- nothing is borrowed beyond the last digit from what was counted
pub borrowed_none : (before digits : List ℕ) (halls i borrow h : ℕ) → i ≡ 13 → length digits ≡ 13
    → (holds halls h ≡ true → 0 < tallied before h) → IsDiscounting before halls digits i borrow
    → holds borrow h ≡ false
borrowed_none before digits halls i borrow h last whole some w = elim (cases_Bool (holds borrow h)) [
  | inl t ↦ absurd (
      let e = w h in
      let f : worth i (holds borrow h) ≡ 8192 = ap (λ n. worth n (holds borrow h)) last ∙ ap (worth 13) t ∙ worth_all in
      let l : tallied digits h < 8192 =
      (let m = tallied_lt digits h in
      let s : worth (length digits) true ≡ 8192 = ap (λ n. worth n true) whole ∙ worth_all in omega (arith, m, s))
      in
      elim (cases_Bool (holds halls h)) [
        | inl u ↦ (let one : one_if (holds halls h) ≡ 1 = ap one_if u in let more = some u in
            omega (arith, e, f, l, one, more))
        | inr u ↦ (let none : one_if (holds halls h) ≡ 0 = ap one_if u in omega (arith, e, f, l, none))
      ])
  | inr f ↦ f
]

-- ---- the halls that are counted at all

-- the halls with a one among the first digits
abbrev pub IsCounted : List ℕ → ℕ → ℕ → Type 0
IsCounted digits i counted = (h : ℕ)
    → (holds counted h ≡ true) ↔ ((j : ℕ) × (j < i) × (holds (get_or digits j 0) h ≡ true))

pub counted_more : (digits : List ℕ) (i counted digit new : ℕ) → IsCounted digits i counted → digit ≡ get_or digits i 0
    → ((h : ℕ) → holds new h ≡ holds counted h || holds digit h) → IsCounted digits (i + 1) new
counted_more digits i counted digit new w read is h = (
  (λ t. elim (or_cases (holds counted h) (holds digit h) (sym (is h) ∙ t)) [
    | inl a ↦ (let d = (w h).0 a in (d.0, (let b : d.0 < i = d.1 in omega arith), d.2))
    | inr b ↦ (i, omega arith, ap (λ s. holds s h) (sym read) ∙ b)
  ]),
  (λ d. is h ∙ elim (cases_lt d.0 i) [
    | inl b ↦ or_left (holds counted h) (holds digit h) ((w h).1 (d.0, b, d.2))
    | inr g ↦ (let b : d.0 < i + 1 = d.1 in let e : d.0 ≡ i =
        omega arith in or_right (holds counted h) (holds digit h)
        (ap (λ s. holds s h) read ∙ ap (λ j. holds (get_or digits j 0) h) (sym e) ∙ d.2))
  ]),
)

some_one : (digits : List ℕ) (h j : ℕ) → j < length digits → holds (get_or digits j 0) h ≡ true → 0 < tallied digits h
some_one [] h j l t = absurd (omega arith)
some_one (x ∷ xs) h zero l t = let e : one_if (holds x h) ≡ 1 = ap one_if t in omega (arith, e)
some_one (x ∷ xs) h (suc j) l t = let e = some_one xs h j (omega arith) t in omega (arith, e)

which_one : (digits : List ℕ) (h : ℕ) → 0 < tallied digits h
    → (j : ℕ) × (j < length digits) × (holds (get_or digits j 0) h ≡ true)
which_one [] h l = absurd (omega arith)
which_one (x ∷ xs) h l = elim (cases_Bool (holds x h)) [
  | inl t ↦ (zero, omega arith, t)
  | inr f ↦ (let e : one_if (holds x h) ≡ 0 = ap one_if f in let r = which_one xs h (omega (arith, e, l)) in
      (suc r.0, (let b : r.0 < length xs = r.1 in omega (arith, b)), r.2))
]

pub counted_all : (digits : List ℕ) (i counted : ℕ) → length digits ≡ i → IsCounted digits i counted → (h : ℕ)
    → (holds counted h ≡ true) ↔ 0 < tallied digits h
counted_all digits i counted all w h = (
  (λ t. let d = (w h).0 t in some_one digits h d.0 (let b : d.0 < i = d.1 in omega (arith, all, b)) d.2),
  (λ l. let d = which_one digits h l in
      (w h).1 (d.0, (let b : d.0 < length digits = d.1 in omega (arith, all, b)), d.2)),
)

-- ---- both words

tally_low : (tally : Tally) (h : ℕ) → h < 128 → tally_of tally h ≡ tallied tally.low h
tally_low tally h l = ap (λ b. cond b (tallied tally.low h) (tallied tally.high (h - 128))) (lt-ltb h 128 l)

tally_high : (tally : Tally) (h : ℕ) → 128 ≤ h → tally_of tally h ≡ tallied tally.high (h - 128)
tally_high tally h g = ap (λ b. cond b (tallied tally.low h) (tallied tally.high (h - 128))) (le-ltb h 128 g)

pub none_tallied : (h : ℕ) → tally_of (record { low = replicate 13 0; high = replicate 13 0 }) h ≡ 0
none_tallied h = elim (cases_lt h 128) [
  | inl l ↦ tally_low (record { low = replicate 13 0; high = replicate 13 0 }) h l ∙ none 13 h
  | inr g ↦ tally_high (record { low = replicate 13 0; high = replicate 13 0 }) h g ∙ none 13 (h - 128)
]
  where
    none : (n h : ℕ) → tallied (replicate n 0) h ≡ 0
    none zero h = refl
    none (suc n) h = let e = none n h in let z : one_if (holds 0 h) ≡ 0 =
        ap one_if (holds_empty h) in omega (arith, e, z)

module _ (old new : Tally) (halls low high : ℕ) (within : low < 2 ^ 128) (is : halls ≡ high * 2 ^ 128 + low) where
  halls_low : (h : ℕ) → h < 128 → holds halls h ≡ holds low h
  halls_low h l = ap (λ s. holds s h) is ∙ in_low low high h l

  halls_high : (h : ℕ) → 128 ≤ h → holds halls h ≡ holds high (h - 128)
  halls_high h g = ap (λ s. holds s h) is ∙ in_high low high h within g

  pub tally_more : ((h : ℕ) → tally_of old h ≤ 4096)
      → ((h : ℕ) → tallied old.low h ≤ 4096 → tallied new.low h ≡ tallied old.low h + one_if (holds low h))
      → ((h : ℕ) → tallied old.high h ≤ 4096 → tallied new.high h ≡ tallied old.high h + one_if (holds high h))
      → (h : ℕ) → tally_of new h ≡ tally_of old h + one_if (holds halls h)
  tally_more room lows highs h = elim (cases_lt h 128) [
    | inl l ↦ (let e = tally_low old h l in
        tally_low new h l ∙ lows h (let r = room h in omega (arith, e, r))
        ∙ (λ i. sym e i + one_if (sym (halls_low h l) i)))
    | inr g ↦ (let e = tally_high old h g in
        tally_high new h g ∙ highs (h - 128) (let r = room h in omega (arith, e, r))
        ∙ (λ i. sym e i + one_if (sym (halls_high h g) i)))
  ]

  pub tally_less : ((h : ℕ) → holds halls h ≡ true → 0 < tally_of old h)
      → ((h : ℕ) → (holds low h ≡ true → 0 < tallied old.low h)
      → tallied new.low h + one_if (holds low h) ≡ tallied old.low h)
      → ((h : ℕ) → (holds high h ≡ true → 0 < tallied old.high h)
      → tallied new.high h + one_if (holds high h) ≡ tallied old.high h) → (h : ℕ)
      → tally_of new h + one_if (holds halls h) ≡ tally_of old h
  tally_less counted lows highs h = elim (cases_lt h 128) [
    | inl l ↦ (λ i. tally_low new h l i + one_if (halls_low h l i))
        ∙ lows h (λ t. let c = counted h (halls_low h l ∙ t) in let e = tally_low old h l in omega (arith, c, e))
        ∙ sym (tally_low old h l)
    | inr g ↦ (λ i. tally_high new h g i + one_if (halls_high h g i))
        ∙ highs (h - 128) (λ t. let c = counted h (halls_high h g ∙ t) in let e =
        tally_high old h g in omega (arith, c, e)) ∙ sym (tally_high old h g)
  ]

pub tally_counted : (tally : Tally) (low high : ℕ) → low < 2 ^ 128
    → ((h : ℕ) → (holds low h ≡ true) ↔ 0 < tallied tally.low h)
    → ((h : ℕ) → (holds high h ≡ true) ↔ 0 < tallied tally.high h)
    → (h : ℕ) → (holds (high * 2 ^ 128 + low) h ≡ true) ↔ 0 < tally_of tally h
tally_counted tally low high within lows highs h = elim (cases_lt h 128) [
  | inl l ↦ (let e = tally_low tally h l in (
    (λ t. let c = (lows h).0 (sym (in_low low high h l) ∙ t) in omega (arith, c, e)),
    (λ c. in_low low high h l ∙ (lows h).1 (omega (arith, c, e))),
  ))
  | inr g ↦ (let e = tally_high tally h g in (
    (λ t. let c = (highs (h - 128)).0 (sym (in_high low high h within g) ∙ t) in omega (arith, c, e)),
    (λ c. in_high low high h within g ∙ (highs (h - 128)).1 (omega (arith, c, e))),
  ))
]
