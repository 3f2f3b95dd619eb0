-- What reading numerals gives.
use Rattle.std.proofs.Common.{◌≡◌, ◌∙◌, ◌<◌, ◌≤◌, ◌^◌, ℕ, List, length, Some, None, Option, true, false, Bool, cond}
use Rattle.std.proofs.Common.{refl, sym, ap, arith, rules, nat_eq, fold, ◌*◌, ◌+◌, ◌-◌, ◌/◌, ◌%◌, [], ◌∷◌, ◌++◌}
use Rattle.std.specs.List.{list_all}
use Rattle.std.specs.Option.{IfSome}
use Rattle.std.specs.Cmp.Lexicographic.{pointwise}
use Rattle.std.proofs.lemmas.Bool.{eq-eqb, false≢true}
use Rattle.std.proofs.Math.Nat.{pow-le-pow_right}
use Rattle.std.specs.Fmt.{decimal}
use Rattle.std.proofs.lemmas.Str.Parse.{IsNumeralModel, numerals_by_fold}
use Rattle.std.proofs.lemmas.Fmt.{digits_decimal, digits_value-decimal, length-decimal-le, decimal_digit, decimal_step}
use Rattle.std.proofs.lemmas.List.{length-append}
use Rattle.exam_types.specs.Digits.{digits, digits_value, is_digit, number_of}
use Rattle.exam_types.proofs.DigitFacts.{value-digits, digits-value, digits_are}

some_is : (b : Bool) (m n : ℕ) → cond b (Some m) None ≡ Some n → (b ≡ true) × (m ≡ n)
some_is true m n e = (refl, cc)
some_is false m n e = cc

-- the k digits of a text, if it has them
pub reads_digits : (k n : ℕ) (bytes : List ℕ) → length bytes ≡ k → number_of bytes ≡ Some n → digits k n ≡ bytes
reads_digits k n bytes len read =
    let is = some_is (list_all is_digit bytes) (digits_value bytes) n read in
    rw (← len, ← is.1) (digits-value bytes is.0)

pub digits_read : (k n : ℕ) (bytes : List ℕ) → n < 10 ^ k → digits k n ≡ bytes → number_of bytes ≡ Some n
digits_read k n bytes small text =
    rw (← text, digits_are k n, value-digits k n small) refl

-- digits as std's `decimal` counts them
own : IsNumeralModel (λ ds. list_all is_digit ds ≡ true) digits_value
own = numerals_by_fold _ (search rules) (λ n ds. fold (λ (m b : ℕ). m * 10 + (b - 48)) n ds) (search rules)

pub decimal_read : (n : ℕ) (bytes : List ℕ) → n < 10000 → decimal n ≡ bytes → number_of bytes ≡ Some n
decimal_read n bytes small text =
    let all : list_all is_digit (decimal n) ≡ true = digits_decimal own n (omega arith) in
    let value : digits_value (decimal n) ≡ n = digits_value-decimal own n (omega arith) in
    rw (← text, all, value) refl

pub decimal_short : (n : ℕ) → n < 10000 → length (decimal n) ≤ 4
decimal_short n small = length-decimal-le 4 n (omega arith) small (omega arith)

pub decimal_one : (n : ℕ) → n < 10 → decimal n ≡ (48 + n) ∷ []
decimal_one n small = decimal_digit n small

pub decimal_more : (n : ℕ) → 10 ≤ n → n < 2 ^ 32 → decimal n ≡ decimal (n / 10) ++ (48 + n % 10) ∷ []
decimal_more n long fits = decimal_step n long (omega arith)

pub decimal_length : (n : ℕ) → 10 ≤ n → n < 2 ^ 32 → length (decimal n) ≡ length (decimal (n / 10)) + 1
decimal_length n long fits =
    ap length (decimal_more n long fits) ∙ length-append (decimal (n / 10)) ((48 + n % 10) ∷ [])

pub too_long : (n : ℕ) (bytes : List ℕ) → 4 < length bytes → n < 10000 × (decimal n ≡ bytes) → ⊥
too_long n bytes long is =
    let short : length (decimal n) ≤ 4 = decimal_short n is.0 in
    let same : length (decimal n) ≡ length bytes = ap length is.1 in
    omega arith

pub below_power : (n : ℕ) (bytes : List ℕ) (read : Option ℕ) → IfSome read (λ m. m < 10 ^ length bytes) → read ≡ Some n
    → length bytes ≡ 7 → n < 10000000
below_power n bytes (Some m) bound is len =
    let same : m ≡ n = cc in
    let power : 10 ^ length bytes ≡ 10 ^ 7 = ap (λ k. 10 ^ k) len in
    omega arith
below_power n bytes None bound is len = cc is

abbrev pub Reads : List ℕ → Option ℕ → ℕ → Type 0
Reads bytes read n =
    (read ≡ Some n → (n < 10000) × (decimal n ≡ bytes)) × ((n < 10000) × (decimal n ≡ bytes) → read ≡ Some n)

not_none : {X : Type 0} (read : Option ℕ) (n : ℕ) → read ≡ None → read ≡ Some n → X
not_none read n none some = cc

-- a reader that finds no number answers none
nothing_to_read : (bytes : List ℕ) (read : Option ℕ) (n : ℕ) → read ≡ None → ((n < 10000) × (decimal n ≡ bytes) → ⊥)
    → Reads bytes read n
nothing_to_read bytes read n none never = (not_none read n none, λ is. absurd (never is))

pub reads_long : (bytes : List ℕ) (n : ℕ) → 4 < length bytes → Reads bytes None n
reads_long bytes n long = nothing_to_read bytes None n refl (too_long n bytes long)

pub reads_others : (bytes : List ℕ) (read : Option ℕ) (n : ℕ) → read ≡ None → number_of bytes ≡ None
    → Reads bytes read n
reads_others bytes read n none others =
    nothing_to_read bytes read n none (λ is. not_none (number_of bytes) n others (decimal_read n bytes is.0 is.1))

pub reads_padded : (bytes : List ℕ) (m n : ℕ) → number_of bytes ≡ Some m → (decimal m ≡ bytes → ⊥) → Reads bytes None n
reads_padded bytes m n number padded =
    nothing_to_read bytes None n refl (λ is.
    let same : n ≡ m = same_number (number_of bytes) n m (decimal_read n bytes is.0 is.1) number in
    padded (rw (← same) is.1))
  where
    same_number : (read : Option ℕ) (n m : ℕ) → read ≡ Some n → read ≡ Some m → n ≡ m
    same_number read n m a b = cc

pub reads_decimal : (bytes : List ℕ) (m n : ℕ) → number_of bytes ≡ Some m → m < 10000 → decimal m ≡ bytes
    → Reads bytes (Some m) n
reads_decimal bytes m n number small text =
    ((λ some. as_read m n bytes some small text), λ is. sym number ∙ decimal_read n bytes is.0 is.1)
  where
    as_read : (m n : ℕ) (bytes : List ℕ) → Some m ≡ Some n → m < 10000 → decimal m ≡ bytes
        → (n < 10000) × (decimal n ≡ bytes)
    as_read m n bytes some small text = let same : m ≡ n = cc in rw (← same) (small, text)

same_text : (a : List ℕ) → pointwise nat_eq a a ≡ true
same_text [] = refl
same_text (b ∷ bs) = let first : nat_eq b b ≡ true = eq-eqb b b refl in let rest = same_text bs in grind arith

pub other_text : (a b : List ℕ) → false ≡ pointwise nat_eq a b → a ≡ b → ⊥
other_text a b differs same =
    let e : pointwise nat_eq b b ≡ true = same_text b in
    let f : false ≡ pointwise nat_eq b b = rw same at differs in
    false≢true (f ∙ e)

pub short_power : (n k : ℕ) → n < 10 ^ k → k ≤ 4 → n < 10000
short_power n k small short =
    let most : 10 ^ k ≤ 10 ^ 4 = pow-le-pow_right {n = 10} (omega arith) {i = k} {j = 4} short in
    omega arith
