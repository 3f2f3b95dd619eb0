-- Fields that csv writes as they are.
use Rattle.std.proofs.Common.{◌≡◌, ◌<◌, ◌^◌, ◌+◌, ◌-◌, ◌*◌, ◌&&◌, ℕ, List, [], ◌∷◌, ◌++◌, Bool, true, false, codes}
use Rattle.std.proofs.Common.{fold, refl, arith, rules, append_assoc}
use Rattle.std.specs.List.{list_all}
use Rattle.std.specs.Fmt.{decimal}
use Rattle.std.proofs.lemmas.Fmt.{digits_decimal}
use Rattle.std.proofs.lemmas.Str.Parse.{IsNumeralModel, numerals_by_fold}
use Rattle.csv.specs.Writing.{default_writer, fields_text, is_blank, needs_byte, needs_quotes, row_text}
use Rattle.exam_types.specs.Codes.{is_code, is_hall_code, is_capital_or_digit, is_dashed}
use Rattle.exam_types.specs.Digits.{digits, digits_value, is_digit}
use Rattle.exam_types.specs.Numbers.{number_text}
use Rattle.exam_types.proofs.DigitFacts.{digits_are}

both : (a b : Bool) → (a && b) ≡ true → (a ≡ true) × (b ≡ true)
both true b e = (refl, e)
both false b e = cc e

-- what one test lets through, another does
pub all_pass : (p q : ℕ → Bool) → ((b : ℕ) → p b ≡ true → q b ≡ true) → (bytes : List ℕ) → list_all p bytes ≡ true
    → list_all q bytes ≡ true
all_pass p q one [] all = refl
all_pass p q one (b ∷ rest) all =
    let parts = both (p b) (list_all p rest) all in
    rw (one b parts.0, all_pass p q one rest parts.1) refl

bare_byte : (b : ℕ) → is_dashed b ≡ true → needs_byte default_writer b ≡ false
bare_byte b is = grind arith

-- a field of capitals, digits and dashes needs no quotes
pub bare : (field : List ℕ) → list_all is_dashed field ≡ true → needs_quotes default_writer field ≡ false
bare [] all = refl
bare (b ∷ rest) all =
    let parts = both (is_dashed b) (list_all is_dashed rest) all in
    rw (bare_byte b parts.0, bare rest parts.1) refl

capital_dashed : (b : ℕ) → is_capital_or_digit b ≡ true → is_dashed b ≡ true
capital_dashed b is = rw is refl

digit_dashed : (b : ℕ) → is_digit b ≡ true → is_dashed b ≡ true
digit_dashed b is = grind arith

-- a code has only bytes of its alphabet
pub all_allowed : (allowed : ℕ → Bool) (low high : ℕ) (code : List ℕ) → is_code allowed low high code ≡ true
    → list_all allowed code ≡ true
all_allowed allowed low high code is = (both _ (list_all allowed code) is).1

pub hall_dashed : (code : List ℕ) → is_hall_code code ≡ true → list_all is_dashed code ≡ true
hall_dashed code is =
    all_pass is_capital_or_digit is_dashed capital_dashed code (all_allowed is_capital_or_digit 1 8 code is)

pub number_dashed : (n : ℕ) → list_all is_dashed (number_text n) ≡ true
unfolding number_text
number_dashed n = all_pass is_digit is_dashed digit_dashed (digits 7 n) (digits_are 7 n)

-- digits as std's `decimal` counts them
own : IsNumeralModel (λ ds. list_all is_digit ds ≡ true) digits_value
own = numerals_by_fold _ (search rules) (λ n ds. fold (λ (m b : ℕ). m * 10 + (b - 48)) n ds) (search rules)

pub desk_dashed : (n : ℕ) → n < 2 ^ 64 → list_all is_dashed (decimal n) ≡ true
desk_dashed n small = all_pass is_digit is_dashed digit_dashed (decimal n) (digits_decimal own n small)

-- a record of five such fields is these, joined by commas
pub joined : (a b c d e : List ℕ) → needs_quotes default_writer a ≡ false → needs_quotes default_writer b ≡ false
    → needs_quotes default_writer c ≡ false
    → needs_quotes default_writer d ≡ false → needs_quotes default_writer e ≡ false
    → row_text default_writer (a ∷ b ∷ c ∷ d ∷ e ∷ [])
    ≡ a ++ codes "," ++ b ++ codes "," ++ c ++ codes "," ++ d ++ codes "," ++ e ++ codes "\n"
unfolding fields_text is_blank
joined a b c d e pa pb pc pd pe = rw (pa, pb, pc, pd, pe) (simp append_assoc)
