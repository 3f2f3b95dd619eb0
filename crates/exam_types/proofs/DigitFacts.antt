-- Digits and the numbers that they spell.
use Rattle.std.proofs.Common.{◌≡◌, ◌∙◌, ◌<◌, ◌≤◌, ◌+◌, ◌-◌, ◌*◌, ◌/◌, ◌%◌, ◌^◌, ℕ, zero, suc, List, [], ◌∷◌, ◌++◌, true}
use Rattle.std.proofs.Common.{length, fold, refl, sym, ap, arith, append_assoc, add-zero, append-nil, zero-add}
use Rattle.std.specs.List.{list_all}
use Rattle.std.proofs.lemmas.List.Sums.{fold-append}
use Rattle.std.proofs.lemmas.List.Folds.{list_all-append}
use Rattle.exam_types.specs.Digits.{digits, digits_value, is_digit}

-- a front, and the digit behind it
value-snoc : (front : List ℕ) (b : ℕ) → digits_value (front ++ b ∷ []) ≡ digits_value front * 10 + (b - 48)
value-snoc front b = fold-append (λ (n b : ℕ). n * 10 + (b - 48)) 0 front (b ∷ [])

digit_is : (d : ℕ) → d < 10 → is_digit (48 + d) ≡ true
digit_is d small = grind arith

pub digits_are : (k n : ℕ) → list_all is_digit (digits k n) ≡ true
digits_are zero n = refl
digits_are (suc k) n =
    let front = digits_are k (n / 10) in
    let last : is_digit (48 + n % 10) ≡ true = digit_is (n % 10) (omega arith) in
    list_all-append is_digit (digits k (n / 10)) ((48 + n % 10) ∷ []) ∙ rw (front, last) refl

-- the digits of a number spell it
pub value-digits : (k n : ℕ) → n < 10 ^ k → digits_value (digits k n) ≡ n
value-digits zero n small = omega arith
value-digits (suc k) n small =
    let front : digits_value (digits k (n / 10)) ≡ n / 10 = value-digits k (n / 10) (omega arith) in
    value-snoc (digits k (n / 10)) (48 + n % 10) ∙ rw front (omega arith)

digit_back : (n b : ℕ) → is_digit b ≡ true → ((n * 10 + (b - 48)) / 10 ≡ n) × (48 + (n * 10 + (b - 48)) % 10 ≡ b)
digit_back n b is =
    let range : (48 ≤ b) × (b ≤ 57) = (grind arith, grind arith) in
    (omega arith, omega arith)

first_of : (b : ℕ) (bs : List ℕ) → list_all is_digit (b ∷ bs) ≡ true → is_digit b ≡ true
first_of b bs all = grind arith

rest_of : (b : ℕ) (bs : List ℕ) → list_all is_digit (b ∷ bs) ≡ true → list_all is_digit bs ≡ true
rest_of b bs all = grind arith

digits-after : (k n : ℕ) (bs : List ℕ) → list_all is_digit bs ≡ true
    → digits (k + length bs) (fold (λ (m b : ℕ). m * 10 + (b - 48)) n bs) ≡ digits k n ++ bs
digits-after k n [] all = rw (add-zero) (sym (append-nil (digits k n)))
digits-after k n (b ∷ bs) all =
    let back = digit_back n b (first_of b bs all) in
    let more : digits (suc k + length bs) (fold (λ (m b : ℕ). m * 10 + (b - 48)) (n * 10 + (b - 48)) bs)
    ≡ digits (suc k) (n * 10 + (b - 48)) ++ bs
    = digits-after (suc k) (n * 10 + (b - 48)) bs (rest_of b bs all) in
    let same : k + length (b ∷ bs) ≡ suc k + length bs = omega arith in
    rw same (more ∙ rw (back.0, back.1) (append_assoc (digits k n) (b ∷ []) bs))

-- what some digits spell has these digits
pub digits-value : (bytes : List ℕ) → list_all is_digit bytes ≡ true
    → digits (length bytes) (digits_value bytes) ≡ bytes
digits-value bytes all =
    ap (λ k. digits k (digits_value bytes)) (sym (zero-add (length bytes))) ∙ digits-after 0 0 bytes all
