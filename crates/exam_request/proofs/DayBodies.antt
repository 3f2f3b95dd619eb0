-- A day has no byte that JSON escapes, so its text is in the body as it is.
use Rattle.std.proofs.Common.{◌≡◌, ◌∙◌, ◌++◌, ◌+◌, ◌<◌, ◌%◌, ◌/◌, ℕ, zero, suc, List, [], ◌∷◌, refl, sym, ap, subst}
use Rattle.std.proofs.Common.{append_assoc, arith}
use Rattle.std.specs.Prelude.{codes}
use Rattle.std.specs.Fmt.{digits as decimal_digits}
use Rattle.std.specs.List.{flat_map}
use Rattle.std.proofs.lemmas.Grind.{flat_map-append}
use Rattle.exam_types.specs.Days.{date_text, day_text, month_day_of, month_of, year_of}
use Rattle.exam_types.specs.Digits.{digits}
use Rattle.exam_types.proofs.DayTexts.{day_text-is}
use Rattle.exam_request.specs.Answer.{closing_body}
use Rattle.json.specs.Print.{escape_byte}
use Rattle.std.proofs.lemmas.Bool.Decides.{nat_tests}

-- the bytes stay as they are
abbrev IsPlain : List ℕ → Type 0
IsPlain text = flat_map escape_byte text ≡ text

joined : (these those : List ℕ) → IsPlain these → IsPlain those → IsPlain (these ++ those)
joined these those a b =
    flat_map-append escape_byte these those ∙ (ap (λ x. x ++ flat_map escape_byte those) a ∙ ap (λ x. these ++ x) b)

one : (b : ℕ) → 34 < b → b < 92 → IsPlain (b ∷ [])
unfolding escape_byte
one b above below = ap (λ x. x ++ []) plain
  where
    plain : escape_byte b ≡ b ∷ []
    plain = grind (arith, nat_tests)

plain_digits : (k n : ℕ) → IsPlain (digits k n)
plain_digits zero n = refl
plain_digits (suc k) n =
    joined (digits k (n / 10)) ((48 + n % 10) ∷ []) (plain_digits k (n / 10))
    (one (48 + n % 10) (omega arith) (omega arith))

plain_date : (y m d : ℕ) → IsPlain (date_text y m d)
unfolding escape_byte
plain_date y m d =
    joined (digits 4 y) (45 ∷ digits 2 m ++ 45 ∷ digits 2 d) (plain_digits 4 y)
    (ap (λ x. 45 ∷ x) (joined (digits 2 m) (45 ∷ digits 2 d) (plain_digits 2 m) (ap (λ x. 45 ∷ x) (plain_digits 2 d))))

plain_day : (n : ℕ) → IsPlain (day_text n)
plain_day n = subst IsPlain (sym (day_text-is n)) (plain_date (year_of n) (month_of n) (month_day_of n))

pub closing : (day : ℕ) (none first second all text : List ℕ) → none ≡ []
    → first ≡ none ++ codes "{\"day\":\"" → second ≡ first ++ text
    → all ≡ second ++ codes "\",\"error\":13}" → text ≡ day_text day → all ≡ closing_body day
unfolding decimal_digits escape_byte
closing day none first second all text is_none is_first is_second is_all is =
    is_all ∙ (ap (λ x. x ++ codes "\",\"error\":13}") made ∙ ap (λ x. codes "{\"day\":\"" ++ x)
    (sym (append_assoc plain (34 ∷ []) (codes ",\"error\":13}"))))
  where
    plain : List ℕ
    plain = flat_map escape_byte (day_text day)

    made : second ≡ codes "{\"day\":\"" ++ plain
    made = is_second ∙ (ap (λ x. x ++ text)
        (is_first ∙ ap (λ x. x
        ++ codes "{\"day\":\"") is_none) ∙ ap (λ x. codes "{\"day\":\"" ++ x) (is ∙ sym (plain_day day)))
