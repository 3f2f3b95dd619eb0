-- Days, times, feature sets and arrangements are ASCII.
use Rattle.std.proofs.Common.{◌≡◌, ◌++◌, ◌+◌, ◌^◌, ◌<◌, ◌%◌, ◌/◌, ℕ, zero, suc, Bool, true, false, List, [], ◌∷◌, refl}
use Rattle.std.proofs.Common.{sym, subst, arith, codes, nat_lt}
use Rattle.std.specs.Fmt.{decimal}
use Rattle.std.specs.List.{list_all}
use Rattle.std.specs.Str.{IsAscii}
use Rattle.std.proofs.lemmas.Bool.{and_parts}
use Rattle.std.proofs.lemmas.Bool.Decides.{nat_tests}
use Rattle.std.proofs.lemmas.Fmt.{IsAscii-decimal}
use Rattle.std.proofs.lemmas.Str.{IsAscii-append}
use Rattle.std.proofs.lemmas.Str.Ascii.{IsAscii-cons, IsAscii-nil}
use Rattle.exam_commands.specs.Words.{arrangement_text}
use Rattle.exam_rules.specs.declared.rows.Arrangement.{Arrangement}
use Rattle.exam_types.specs.Days.{date_text, day_text, month_day_of, month_of, year_of}
use Rattle.exam_types.specs.Digits.{digits}
use Rattle.exam_types.specs.Features.{Features, feature_names, features_text}
use Rattle.exam_types.specs.Numbers.{minute_text}
use Rattle.exam_types.proofs.DayTexts.{day_text-is}
use Rattle.exam_types.proofs.FeatureFacts.{of_all}

-- ---- bytes that all pass a test

of_passing : (p : ℕ → Bool) → ((b : ℕ) → p b ≡ true → b < 128) → (t : List ℕ) → list_all p t ≡ true → IsAscii t
of_passing p low [] all = IsAscii-nil
of_passing p low (b ∷ t) all = let parts =
    and_parts (p b) (list_all p t) all in IsAscii-cons b t (low b parts.0) (of_passing p low t parts.1)

literal : (t : List ℕ) → list_all (λ b. nat_lt b 128) t ≡ true → IsAscii t
literal t all = of_passing (λ b. nat_lt b 128) low t all
  where
    low : (b : ℕ) → nat_lt b 128 ≡ true → b < 128
    low b is = grind (arith, nat_tests)

-- ---- days and times

ascii_digits : (k n : ℕ) → IsAscii (digits k n)
ascii_digits zero n = IsAscii-nil
ascii_digits (suc k) n =
    IsAscii-append (digits k (n / 10)) ((48 + n % 10) ∷ []) (ascii_digits k (n / 10))
    (IsAscii-cons (48 + n % 10) [] (omega arith) IsAscii-nil)

ascii_date : (y m d : ℕ) → IsAscii (date_text y m d)
ascii_date y m d =
    IsAscii-append (digits 4 y) (45 ∷ digits 2 m ++ 45 ∷ digits 2 d) (ascii_digits 4 y)
    (IsAscii-cons 45 (digits 2 m ++ 45 ∷ digits 2 d) (omega arith)
    (IsAscii-append (digits 2 m) (45 ∷ digits 2 d) (ascii_digits 2 m)
    (IsAscii-cons 45 (digits 2 d) (omega arith) (ascii_digits 2 d))))

pub ascii_day : (n : ℕ) → IsAscii (day_text n)
ascii_day n = subst IsAscii (sym (day_text-is n)) (ascii_date (year_of n) (month_of n) (month_day_of n))

pub ascii_minute : (m : ℕ) → IsAscii (minute_text m)
unfolding minute_text
ascii_minute m =
    IsAscii-append (digits 2 (m / 60)) (58 ∷ digits 2 (m % 60)) (ascii_digits 2 (m / 60))
    (IsAscii-cons 58 (digits 2 (m % 60)) (omega arith) (ascii_digits 2 (m % 60)))

-- ---- feature sets

pub ascii_features : (f : Features) → IsAscii (features_text f)
ascii_features f = literal (features_text f)
    (of_all feature_names (λ set. list_all (λ b. nat_lt b 128) (features_text set)) refl f)

-- ---- what an appeal asks

pub ascii_arrangement : (asked : Arrangement) → asked.extra < 2 ^ 64 → IsAscii (arrangement_text asked)
ascii_arrangement asked small =
    IsAscii-append (features_text asked.needs) (32 ∷ decimal asked.extra) (ascii_features asked.needs)
    (IsAscii-cons 32 (decimal asked.extra) (omega arith) (IsAscii-decimal asked.extra small))
