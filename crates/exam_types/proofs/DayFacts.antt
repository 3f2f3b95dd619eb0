-- The civil date of a day's number, and its number by `jiff`.
use Rattle.std.proofs.Common.{◌≡◌, ◌∙◌, ◌<◌, ◌≤◌, ◌+◌, ◌-◌, inl, inr, ℕ, zero, suc, pos, Bool, true, false, cond}
use Rattle.std.proofs.Common.{Option, Some, nat_lt, refl, sym, ap, arith}
use Rattle.std.specs.Prelude.{find, unwrap_or}
use Rattle.std.proofs.lemmas.Bool.{cases_order}
use Rattle.std.specs.List.{range_with_len}
use Rattle.jiff.specs.Types.{Date}
use Rattle.jiff.specs.Words.{epoch_day}
use Rattle.jiff_core.specs.Calendar.{IsCivilDate, IsYear, day_count, days_from_civil}
use Rattle.jiff_core.specs.Calendar.{days_of_months as jiff_days_of_months}
use Rattle.jiff_core.proofs.SignedLemmas.{signed_arith}
use Rattle.jiff_core.proofs.MarchLemmas.{day_count-early}
use Rattle.jiff_core.proofs.CalendarLemmas.{day_count-day_of_year, day_count-next_year, days_from_civil-day_count}
use Rattle.jiff_core.proofs.CalendarLemmas.{days_of_months_all}
use Rattle.jiff_core.proofs.DateLemmas.{epoch_day_injective}
use Rattle.exam_types.specs.Days.{IsDay, days_of_months, days_of_years, month_day_of, month_days, month_of, month_start}
use Rattle.exam_types.specs.Days.{year_days, year_of, year_start}

-- v is the first number from a on that passes the test, and e at the latest
abbrev IsFirst : (ℕ → Bool) → ℕ → ℕ → ℕ → Type 0
IsFirst p a e v = (p v ≡ true) × (a ≤ v) × (v ≤ e) × (a < v → p (v - 1) ≡ false)

first_by_test : (p : ℕ → Bool) (a e : ℕ) (rest : Option ℕ) (b : Bool) → p a ≡ b → a ≤ e
    → IsFirst p (a + 1) e (unwrap_or rest e) → IsFirst p a e (unwrap_or (cond b (Some a) rest) e)
first_by_test p a e rest true at le h = (at, omega arith, le, λ lt. absurd (omega arith))
first_by_test p a e rest false at le h = (
  h.0,
  omega arith,
  h.2,
  λ lt. elim (cases_order (a + 1) (unwrap_or rest e)) [
    | inl same ↦ let back : unwrap_or rest e - 1 ≡ a = omega arith in rw back at
    | inr (inl more) ↦ h.3 more
    | inr (inr less) ↦ absurd (omega arith)
  ],
)

first_in_range : (p : ℕ → Bool) (a k e : ℕ) → e ≡ a + k → p e ≡ true
    → IsFirst p a e (unwrap_or (find p (range_with_len a k)) e)
first_in_range p a zero e same last = (last, omega arith, omega arith, λ lt. absurd (omega arith))
first_in_range p a (suc k) e same last =
    first_by_test p a e (find p (range_with_len (a + 1) k)) (p a) refl (omega arith)
    (first_in_range p (a + 1) k e (omega arith) last)

under : (a b : ℕ) → nat_lt a b ≡ true → a < b
under a b h = grind arith

not_under : (a b : ℕ) → nat_lt a b ≡ false → b ≤ a
not_under a b h = grind arith

under_true : (a b : ℕ) → a < b → nat_lt a b ≡ true
under_true a b h = grind arith

first_year : year_start 2000 ≡ 10957
unfolding days_of_years
first_year = refl

year_after_last : year_start 2200 ≡ 84006
unfolding days_of_years
year_after_last = refl

days_of_years-suc : (k : ℕ) → days_of_years (suc k) ≡ days_of_years k + year_days (2000 + k)
unfolding days_of_years
days_of_years-suc k = refl

next_year : (y : ℕ) → 2000 ≤ y → year_start (y + 1) ≡ year_start y + year_days y
next_year y from =
    let k = y - 2000 in
    let is : 2000 + k ≡ y = omega arith in
    let next : y + 1 - 2000 ≡ suc k = omega arith in
    let step : days_of_years (suc k) ≡ days_of_years k + year_days y = rw is at (days_of_years-suc k) in
    rw next (omega arith)

days_of_months-zero : (y : ℕ) → days_of_months y 0 ≡ 0
unfolding days_of_months
days_of_months-zero y = refl

days_of_months-suc : (y m : ℕ) → days_of_months y (suc m) ≡ days_of_months y m + month_days y (suc m)
unfolding days_of_months
days_of_months-suc y m = refl

next_month : (y m : ℕ) → 1 ≤ m → month_start y (m + 1) ≡ month_start y m + month_days y m
next_month y m from =
    let is : suc (m - 1) ≡ m = omega arith in
    let next : m + 1 - 1 ≡ m = omega arith in
    let step : days_of_months y m ≡ days_of_months y (m - 1) + month_days y m =
    rw is at (days_of_months-suc y (m - 1)) in
    rw next (omega arith)

-- `jiff` counts the same days
jiff_months : (y m : ℕ) → jiff_days_of_months (pos y) m ≡ days_of_months y m
unfolding jiff_days_of_months days_of_months
jiff_months y zero = refl
jiff_months y (suc m) = ap (λ n. n + month_days y (suc m)) (jiff_months y m)

year_months : (y : ℕ) → days_of_months y 12 ≡ year_days y
year_months y = sym (jiff_months y 12) ∙ days_of_months_all (pos y)

count_after : (k : ℕ) → day_count (pos (2000 + k)) 1 1 ≡ days_of_years k + 4382910
count_after zero = unfold days_of_years in
    day_count-early (pos 2000) 11999 1 1 refl (omega arith) (omega arith) (omega arith)
count_after (suc k) =
    let next : day_count (pos (2000 + suc k)) 1 1 ≡ day_count (pos (2000 + k)) 1 1 + year_days (2000 + k) =
    day_count-next_year (pos (2000 + k)) (pos (2000 + suc k)) (omega (arith, signed_arith))
    (omega (arith, signed_arith)) in
    omega (arith, count_after k, days_of_years-suc k)

year_count : (y : ℕ) → 2000 ≤ y → day_count (pos y) 1 1 ≡ year_start y + 4371953
year_count y from =
    let is : 2000 + (y - 2000) ≡ y = omega arith in
    let count = rw is at (count_after (y - 2000)) in
    omega arith

pub civil_number : (y m d : ℕ) → 2000 ≤ y → 1 ≤ d → days_from_civil (pos y) m d ≡ pos (month_start y m + (d - 1))
civil_number y m d from first =
    let days = days_from_civil-day_count (pos y) m d in
    let count = day_count-day_of_year (pos y) m d first in
    let year = year_count y from in
    let months = jiff_months y (m - 1) in
    omega (arith, signed_arith)

year_first : (n : ℕ) → IsDay n → IsFirst (λ y. nat_lt n (year_start (y + 1))) 2000 2199 (year_of n)
unfolding year_of
year_first n is = first_in_range (λ y. nat_lt n (year_start (y + 1))) 2000 199 2199 refl
    (under_true n (year_start 2200) (omega (arith, year_after_last)))

abbrev IsYearOf : ℕ → ℕ → Type 0
IsYearOf n y = (2000 ≤ y) × (y ≤ 2199) × (year_start y ≤ n) × (n < year_start y + year_days y)

year_by_first : (n y : ℕ) → IsDay n → IsFirst (λ y. nat_lt n (year_start (y + 1))) 2000 2199 y → IsYearOf n y
year_by_first n y is h =
    let before : n < year_start (y + 1) = under n _ h.0 in
    let start : year_start y ≤ n = elim (cases_order 2000 y) [
      | inl same ↦ rw (← same) (omega (arith, first_year))
      | inr (inl more) ↦ let back : y - 1 + 1 ≡ y = omega arith in rw back at (not_under n _ (h.3 more))
      | inr (inr less) ↦ absurd (omega arith)
    ] in
    (h.1, h.2, start, omega (arith, next_year y h.1))

pub year_is : (n : ℕ) → IsDay n → IsYearOf n (year_of n)
year_is n is = year_by_first n (year_of n) is (year_first n is)

month_first : (n : ℕ) → IsDay n → IsFirst (λ m. nat_lt n (month_start (year_of n) (m + 1))) 1 12 (month_of n)
unfolding month_of
month_first n is =
    let year = year_is n is in
    first_in_range (λ m. nat_lt n (month_start (year_of n) (m + 1))) 1 11 12 refl
    (under_true n (month_start (year_of n) 13) (omega (arith, year_months (year_of n))))

abbrev IsMonthOf : ℕ → ℕ → ℕ → Type 0
IsMonthOf n y m = (1 ≤ m) × (m ≤ 12) × (month_start y m ≤ n) × (n < month_start y m + month_days y m)

month_by_first : (n y m : ℕ) → year_start y ≤ n → IsFirst (λ m. nat_lt n (month_start y (m + 1))) 1 12 m
    → IsMonthOf n y m
month_by_first n y m from h =
    let before : n < month_start y (m + 1) = under n _ h.0 in
    let start : month_start y m ≤ n = elim (cases_order 1 m) [
      | inl same ↦ rw (← same) (omega (arith, days_of_months-zero y))
      | inr (inl more) ↦ let back : m - 1 + 1 ≡ m = omega arith in rw back at (not_under n _ (h.3 more))
      | inr (inr less) ↦ absurd (omega arith)
    ] in
    (h.1, h.2, start, omega (arith, next_month y m h.1))

pub month_is : (n : ℕ) → IsDay n → IsMonthOf n (year_of n) (month_of n)
month_is n is = let year = year_is n is in month_by_first n (year_of n) (month_of n) year.2 (month_first n is)

pub month_day_is : (n : ℕ) → month_day_of n ≡ n - month_start (year_of n) (month_of n) + 1
unfolding month_day_of
month_day_is n = refl

-- the civil date of a day is one, with its number
pub civil_of : (n : ℕ) → IsDay n → IsCivilDate (pos (year_of n)) (month_of n) (month_day_of n)
civil_of n is =
    let year = year_is n is in
    let month = month_is n is in
    let day = month_day_is n in
    let in_year : IsYear (pos (year_of n)) = omega (arith, signed_arith) in
    let last : month_day_of n ≤ month_days (year_of n) (month_of n) = omega arith in
    (in_year, (month.0, month.1), (omega arith, last))

pub number_of_civil : (n : ℕ) → IsDay n → days_from_civil (pos (year_of n)) (month_of n) (month_day_of n) ≡ pos n
number_of_civil n is =
    let year = year_is n is in
    let month = month_is n is in
    let day = month_day_is n in
    let number = civil_number (year_of n) (month_of n) (month_day_of n) year.0 (omega arith) in
    let same : month_start (year_of n) (month_of n) + (month_day_of n - 1) ≡ n = omega arith in
    rw same at number

date_of : (n : ℕ) → IsDay n → Date
date_of n is =
    let civil = civil_of n is in
    record {
      year = pos (year_of n);
      month = month_of n;
      day = month_day_of n;
      year_in = civil.0;
      month_in = civil.1;
      day_in = civil.2;
    }

-- a date of `jiff` with this number is the civil date of the day
pub date_parts : (date : Date) (n : ℕ) → IsDay n → epoch_day date ≡ pos n
    → (date.year ≡ pos (year_of n)) × (date.month ≡ month_of n) × (date.day ≡ month_day_of n)
unfolding date_of
date_parts date n is number = epoch_day_injective date (date_of n is) (number ∙ sym (number_of_civil n is))
