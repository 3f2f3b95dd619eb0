-- The days from 2000-01-01 to 2199-12-31 by their numbers from 1970-01-01, and their texts.
use Rattle.std.specs.Prelude.{◌≡◌, ℕ, zero, suc, ◌+◌, ◌-◌, ◌%◌, ◌==◌, ◌&&◌, ◌||◌, ◌≤◌, nat_lt, not, Bool}
use Rattle.std.specs.Prelude.{List, ◌∷◌, ◌++◌, find, unwrap_or, if◌then◌else◌, refl, codes, nat_le, take}
use Rattle.std.specs.Prelude.{drop, slice_range, bytes_eq, Option, Some, None}
use Rattle.std.specs.List.{range_with_len}
use Rattle.std.specs.Option.{option_and_then}
use Rattle.exam_types.specs.Digits.{digits, digits_value}

-- 2000-01-01
abbrev pub first_day : ℕ
first_day = 10957

-- 2199-12-31
abbrev pub last_day : ℕ
last_day = 84005

-- 2000-01-11, the first day that has ten days before it
abbrev pub first_session_day : ℕ
first_session_day = 10967

abbrev pub IsDay : ℕ → Type 0
IsDay n = (first_day ≤ n) × (n ≤ last_day)

abbrev pub IsSessionDay : ℕ → Type 0
IsSessionDay n = (first_session_day ≤ n) × (n ≤ last_day)

-- every fourth year is a leap year, but of the full centuries only every fourth
abbrev pub is_leap : ℕ → Bool
is_leap y = (y % 4 == 0) && (not (y % 100 == 0) || (y % 400 == 0))

abbrev pub year_days : ℕ → ℕ
year_days y = if is_leap y then 366 else 365

-- April, June, September and November have thirty days
abbrev pub month_days : ℕ → ℕ → ℕ
month_days y m =
    if m == 2 then (if is_leap y then 29 else 28)
    else (if (m == 4) || (m == 6) || (m == 9) || (m == 11) then 30 else 31)

-- the days of the first k years from 2000 on
unfoldable pub days_of_years : ℕ → ℕ
days_of_years zero = 0
days_of_years (suc k) = days_of_years k + year_days (2000 + k)

-- the days of the first m months of a year
unfoldable pub days_of_months : ℕ → ℕ → ℕ
days_of_months y zero = 0
days_of_months y (suc m) = days_of_months y m + month_days y (suc m)

-- the number of the first day of a year
abbrev pub year_start : ℕ → ℕ
year_start y = first_day + days_of_years (y - 2000)

-- the number of the first day of a month
abbrev pub month_start : ℕ → ℕ → ℕ
month_start y m = year_start y + days_of_months y (m - 1)

-- the year of a day: the first whose next year has not begun
unfoldable pub year_of : ℕ → ℕ
year_of n = unwrap_or (find (λ y. nat_lt n (year_start (y + 1))) (range_with_len 2000 199)) 2199

-- its month: the first in that year whose next month has not begun
unfoldable pub month_of : ℕ → ℕ
month_of n = unwrap_or (find (λ m. nat_lt n (month_start (year_of n) (m + 1))) (range_with_len 1 11)) 12

-- its day in that month, from 1
unfoldable pub month_day_of : ℕ → ℕ
month_day_of n = n - month_start (year_of n) (month_of n) + 1

-- YYYY-MM-DD
abbrev pub date_text : ℕ → ℕ → ℕ → List ℕ
date_text y m d = digits 4 y ++ 45 ∷ digits 2 m ++ 45 ∷ digits 2 d

-- the civil date of a day
unfoldable pub day_text : ℕ → List ℕ
day_text n = date_text (year_of n) (month_of n) (month_day_of n)

abbrev pub is_day : ℕ → Bool
is_day n = nat_le first_day n && nat_le n last_day

-- the number that the digits of a text make
abbrev pub spelled_day : List ℕ → ℕ
spelled_day bytes =
    month_start (digits_value (take 4 bytes)) (digits_value (slice_range bytes 5 7))
    + digits_value (drop 8 bytes) - 1

-- the day that a text names: the day that its digits spell, if the text of that day is this one
unfoldable pub day_of : List ℕ → Option ℕ
day_of bytes =
    let n = spelled_day bytes in if is_day n && bytes_eq (day_text n) bytes then Some n else None

-- the session's day that a text names
abbrev pub session_day_in : List ℕ → Option ℕ
session_day_in bytes =
    option_and_then (λ n. if nat_le first_session_day n then Some n else None) (day_of bytes)

june_2027 : day_text 20970 ≡ codes "2027-06-01"
unfolding day_text year_of month_of month_day_of days_of_years days_of_months
june_2027 = refl

first_day_text : day_text first_day ≡ codes "2000-01-01"
unfolding day_text year_of month_of month_day_of days_of_years days_of_months
first_day_text = refl

leap_day : day_text 46080 ≡ codes "2096-02-29"
unfolding day_text year_of month_of month_day_of days_of_years days_of_months
leap_day = refl

no_leap_day : day_text 47541 ≡ codes "2100-03-01"
unfolding day_text year_of month_of month_day_of days_of_years days_of_months
no_leap_day = refl

last_day_text : day_text last_day ≡ codes "2199-12-31"
unfolding day_text year_of month_of month_day_of days_of_years days_of_months
last_day_text = refl

day_of_june : day_of (codes "2027-06-01") ≡ Some 20970
unfolding day_of day_text year_of month_of month_day_of days_of_years days_of_months
day_of_june = refl

no_february_30 : day_of (codes "2027-02-30") ≡ None
unfolding day_of day_text year_of month_of month_day_of days_of_years days_of_months
no_february_30 = refl

no_leap_day_in_2100 : day_of (codes "2100-02-29") ≡ None
unfolding day_of day_text year_of month_of month_day_of days_of_years days_of_months
no_leap_day_in_2100 = refl

two_digits_each : day_of (codes "2027-6-1") ≡ None
unfolding day_of day_text year_of month_of month_day_of days_of_years days_of_months
two_digits_each = refl

last_day_read : day_of (codes "2199-12-31") ≡ Some last_day
unfolding day_of day_text year_of month_of month_day_of days_of_years days_of_months
last_day_read = refl

no_day_before_2000 : day_of (codes "1999-12-31") ≡ None
unfolding day_of day_text year_of month_of month_day_of days_of_years days_of_months
no_day_before_2000 = refl

first_session_day_read : session_day_in (codes "2000-01-11") ≡ Some first_session_day
unfolding day_of day_text year_of month_of month_day_of days_of_years days_of_months
first_session_day_read = refl

no_session_before : session_day_in (codes "2000-01-10") ≡ None
unfolding day_of day_text year_of month_of month_day_of days_of_years days_of_months
no_session_before = refl
