-- A day's text, read and written.
use Rattle.std.proofs.Common.{◌&&◌, to_z, of_z, unsigned_abs, ◌≡◌, ◌↔◌, ◌∙◌, ◌<◌, ◌≤◌, ◌+◌, ◌-◌, ◌^◌, ◌++◌, ℕ, ℤ, pos}
use Rattle.std.proofs.Common.{neg_ℤ, ◌+ℤ◌, ◌-ℤ◌, List, [], ◌∷◌, Bool, true, false, Option, Some, None, nat_le, length}
use Rattle.std.proofs.Common.{get_or, take, drop, refl, sym, ap, arith}
use Rattle.std.specs.Prelude.{bytes_eq, if◌then◌else◌, Result, Ok, Err, IsOk, IfOk}
use Rattle.std.specs.List.{list_all}
use Rattle.std.specs.Result.{result_ok}
use Rattle.jiff.specs.Types.{Date, Day, Span}
use Rattle.jiff.specs.Words.{CanAddToDate, IsDate, IsEpochDay, IsOnly, IsYmd, date_add, epoch_day}
use Rattle.jiff.proofs.SpanFacts.{can_add-days, date_add-days, signed_arith}
use Rattle.jiff_core.proofs.SignedLemmas.{back_small}
use mir.Val.{hbits}
use Rattle.std.specs.Int.{Width}
use Rattle.exam_types.specs.Days.{IsDay, date_text, day_of, day_text, is_day, month_day_of, month_days, month_of}
use Rattle.exam_types.specs.Days.{month_start, spelled_day, year_of}
use Rattle.exam_types.specs.Digits.{digits, digits_value, is_digit, number_of}
use Rattle.exam_types.proofs.DayFacts.{civil_of, date_parts, month_day_is, month_is, number_of_civil, year_is}
use Rattle.std.proofs.lemmas.Slice.Eq.{bytes_eq-Decides}
use Rattle.exam_types.proofs.DigitFacts.{digits-value, value-digits}

month_short : (y m : ℕ) → month_days y m ≤ 31
month_short y m = grind arith

pub day_text-is : (n : ℕ) → day_text n ≡ date_text (year_of n) (month_of n) (month_day_of n)
unfolding day_text
day_text-is n = refl

pub parts_small : (n : ℕ) → IsDay n → (year_of n < 10000) × (month_of n < 100) × (month_day_of n < 100)
parts_small n is =
    let year = year_is n is in
    let month = month_is n is in
    let civil = civil_of n is in
    let last : month_day_of n ≤ month_days (year_of n) (month_of n) = civil.2.1 in
    let short = month_short (year_of n) (month_of n) in
    (omega arith, omega arith, omega arith)

spelled : (b : Bool) (n v : ℕ) → (if b then Some v else None) ≡ Some n → (b ≡ true) × (v ≡ n)
spelled true n v e = (refl, cc)
spelled false n v e = cc e

pub digits-number_of : (bytes : List ℕ) (n : ℕ) → number_of bytes ≡ Some n → digits (length bytes) n ≡ bytes
digits-number_of bytes n e =
    let read = spelled (list_all is_digit bytes) n (digits_value bytes) e in
    let back = digits-value bytes read.0 in
    rw read.1 at back

-- a small number that `jiff` has as a signed one
pub plain : (w : Width) (z : ℤ) (n : ℕ) → z ≡ pos n → n < 2 ^ hbits w → unsigned_abs (to_z w (of_z w z)) ≡ n
plain w z n e small = rw e (ap unsigned_abs (back_small w (pos n) small))

-- a text that is written part by part
pub written : (n y m d : ℕ) (none year to_month month to_day day : List ℕ) → y ≡ year_of n → m ≡ month_of n
    → d ≡ month_day_of n → none ≡ [] → year ≡ none ++ digits 4 y → to_month ≡ year ++ 45 ∷ []
    → month ≡ to_month ++ digits 2 m → to_day ≡ month ++ 45 ∷ [] → day ≡ to_day ++ digits 2 d → day ≡ day_text n
written n y m d none year to_month month to_day day ya mb dc e₀ e₁ e₂ e₃ e₄ e₅ =
    rw (day_text-is n, ← ya, ← mb, ← dc, e₅, e₄, e₃, e₂, e₁, e₀) refl

-- what the parts of a text with the right form are read as
abbrev AreParts : List ℕ → Option (ℕ × ℕ × ℕ) → Type 0
AreParts bytes r = (y m d : ℕ)
    → (r ≡ Some (y, m, d)) ↔ ((y < 10000) × (m < 100) × (d < 100) × (date_text y m d ≡ bytes))

pub parts_of_text : (bytes : List ℕ) (r : Option (ℕ × ℕ × ℕ)) (n : ℕ) → AreParts bytes r → IsDay n → day_text n ≡ bytes
    → r ≡ Some (year_of n, month_of n, month_day_of n)
parts_of_text bytes r n parts is text =
    let small = parts_small n is in
    (parts (year_of n) (month_of n) (month_day_of n)).1 (small.0, small.1, small.2, sym (day_text-is n) ∙ text)

same_some : (p q : ℕ × ℕ × ℕ) → Some p ≡ Some q → (p.0 ≡ q.0) × (p.1 ≡ q.1) × (p.2 ≡ q.2)
same_some p q e =
    let same : p ≡ q = cc in
    (ap (λ (t : ℕ × ℕ × ℕ). t.0) same, ap (λ (t : ℕ × ℕ × ℕ). t.1) same, ap (λ (t : ℕ × ℕ × ℕ). t.2) same)

same_parts : (r : Option (ℕ × ℕ × ℕ)) (y m d y₂ m₂ d₂ : ℕ) → r ≡ Some (y, m, d) → r ≡ Some (y₂, m₂, d₂)
    → (y ≡ y₂) × (m ≡ m₂) × (d ≡ d₂)
same_parts r y m d y₂ m₂ d₂ e f = same_some (y, m, d) (y₂, m₂, d₂) (sym e ∙ f)

-- if no day has this text, none is read
pub no_text : (bytes : List ℕ) (r : Option ℕ) → r ≡ None → ((n : ℕ) → IsDay n → day_text n ≡ bytes → ⊥) → (n : ℕ)
    → (r ≡ Some n) ↔ (IsDay n × (day_text n ≡ bytes))
no_text bytes r none never n = (λ e. cc, λ h. absurd (never n h.0 h.1))

-- a day's text has the parts of a date
pub is_date : (bytes : List ℕ) (r : Option (ℕ × ℕ × ℕ)) (n y m d : ℕ) → AreParts bytes r → r ≡ Some (y, m, d) → IsDay n
    → day_text n ≡ bytes → IsDate (pos y) (pos m) (pos d)
is_date bytes r n y m d parts read is text =
    let civil = civil_of n is in
    let same = same_parts r y m d (year_of n) (month_of n) (month_day_of n) read
    (parts_of_text bytes r n parts is text) in
    rw (same.0, same.1, same.2) (omega (arith, signed_arith))

-- a date with the parts of a text has a day's number if that is the day's text
pub text_of_date : (bytes : List ℕ) (r : Option (ℕ × ℕ × ℕ)) (date : Date) (y m d : ℕ) → AreParts bytes r
    → r ≡ Some (y, m, d) → IsYmd (pos y) (pos m) (pos d) date → (n : ℕ)
    → (IsDay n × (epoch_day date ≡ pos n)) ↔ (IsDay n × (day_text n ≡ bytes))
text_of_date bytes r date y m d parts read ymd n = (
  λ h. let same = date_parts date n h.0 h.1 in
      let year : y ≡ year_of n = cc in
      let month : m ≡ month_of n = cc in
      let day : d ≡ month_day_of n = cc in
      let text : date_text y m d ≡ bytes = ((parts y m d).0 read).3 in
      (h.0, day_text-is n ∙ (rw (← year, ← month, ← day) text)),
  λ h. let same = same_parts r y m d (year_of n) (month_of n) (month_day_of n) read
      (parts_of_text bytes r n parts h.0 h.1) in
      let month : date.month ≡ month_of n = cc in
      let day : date.day ≡ month_day_of n = cc in
      let year : date.year ≡ pos (year_of n) = ymd.0 ∙ ap pos same.0 in
      (h.0, rw (year, month, day) (number_of_civil n h.0)),
)

pub read_text : (bytes : List ℕ) (r : Option (ℕ × ℕ × ℕ)) (date : Date) (day : Option ℕ) (y m d : ℕ) → AreParts bytes r
    → r ≡ Some (y, m, d) → IsYmd (pos y) (pos m) (pos d) date
    → ((n : ℕ) → (day ≡ Some n) ↔ (IsDay n × (epoch_day date ≡ pos n))) → (n : ℕ)
    → (day ≡ Some n) ↔ (IsDay n × (day_text n ≡ bytes))
read_text bytes r date day y m d parts read ymd is n =
    let same = text_of_date bytes r date y m d parts read ymd n in
    (λ e. same.0 ((is n).0 e), λ h. (is n).1 (same.1 h))

same_digits : (k a b : ℕ) → a < 10 ^ k → b < 10 ^ k → digits k a ≡ digits k b → a ≡ b
same_digits k a b small small₂ e = sym (value-digits k a small) ∙ ap digits_value e ∙ value-digits k b small₂

-- what a text spells is all that it spells
pub only_parts : (bytes : List ℕ) (y m d : ℕ) → y < 10000 → m < 100 → d < 100 → date_text y m d ≡ bytes
    → AreParts bytes (Some (y, m, d))
only_parts bytes y m d year month day text y₂ m₂ d₂ = (
  λ e. let same = same_some (y, m, d) (y₂, m₂, d₂) e in
      rw (← same.0, ← same.1, ← same.2) (year, month, day, text),
  λ h. let texts : date_text y m d ≡ date_text y₂ m₂ d₂ = text ∙ sym h.3 in
      let same_year : y ≡ y₂ = same_digits 4 y y₂ year h.0 (ap (take 4) texts) in
      let same_month : m ≡ m₂ = same_digits 2 m m₂ month h.1 (ap (λ text. take 2 (drop 5 text)) texts) in
      let same_day : d ≡ d₂ = same_digits 2 d d₂ day h.2 (ap (drop 8) texts) in
      rw (same_year, same_month, same_day) refl,
)

two_digits : (b c n : ℕ) → number_of (b ∷ c ∷ []) ≡ Some n → digits 2 n ≡ b ∷ c ∷ []
two_digits b c n e = digits-number_of (b ∷ c ∷ []) n e

four_digits : (a b c d n : ℕ) → number_of (a ∷ b ∷ c ∷ d ∷ []) ≡ Some n → digits 4 n ≡ a ∷ b ∷ c ∷ d ∷ []
four_digits a b c d n e = digits-number_of (a ∷ b ∷ c ∷ d ∷ []) n e

joined : (y m d x z : ℕ) (ys ms ds : List ℕ) → digits 4 y ≡ ys → 45 ≡ x → digits 2 m ≡ ms → 45 ≡ z → digits 2 d ≡ ds
    → date_text y m d ≡ ys ++ x ∷ ms ++ z ∷ ds
joined y m d x z ys ms ds year first month second day = rw (← year, ← first, ← month, ← second, ← day) refl

-- reading the three numbers of a text of the right shape
pub text_of_numbers : (bytes : List ℕ) (y m d : ℕ) → length bytes ≡ 10 → get_or bytes 4 0 ≡ 45 → get_or bytes 7 0 ≡ 45
    → Some y ≡ number_of (take 4 bytes) → y < 10 ^ length (take 4 bytes) → Some m ≡ number_of (take 2 (drop 5 bytes))
    → m < 10 ^ length (take 2 (drop 5 bytes)) → Some d ≡ number_of (take 2 (drop 8 bytes))
    → d < 10 ^ length (take 2 (drop 8 bytes)) → (y < 10000) × (m < 100) × (d < 100) × (date_text y m d ≡ bytes)
text_of_numbers [] y m d long first second year y_small month m_small day d_small = absurd (omega arith)
text_of_numbers (a ∷ []) y m d long first second year y_small month m_small day d_small = absurd (omega arith)
text_of_numbers (a ∷ b ∷ []) y m d long first second year y_small month m_small day d_small = absurd (omega arith)
text_of_numbers (a ∷ b ∷ c ∷ []) y m d long first second year y_small month m_small day d_small = absurd (omega arith)
text_of_numbers (a ∷ b ∷ c ∷ e ∷ []) y m d long first second year y_small month m_small day d_small =
    absurd (omega arith)
text_of_numbers (a ∷ b ∷ c ∷ e ∷ f ∷ []) y m d long first second year y_small month m_small day d_small =
    absurd (omega arith)
text_of_numbers (a ∷ b ∷ c ∷ e ∷ f ∷ g ∷ []) y m d long first second year y_small month m_small day d_small =
    absurd (omega arith)
text_of_numbers (a ∷ b ∷ c ∷ e ∷ f ∷ g ∷ h ∷ []) y m d long first second year y_small month m_small day d_small =
    absurd (omega arith)
text_of_numbers (a ∷ b ∷ c ∷ e ∷ f ∷ g ∷ h ∷ i ∷ []) y m d long first second year y_small month m_small day d_small =
    absurd (omega arith)
text_of_numbers (a ∷ b ∷ c ∷ e ∷ f ∷ g ∷ h ∷ i ∷ j ∷ []) y m d long first second year y_small month m_small day d_small
    = absurd (omega arith)
text_of_numbers (a ∷ b ∷ c ∷ e ∷ f ∷ g ∷ h ∷ i ∷ j ∷ k ∷ []) y m d long first second year y_small month m_small day
    d_small = (
      y_small,
      m_small,
      d_small,
      joined y m d f i (a ∷ b ∷ c ∷ e ∷ []) (g ∷ h ∷ []) (j ∷ k ∷ []) (four_digits a b c e y (sym year)) (sym first)
          (two_digits g h m (sym month)) (sym second) (two_digits j k d (sym day)),
    )
text_of_numbers (a ∷ b ∷ c ∷ e ∷ f ∷ g ∷ h ∷ i ∷ j ∷ k ∷ l ∷ rest) y m d long first second year y_small month m_small
    day d_small = absurd (omega arith)

minus_by_test : (b : Bool) (r : Option ℕ) (z : ℤ) (a k : ℕ) → nat_le (10957 + k) a ≡ b → IsDay a → z ≡ pos a -ℤ pos k
    → ((n : ℕ) → (r ≡ Some n) ↔ (IsDay n × (z ≡ pos n))) → r ≡ (if b then Some (a - k) else None)
minus_by_test true r z a k test is number exact =
    let enough : 10957 + k ≤ a = grind arith in
    (exact (a - k)).1 ((omega arith, omega arith), omega (arith, signed_arith))
minus_by_test false (Some n) z a k test is number exact =
    let short : a < 10957 + k = grind arith in
    let day = (exact n).0 refl in
    absurd (omega (arith, signed_arith))
minus_by_test false None z a k test is number exact = refl

-- a date some days earlier, if that is not before the first day
pub minus_is : (r : Option ℕ) (z : ℤ) (a k : ℕ) → IsDay a → z ≡ pos a -ℤ pos k
    → ((n : ℕ) → (r ≡ Some n) ↔ (IsDay n × (z ≡ pos n))) → r ≡ (if nat_le (10957 + k) a then Some (a - k) else None)
minus_is r z a k is number exact = minus_by_test (nat_le (10957 + k) a) r z a k refl is number exact

of_ok : {E : Type 0} (r : Result Date E) (d : Date) (P : Date → Type 0) → Some d ≡ result_ok r → IfOk r P → P d
of_ok (Ok x) d P e h = let same : d ≡ x = cc in rw same h
of_ok (Err x) d P e h = cc e

not_ok : {E : Type 0} (r : Result Date E) → result_ok r ≡ None → IsOk r → ⊥
not_ok (Ok x) e h = cc e
not_ok (Err x) e h = cc h

-- the day number that `jiff` comes to
pub number_before : {E : Type 0} (r : Result Date E) (date earlier : Date) (n k : ℕ) (s : Span)
    → epoch_day date ≡ pos n → IsOnly Day (neg_ℤ (pos k)) s → Some earlier ≡ result_ok r
    → IfOk r (λ x. epoch_day x ≡ date_add date s) → epoch_day earlier ≡ pos n -ℤ pos k
number_before r date earlier n k s number only e h =
    of_ok r earlier (λ x. epoch_day x ≡ date_add date s) e h ∙ date_add-days date (neg_ℤ (pos k)) s only
    ∙ omega (arith, signed_arith)

-- no subtraction of so few days leaves its calendar
pub jiff_subtracts : {E : Type 0} (r : Result Date E) (date : Date) (n k : ℕ) (s : Span) → IsDay n → k < 65536
    → epoch_day date ≡ pos n → IsOnly Day (neg_ℤ (pos k)) s → (IsOk r ↔ CanAddToDate date s) → result_ok r ≡ None → ⊥
jiff_subtracts r date n k s is few number only can none =
    let day : IsEpochDay (epoch_day date +ℤ neg_ℤ (pos k)) =
    (omega (arith, signed_arith), omega (arith, signed_arith)) in
    not_ok r none (can.1 ((can_add-days date (neg_ℤ (pos k)) s only).1 day))

and_true : (a b : Bool) → a ≡ true → b ≡ true → (a && b) ≡ true
and_true a b h k = rw (h, k) refl

both_true : (a b : Bool) → (a && b) ≡ true → (a ≡ true) × (b ≡ true)
both_true true b h = (refl, h)
both_true false b h = cc h

is_day-true : (n : ℕ) → IsDay n → is_day n ≡ true
is_day-true n is = grind arith

is_day-is : (n : ℕ) → is_day n ≡ true → IsDay n
is_day-is n test = let parts = both_true (nat_le 10957 n) (nat_le n 84005) test in (grind arith, grind arith)

spelled_date : (y m d : ℕ) → y < 10000 → m < 100 → d < 100 → spelled_day (date_text y m d) ≡ month_start y m + d - 1
spelled_date y m d year month day =
    let ys : digits_value (digits 4 y) ≡ y = value-digits 4 y year in
    let ms : digits_value (digits 2 m) ≡ m = value-digits 2 m month in
    let ds : digits_value (digits 2 d) ≡ d = value-digits 2 d day in
    ap (λ y. month_start y (digits_value (digits 2 m)) + digits_value (digits 2 d) - 1) ys
    ∙ ap (λ m. month_start y m + digits_value (digits 2 d) - 1) ms ∙ ap (λ d. month_start y m + d - 1) ds

spelled_text : (n : ℕ) → IsDay n → spelled_day (day_text n) ≡ n
spelled_text n is =
    let small = parts_small n is in
    let month = month_is n is in
    let day = month_day_is n in
    ap spelled_day (day_text-is n) ∙ spelled_date (year_of n) (month_of n) (month_day_of n) small.0 small.1 small.2
    ∙ omega arith

day_of_by_test : (bytes : List ℕ) (r : Option ℕ) (n : ℕ) (b : Bool) → b ≡ (is_day n && bytes_eq (day_text n) bytes)
    → ((k : ℕ) → (r ≡ Some k) ↔ (IsDay k × (day_text k ≡ bytes))) → n ≡ spelled_day bytes
    → r ≡ (if b then Some n else None)
day_of_by_test bytes r n true test exact is =
    let both = both_true (is_day n) (bytes_eq (day_text n) bytes) (sym test) in
    (exact n).1 (is_day-is n both.0, (bytes_eq-Decides (day_text n) bytes).0 both.1)
day_of_by_test bytes None n false test exact is = refl
day_of_by_test bytes (Some k) n false test exact is =
    let day = (exact k).0 refl in
    let same : n ≡ k = is ∙ ap spelled_day (sym day.1) ∙ spelled_text k day.0 in
    let equal : bytes_eq (day_text n) bytes ≡ true =
    (bytes_eq-Decides (day_text n) bytes).1 (ap day_text same ∙ day.1) in
    let in_range : is_day n ≡ true = is_day-true n (rw same day.0) in
    let yes : false ≡ true = test ∙ and_true (is_day n) (bytes_eq (day_text n) bytes) in_range equal in
    cc

-- so the day of a text is the one that is read
pub day_of_is : (bytes : List ℕ) (r : Option ℕ) → ((n : ℕ) → (r ≡ Some n) ↔ (IsDay n × (day_text n ≡ bytes)))
    → r ≡ day_of bytes
unfolding day_of
day_of_is bytes r exact =
    day_of_by_test bytes r (spelled_day bytes)
    (is_day (spelled_day bytes) && bytes_eq (day_text (spelled_day bytes)) bytes) refl exact refl
