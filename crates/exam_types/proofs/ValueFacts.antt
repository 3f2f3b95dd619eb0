-- The value with a text is the one that is found.
use Rattle.std.proofs.Common.{◌≡◌, ◌∙◌, ◌+◌, ◌-◌, ◌≤◌, ◌<◌, ℕ, zero, suc, List, Bool, true, false, Option, Some, None}
use Rattle.std.proofs.Common.{cond, refl, sym, ap, arith, inl, inr}
use Rattle.std.proofs.lemmas.Bool.{cases_eq}
use Rattle.std.specs.Prelude.{◌↔◌, bytes_eq, find}
use Rattle.std.specs.List.{range_with_len}
use Rattle.std.proofs.lemmas.Slice.Eq.{bytes_eq-Decides}
use Rattle.exam_types.specs.Numbers.{value_in}

pub record IsWritten (text : ℕ → List ℕ) (least count : ℕ) (bytes : List ℕ) (n : ℕ) : Type 0 where
  pub low : least ≤ n
  pub high : n < least + count
  pub same : text n ≡ bytes

is-written : (text : ℕ → List ℕ) (least count : ℕ) (bytes : List ℕ) (n : ℕ)
    → find (λ k. bytes_eq (text k) bytes) (range_with_len least count) ≡ Some n → IsWritten text least count bytes n
is-written text least zero bytes n e = cc e
is-written text least (suc count) bytes n e =
    step (bytes_eq (text least) bytes) refl (is-written text (least + 1) count bytes n) e
  where
    step : (b : Bool) → bytes_eq (text least) bytes ≡ b
        → (find (λ k. bytes_eq (text k) bytes) (range_with_len (least + 1) count) ≡ Some n
        → IsWritten text (least + 1) count bytes n)
        → cond b (Some least) (find (λ k. bytes_eq (text k) bytes) (range_with_len (least + 1) count)) ≡ Some n
        → IsWritten text least (suc count) bytes n
    step true h more e =
        let here : n ≡ least = cc in
        let same : text least ≡ bytes = (bytes_eq-Decides (text least) bytes).0 h in
        record { low = omega arith; high = omega arith; same = ap text here ∙ same }
    step false h more e =
        let rest = more e in
        record { low = let l = rest.low in omega arith; high = let l = rest.high in omega arith; same = rest.same }

none-written : (text : ℕ → List ℕ) (least count : ℕ) (bytes : List ℕ) (n : ℕ)
    → find (λ k. bytes_eq (text k) bytes) (range_with_len least count) ≡ None → least ≤ n → n < least + count
    → text n ≡ bytes → ⊥
none-written text least zero bytes n e low high same = omega arith
none-written text least (suc count) bytes n e low high same =
    step (bytes_eq (text least) bytes) refl (none-written text (least + 1) count bytes n) e
  where
    step : (b : Bool) → bytes_eq (text least) bytes ≡ b
        → (find (λ k. bytes_eq (text k) bytes) (range_with_len (least + 1) count) ≡ None → least + 1 ≤ n
        → n < least + 1 + count → text n ≡ bytes → ⊥)
        → cond b (Some least) (find (λ k. bytes_eq (text k) bytes) (range_with_len (least + 1) count)) ≡ None → ⊥
    step true h more e = cc e
    step false h more e = more e (above refl) (omega arith) same
      where
        above : (least ≡ least) → least + 1 ≤ n
        above _ = elim (cases_eq n least) [ inl is ↦ absurd (differs is) | inr not ↦ omega arith ]
          where
            differs : n ≡ least → ⊥
            differs is = let t : bytes_eq (text least) bytes ≡ true =
                (bytes_eq-Decides (text least) bytes).1 (ap text (sym is) ∙ same) in cc (t, h)

-- what answers exactly the values of a range that have this text
pub value_found : (P : ℕ → Type 0) (text : ℕ → List ℕ) (least greatest : ℕ) (bytes : List ℕ) (r : Option ℕ)
    → ((n : ℕ) → P n ↔ ((least ≤ n) × (n ≤ greatest)))
    → ((n : ℕ) → (r ≡ Some n) ↔ (P n × (text n ≡ bytes))) → r ≡ value_in text least greatest bytes
unfolding value_in
value_found P text least greatest bytes r between exact =
    step (find (λ k. bytes_eq (text k) bytes) (range_with_len least (greatest + 1 - least))) refl r refl
  where
    step : (o : Option ℕ) → find (λ k. bytes_eq (text k) bytes) (range_with_len least (greatest + 1 - least)) ≡ o
        → (q : Option ℕ) → r ≡ q → r ≡ o
    step (Some n) e q h =
        let w = is-written text least (greatest + 1 - least) bytes n e in
        let low = w.low in
        let high = w.high in
        (exact n).1 ((between n).1 (low, omega arith), w.same)
    step None e None h = h
    step None e (Some n) h =
        let p = (exact n).0 h in
        let w = (between n).0 p.0 in
        let low = w.0 in
        let most = w.1 in
        absurd (none-written text least (greatest + 1 - least) bytes n e low (omega arith) p.1)

abbrev IsExact : (ℕ → Type 0) → (ℕ → List ℕ) → List ℕ → Option ℕ → Type 0
IsExact P text bytes r = (n : ℕ) → (r ≡ Some n) ↔ (P n × (text n ≡ bytes))

-- if a number is read and is in the range, a value is answered
pub read_in_range : (P : ℕ → Type 0) (text : ℕ → List ℕ) (limit : ℕ) (bytes : List ℕ) (read : Option ℕ) (v : ℕ)
    (r : Option ℕ) → ((n : ℕ) → P n → n < limit)
    → ((n : ℕ) → (read ≡ Some n) ↔ ((n < limit) × (text n ≡ bytes))) → read ≡ Some v
    → ((n : ℕ) → (r ≡ Some n) ↔ (P n × (n ≡ v))) → IsExact P text bytes r
read_in_range P text limit bytes read v r below reads some ranged n = (λ is. there ((ranged n).0 is), λ is. back is)
  where
    there : P n × (n ≡ v) → P n × (text n ≡ bytes)
    there is = (is.0, ap text is.1 ∙ ((reads v).0 some).1)

    back : P n × (text n ≡ bytes) → r ≡ Some n
    back is =
        let found : read ≡ Some n = (reads n).1 (below n is.0, is.1) in
        let same : n ≡ v = cc in
        (ranged n).1 (is.0, same)

-- if no number is read, none is answered
pub none_read : (P : ℕ → Type 0) (text : ℕ → List ℕ) (limit : ℕ) (bytes : List ℕ) (r : Option ℕ)
    → ((n : ℕ) → P n → n < limit)
    → ((n : ℕ) → (None ≡ Some n) ↔ ((n < limit) × (text n ≡ bytes))) → r ≡ None → IsExact P text bytes r
none_read P text limit bytes r below reads none n = (λ is. cc (is, none), λ is. back is)
  where
    back : P n × (text n ≡ bytes) → r ≡ Some n
    back is = let found : None ≡ Some n = (reads n).1 (below n is.0, is.1) in cc found
