-- The seating of a problem: its counts, and what fits.
use Rattle.exam_plan.proofs.Words.{range_with_len, list_any, AllByRecursion, cases_lt, or_cases, eqb-true, get_or_past}
use Rattle.exam_plan.proofs.Words.{length-range_with_len, get_or-range_with_len, All-get_or, recursion_from_All}
use Rattle.exam_plan.proofs.Words.{length-filter, IfSome_then, Plan, is_hall, occupants, unseated, size, IsLawful}
use Rattle.exam_plan.proofs.Words.{Problem, IsProblem, seating_of}
use Rattle.std.proofs.Common.{◌≡◌, ℕ, ◌+◌, ◌<◌, true, false, IsTrue, List, [], ◌∷◌, length, get_or, Option, None, Some}
use Rattle.std.proofs.Common.{IfSome, is_some, is_none, nat_eq, refl, sym, ap, ◌∙◌, inl, inr, arith}
use Rattle.std.specs.Prelude.{All, Contains}
use Rattle.exam_plan.proofs.Counting.{bit, count_below, count_by-range, count_below-same, sits_at}

pub is_hall-sits_at : (p : Problem) (h : ℕ) (o : Option ℕ) → is_hall (seating_of p) h o ≡ sits_at h o
is_hall-sits_at p h None = refl
is_hall-sits_at p h (Some k) = refl

pub length-occupants : (p : Problem) (q : Plan ℕ ℕ) (h : ℕ)
    → length (occupants (seating_of p) q h) ≡ count_below (λ c. sits_at h (q c)) (length p.fit)
length-occupants p q h = length-filter (λ c. is_hall (seating_of p) h (q c)) (range_with_len 0 (length p.fit))
    ∙ count_by-range (λ c. is_hall (seating_of p) h (q c)) (length p.fit)
    ∙ count_below-same (λ c. is_hall (seating_of p) h (q c)) (λ c. sits_at h (q c)) (length p.fit)
    (λ c l. ap bit (is_hall-sits_at p h (q c)))

pub size-count : (p : Problem) (q : Plan ℕ ℕ) → size (seating_of p) q ≡ count_below (λ c. is_some (q c)) (length p.fit)
size-count p q = count_by-range (λ c. is_some (q c)) (length p.fit)

pub length-unseated : (p : Problem) (q : Plan ℕ ℕ)
    → length (unseated (seating_of p) q) ≡ count_below (λ c. is_none (q c)) (length p.fit)
length-unseated p q =
    length-filter (λ c. is_none (q c)) (range_with_len 0 (length p.fit))
    ∙ count_by-range (λ c. is_none (q c)) (length p.fit)

pub member-below : (n c : ℕ) → Contains (range_with_len 0 n) c → c < n
member-below n c m =
    let long : length (range_with_len 0 n) ≡ n = length-range_with_len 0 n in
    let here : m.0 < length (range_with_len 0 n) = m.1 in
    let at : get_or (range_with_len 0 n) m.0 c ≡ 0 + m.0 = get_or-range_with_len 0 n m.0 c (omega arith) in
    let is : get_or (range_with_len 0 n) m.0 c ≡ c = m.2 in omega arith

pub below-member : (n c : ℕ) → c < n → Contains (range_with_len 0 n) c
below-member n c l =
    let long : length (range_with_len 0 n) ≡ n = length-range_with_len 0 n in
    let at : get_or (range_with_len 0 n) c c ≡ 0 + c = get_or-range_with_len 0 n c c l in
    (c, omega arith, omega arith)

-- ---- what fits

pub any_below : (h n : ℕ) (xs : List ℕ) → AllByRecursion (λ k. k < n) xs → list_any (nat_eq h) xs ≡ true → h < n
any_below h n [] all t = absurd (let z : false ≡ true = t in cc)
any_below h n (x ∷ xs) all t = elim (or_cases (nat_eq h x) (list_any (nat_eq h) xs) t) [
  | inl e ↦ (let s : h ≡ x = eqb-true h x e in let l : x < n = all.0 in omega arith)
  | inr e ↦ any_below h n xs all.1 e
]

pub listed_below : (n : ℕ) (row : List ℕ) (h : ℕ) → All (λ k. k < n) row → list_any (nat_eq h) row ≡ true → h < n
listed_below n row h all t = any_below h n row (recursion_from_All (λ k. k < n) row all) t

pub fits_member : (p : Problem) (c h : ℕ) → IsTrue ((seating_of p).fits c h) → c < length p.fit
fits_member p c h t = elim (cases_lt c (length p.fit)) [
  | inl l ↦ l
  | inr m ↦ absurd (let e : get_or p.fit c [] ≡ [] = get_or_past p.fit c [] m in
      let z : false ≡ true = sym (ap (list_any (nat_eq h)) e) ∙ t in cc)
]

pub fits_below : (p : Problem) → IsProblem p → (c h : ℕ) → IsTrue ((seating_of p).fits c h) → h < length p.desk_counts
fits_below p good c h t =
    let P : List ℕ → Type 0 = λ hs. All (λ k. k < length p.desk_counts) hs in
    any_below h (length p.desk_counts) (get_or p.fit c [])
    (recursion_from_All (λ k. k < length p.desk_counts) (get_or p.fit c [])
    (All-get_or P p.fit c [] (fits_member p c h t) good.exist)) t

pub lawful_exists : (p : Problem) → IsProblem p → (q : Plan ℕ ℕ) → IsLawful (seating_of p) q → (c : ℕ)
    → IfSome (q c) (λ h. h < length p.desk_counts)
lawful_exists p good q l c = IfSome_then (q c) (l.fitting c) (fits_below p good c)
