-- A plan with a closed set of full halls is best: those who sit outside the set can be no more, and the
-- set's desks are all taken.
use Rattle.exam_plan.proofs.Words.{cases_Bool, and_parts, IfSome_then, Plan, occupants, size, IsLawful, Problem}
use Rattle.exam_plan.proofs.Words.{IsProblem, seating_of}
use Rattle.std.proofs.Common.{◌≡◌, ℕ, ◌+◌, ◌<◌, ◌≤◌, Bool, true, false, not, ◌&&◌, IsTrue, length, get_or, Option, None}
use Rattle.std.proofs.Common.{Some, IfSome, is_some, refl, sym, ap, ◌∙◌, inl, inr, arith}
use Rattle.exam_plan.proofs.Counting.{bit, count_below, count_below-le, count_below-lt, count_below-add, sum_below}
use Rattle.exam_plan.proofs.Counting.{sum_below-le, sum_below-same, sits_within, sits_at, counted_twice, bit_le}
use Rattle.exam_plan.proofs.Seatings.{length-occupants, size-count, lawful_exists}

-- unseated, or in a hall of the set
abbrev pub drawn_in : (ℕ → Bool) → Option ℕ → Bool
drawn_in D None = true
drawn_in D (Some h) = D h

-- the halls of the set have no free desk, and fit all their occupants and all who are unseated
pub record IsClosedSet (p : Problem) (q : Plan ℕ ℕ) (D : ℕ → Bool) : Type 0 where
  pub full : (h : ℕ) → h < length p.desk_counts → D h ≡ true
      → get_or p.desk_counts h 0 ≤ length (occupants (seating_of p) q h)
  pub stays : (c k : ℕ) → drawn_in D (q c) ≡ true → IsTrue ((seating_of p).fits c k) → D k ≡ true

split_bits : (s a : Bool) → bit (s && not a) + bit (s && a) ≡ bit s
split_bits true true = refl
split_bits true false = refl
split_bits false a = refl

within_bits : (D : ℕ → Bool) (o : Option ℕ) (a : Bool) → (a ≡ true → IfSome o (λ h. D h ≡ true))
    → bit (is_some o && a) ≤ bit (sits_within D o)
within_bits D None a f = omega arith
within_bits D (Some h) true f = let e : bit (D h) ≡ 1 = ap bit (f refl) in omega arith
within_bits D (Some h) false f = omega arith

pub outside_bits : (D : ℕ → Bool) (o : Option ℕ) → bit (not (drawn_in D o)) + bit (sits_within D o) ≡ bit (is_some o)
outside_bits D None = refl
outside_bits D (Some h) = elim (cases_Bool (D h)) [ inl t ↦ rw t refl | inr t ↦ rw t refl ]

module _ (p : Problem) (good : IsProblem p) (q : Plan ℕ ℕ) (lawful : IsLawful (seating_of p) q) (D : ℕ → Bool)
    (closed : IsClosedSet p q D) where
  -- the desks of the set's halls
  pub set_desks : count_below (λ c. sits_within D (q c)) (length p.fit)
      ≡ sum_below (λ h. get_or p.desk_counts h 0) D (length p.desk_counts)
  set_desks = counted_twice D (length p.desk_counts) q (length p.fit) (λ c l. lawful_exists p good q lawful c)
      ∙ sum_below-same (λ h. count_below (λ c. sits_at h (q c)) (length p.fit)) (λ h. get_or p.desk_counts h 0) D
      (length p.desk_counts)
      (λ h l t. let e = length-occupants p q h in let f = closed.full h l t in
      let w : length (occupants (seating_of p) q h) ≤ get_or p.desk_counts h 0 =
      lawful.within_desks h in omega arith)

  module _ (other : Plan ℕ ℕ) (also : IsLawful (seating_of p) other) where
    fewer_within : count_below (λ c. sits_within D (other c)) (length p.fit) ≤ count_below (λ c. sits_within D (q c))
        (length p.fit)
    fewer_within =
        let a = counted_twice D (length p.desk_counts) other (length p.fit)
        (λ c l. lawful_exists p good other also c) in
        let b = sum_below-le (λ h. count_below (λ c. sits_at h (other c)) (length p.fit))
        (λ h. get_or p.desk_counts h 0) D (length p.desk_counts)
        (λ h l t. let e = length-occupants p other h in
        let w : length (occupants (seating_of p) other h) ≤ get_or p.desk_counts h 0 =
        also.within_desks h in omega arith) in
        let d = set_desks in omega (arith, a, b, d)

    inside : count_below (λ c. is_some (other c) && drawn_in D (q c)) (length p.fit) ≤ count_below
        (λ c. sits_within D (other c)) (length p.fit)
    inside = count_below-le _ _ (length p.fit)
        (λ c l. within_bits D (other c) (drawn_in D (q c))
        (λ t. IfSome_then (other c) (also.fitting c) (λ h f. closed.stays c h t f)))

    halves : count_below (λ c. is_some (other c) && not (drawn_in D (q c))) (length p.fit) + count_below
        (λ c. is_some (other c) && drawn_in D (q c)) (length p.fit) ≡ size (seating_of p) other
    halves = count_below-add _ _ (λ c. is_some (other c)) (length p.fit)
        (λ c l. split_bits (is_some (other c)) (drawn_in D (q c))) ∙ sym (size-count p other)

    whole : count_below (λ c. not (drawn_in D (q c))) (length p.fit) + count_below (λ c. sits_within D (q c))
        (length p.fit) ≡ size (seating_of p) q
    whole = count_below-add _ _ (λ c. is_some (q c)) (length p.fit) (λ c l. outside_bits D (q c)) ∙ sym (size-count p q)

    pub closed_is_greatest : size (seating_of p) other ≤ size (seating_of p) q
    closed_is_greatest =
        let o = count_below-le (λ c. is_some (other c) && not (drawn_in D (q c))) (λ c. not (drawn_in D (q c)))
        (length p.fit) (λ c l. bit_le _ (not (drawn_in D (q c))) (λ t. (and_parts (is_some (other c)) _ t).1)) in
        omega (arith, o, halves, whole, inside, fewer_within)

    -- who sits outside the set is seated by every best plan
    pub closed_is_greater : (c : ℕ) → c < length p.fit → drawn_in D (q c) ≡ false → other c ≡ None
        → size (seating_of p) other < size (seating_of p) q
    closed_is_greater c below away none =
        let less : bit (is_some (other c) && not (drawn_in D (q c))) < bit (not (drawn_in D (q c))) =
        rw (none, away) (omega arith) in
        let o = count_below-lt (λ c. is_some (other c) && not (drawn_in D (q c))) (λ c. not (drawn_in D (q c)))
        (length p.fit) c (λ c l. bit_le _ (not (drawn_in D (q c))) (λ t. (and_parts (is_some (other c)) _ t).1))
        below less in
        omega (arith, o, halves, whole, inside, fewer_within)
