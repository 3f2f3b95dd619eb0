-- Desk numbers are distinct in a hall and at most its desks.
use Rattle.exam_plan.proofs.Words.{IsDistinct, option_map, cases_eq, cases_order, cases_Bool, eq-eqb, lt-ltb, le-ltb}
use Rattle.exam_plan.proofs.Words.{ltb-true, same_Some, Plan, is_hall, occupants, desk_number, IsLawful, Problem}
use Rattle.exam_plan.proofs.Words.{IsProblem, seating_of}
use Rattle.std.proofs.Common.{◌≡◌, ◌≢◌, ℕ, zero, suc, ◌+◌, ◌<◌, ◌≤◌, Bool, true, false, List, length, get_or, count_by}
use Rattle.std.proofs.Common.{Some, is_some, nat_eq, nat_lt, refl, sym, ap, ◌∙◌, inl, inr, arith}
use Rattle.std.proofs.lemmas.Map.Keys.{apart_from_distinct}
use Rattle.exam_plan.specs.Problems.{ranks_before}
use Rattle.exam_plan.proofs.Counting.{bit, count_below, count_below-same, sum_below, sum_below-le, sits_at, bit_le}
use Rattle.exam_plan.proofs.Seatings.{is_hall-sits_at, length-occupants, member-below}
use Rattle.exam_plan.proofs.ShortOfDesks.{sum_by-passing}

-- ---- sums of a test over those who pass another

small : (b : Bool) → bit b ≤ 1
small true = omega arith
small false = omega arith

within_all : (T D : ℕ → Bool) (n : ℕ) → sum_below (λ d. bit (T d)) D n ≤ count_below D n
within_all T D zero = omega arith
within_all T D (suc n) = let e = within_all T D n in elim (cases_Bool (D n)) [
  | inl t ↦ rw t (let s = small (T n) in omega (arith, e, s))
  | inr t ↦ rw t (omega (arith, e))
]

within_less : (T D : ℕ → Bool) (n c : ℕ) → c < n → D c ≡ true → T c ≡ false
    → sum_below (λ d. bit (T d)) D n < count_below D n
within_less T D zero c l d t = absurd (omega arith)
within_less T D (suc n) c l d t = elim (cases_eq c n) [
  | inl e ↦ (let all = within_all T D n in let dn : D n ≡ true = ap D (sym e) ∙ d in
      let tn : bit (T n) ≡ 0 = ap (λ k. bit (T k)) (sym e) ∙ ap bit t in rw dn (omega (arith, all, tn)))
  | inr a ↦ (let ih = within_less T D n c (omega arith) d t in elim (cases_Bool (D n)) [
    | inl dn ↦ rw dn (let s = small (T n) in omega (arith, ih, s))
    | inr dn ↦ rw dn (omega (arith, ih))
  ])
]

fewer_pass : (S T D : ℕ → Bool) (n c : ℕ) → ((d : ℕ) → bit (S d) ≤ bit (T d)) → c < n → D c ≡ true → S c ≡ false
    → T c ≡ true → sum_below (λ d. bit (S d)) D n < sum_below (λ d. bit (T d)) D n
fewer_pass S T D zero c w l d s t = absurd (omega arith)
fewer_pass S T D (suc n) c w l d s t = elim (cases_eq c n) [
  | inl e ↦ (let all = sum_below-le (λ k. bit (S k)) (λ k. bit (T k)) D n (λ k m p. w k) in
      let dn : D n ≡ true = ap D (sym e) ∙ d in
      let sn : bit (S n) ≡ 0 = ap (λ k. bit (S k)) (sym e) ∙ ap bit s in let tn : bit (T n) ≡ 1 =
      ap (λ k. bit (T k)) (sym e) ∙ ap bit t in rw dn (omega (arith, all, sn, tn)))
  | inr a ↦ (let ih = fewer_pass S T D n c w (omega arith) d s t in let wn = w n in
      elim (cases_Bool (D n)) [ inl dn ↦ rw dn (omega (arith, ih, wn)) | inr dn ↦ rw dn (omega (arith, ih)) ])
]

-- ---- distinct ranks

pub differ_at : (xs : List ℕ) (i j : ℕ) → IsDistinct nat_eq xs → i < j → j < length xs → get_or xs i 0 ≢ get_or xs j 0
differ_at xs i j d l m e = let z : true ≡ false =
    sym (eq-eqb (get_or xs i 0) (get_or xs j 0) e) ∙ apart_from_distinct nat_eq xs i j 0 d l m in cc

module _ (p : Problem) (q : Plan ℕ ℕ) (h : ℕ) where
  -- those of the hall who rank below
  pub below_count : (r : ℕ) → count_by (λ d. nat_lt (get_or p.rank d 0) r) (occupants (seating_of p) q h)
      ≡ sum_below (λ d. bit (nat_lt (get_or p.rank d 0) r)) (λ d. is_hall (seating_of p) h (q d)) (length p.fit)
  below_count r = sum_by-passing (λ d. bit (nat_lt (get_or p.rank d 0) r)) (λ d. is_hall (seating_of p) h (q d))
      (length p.fit)

  sits : (c : ℕ) → q c ≡ Some h → is_hall (seating_of p) h (q c) ≡ true
  sits c e = ap (is_hall (seating_of p) h) e ∙ eq-eqb h h refl

  pub number_at : (c : ℕ) → q c ≡ Some h
      → desk_number (seating_of p) (ranks_before p) q c
      ≡ Some (count_by (λ d. nat_lt (get_or p.rank d 0) (get_or p.rank c 0)) (occupants (seating_of p) q h) + 1)
  number_at c e = ap (option_map (λ k. count_by (λ d. ranks_before p d c) (occupants (seating_of p) q k) + 1)) e

  pub number_fits : IsLawful (seating_of p) q → (c n : ℕ) → q c ≡ Some h
      → desk_number (seating_of p) (ranks_before p) q c ≡ Some n → n ≤ (seating_of p).desks h
  number_fits lawful c n e number =
      let member : c < length p.fit = member-below (length p.fit) c (lawful.members c (ap is_some e)) in
      let is : count_by (λ d. nat_lt (get_or p.rank d 0) (get_or p.rank c 0)) (occupants (seating_of p) q h) + 1 ≡ n =
      same_Some _ n (sym (number_at c e) ∙ number) in
      let b = below_count (get_or p.rank c 0) in
      let l = within_less (λ d. nat_lt (get_or p.rank d 0) (get_or p.rank c 0)) (λ d. is_hall (seating_of p) h (q d))
      (length p.fit) c member (sits c e) (le-ltb (get_or p.rank c 0) (get_or p.rank c 0) (omega arith)) in
      let o = length-occupants p q h in
      let s = count_below-same (λ d. is_hall (seating_of p) h (q d)) (λ d. sits_at h (q d)) (length p.fit)
      (λ d m. ap bit (is_hall-sits_at p h (q d))) in
      let w : length (occupants (seating_of p) q h) ≤ (seating_of p).desks h = lawful.within_desks h in
      omega (arith, is, b, l, o, s, w)

  ranks_less : (c d : ℕ) → c < length p.fit → q c ≡ Some h → q d ≡ Some h → get_or p.rank c 0 < get_or p.rank d 0
      → desk_number (seating_of p) (ranks_before p) q c ≢ desk_number (seating_of p) (ranks_before p) q d
  ranks_less c d member ec ed less same =
      let is = same_Some _ _ (sym (number_at c ec) ∙ same ∙ number_at d ed) in
      let bc = below_count (get_or p.rank c 0) in
      let bd = below_count (get_or p.rank d 0) in
      let l = fewer_pass (λ k. nat_lt (get_or p.rank k 0) (get_or p.rank c 0))
      (λ k. nat_lt (get_or p.rank k 0) (get_or p.rank d 0)) (λ k. is_hall (seating_of p) h (q k)) (length p.fit) c
      (λ k. bit_le _ _ (λ t. lt-ltb (get_or p.rank k 0) (get_or p.rank d 0)
      (let a = ltb-true (get_or p.rank k 0) (get_or p.rank c 0) t in omega (arith, a, less)))) member (sits c ec)
      (le-ltb (get_or p.rank c 0) (get_or p.rank c 0) (omega arith))
      (lt-ltb (get_or p.rank c 0) (get_or p.rank d 0) less) in
      omega (arith, is, bc, bd, l)

  pub numbers_differ : IsProblem p → (c d : ℕ) → c < length p.fit → d < length p.fit → q c ≡ Some h → q d ≡ Some h
      → desk_number (seating_of p) (ranks_before p) q c ≡ desk_number (seating_of p) (ranks_before p) q d → c ≡ d
  numbers_differ good c d lc ld ec ed same = elim (cases_order (get_or p.rank c 0) (get_or p.rank d 0)) [
    | inl e ↦ elim (cases_order c d) [
      | inl is ↦ is
      | inr s ↦ absurd (elim s [
        | inl l ↦ differ_at p.rank c d good.distinct l
            (omega (arith, ld, good.ranked)) e
        | inr l ↦ differ_at p.rank d c good.distinct l
            (omega (arith, lc, good.ranked)) (sym e)
      ])
    ]
    | inr s ↦ absurd (elim s [ inl l ↦ ranks_less c d lc ec ed l same | inr l ↦ ranks_less d c ld ed ec l (sym same) ])
  ]
