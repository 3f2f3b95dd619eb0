-- Candidates in the order of desks: as many of a hall come before one of them as have a lesser rank.
use Rattle.exam_plan.proofs.Words.{range_with_len, nat_cmp, is_lt, ordering_then, option_map, IsTotalOrder, nat_cmp_is}
use Rattle.exam_plan.proofs.Words.{nat_cmp_total, Ordering, Less, cases_eq, cases_lt, cases_Bool, eq-eqb, eqb-true}
use Rattle.exam_plan.proofs.Words.{lt-ltb, le-ltb, length-set, length-replicate, get_or-set_same, get_or-set_other}
use Rattle.exam_plan.proofs.Words.{get_or-replicate, get_or_past, get_or_default, All-from_get_or}
use Rattle.exam_plan.proofs.Words.{length-range_with_len, get_or-range_with_len, behind_rank, Plan, is_hall, occupants}
use Rattle.exam_plan.proofs.Words.{desk_number, Problem, IsProblem, seating_of, plan_at}
use Rattle.std.proofs.Common.{◌≡◌, ℕ, zero, suc, ◌+◌, ◌<◌, ◌≤◌, Bool, true, false, ◌&&◌, List, [], ◌∷◌, length, get_or}
use Rattle.std.proofs.Common.{set, take, replicate, map, count_by, Option, None, Some, IfSome, nat_eq, nat_lt, refl}
use Rattle.std.proofs.Common.{sym, ap, ◌∙◌, inl, inr, arith, zero-add}
use Rattle.std.specs.Prelude.{All, Contains, IsSorted}
use Rattle.std.specs.List.Sorted.{IsPermutation}
use Rattle.std.specs.Cmp.{then_total, on_total}
use Rattle.std.proofs.lemmas.List.{length-take}
use Rattle.std.proofs.lemmas.List.Elements.{All-map}
use Rattle.std.proofs.lemmas.List.FromFn.{length-map-range_with_len}
use Rattle.std.proofs.lemmas.List.FromFn.{get_or-map-range_with_len, fill_by_all, sum_by-map-range_with_len_more}
use Rattle.std.proofs.lemmas.List.Sorted.{ranks_by, sorted_far, length_permutation, All-permutation}
use Rattle.std.proofs.lemmas.List.Sorted.{Contains-permutation, sum_by-IsPermutation}
use Rattle.std.proofs.lemmas.List.Sums.{sum_by_more, count_by-le-length}
use Rattle.exam_plan.specs.DeskOrder.{rank_cmp}
use Rattle.exam_plan.specs.Problems.{ranks_before}
use Rattle.exam_plan.proofs.Counting.{bit, count_below, sum_below, count_by-cons}
use Rattle.exam_plan.proofs.NumberLaws.{differ_at, below_count, number_at}
use Rattle.exam_plan.proofs.Steps.{one_counted, place_below}

-- ---- counts in lists

module _ {X : Type 0} (P : X → Bool) where
  pub counted_one : (xs : List X) (j : ℕ) (d : X) → j < length xs → P (get_or xs j d) ≡ true → 1 ≤ count_by P xs
  counted_one [] j d l t = absurd (omega arith)
  counted_one (x ∷ xs) zero d l t = let one : bit (P x) ≡ 1 = ap bit t in let more =
      count_by-cons P x xs in omega (arith, one, more)
  counted_one (x ∷ xs) (suc j) d l t = let ih = counted_one xs j d (omega arith) t in let more =
      count_by-cons P x xs in omega (arith, ih, more)

  pub counted_two : (xs : List X) (i j : ℕ) (d : X) → i < j → j < length xs → P (get_or xs i d) ≡ true
      → P (get_or xs j d) ≡ true → 2 ≤ count_by P xs
  counted_two [] i j d l m s t = absurd (omega arith)
  counted_two (x ∷ xs) i zero d l m s t = absurd (omega arith)
  counted_two (x ∷ xs) zero (suc j) d l m s t = let one : bit (P x) ≡ 1 = ap bit s in let rest =
      counted_one xs j d (omega arith) t in let more = count_by-cons P x xs in omega (arith, one, rest, more)
  counted_two (x ∷ xs) (suc i) (suc j) d l m s t = let ih =
      counted_two xs i j d (omega arith) (omega arith) s t in let more = count_by-cons P x xs in omega (arith, ih, more)

  none_counted : (xs : List X) (d : X) → ((i : ℕ) → i < length xs → P (get_or xs i d) ≡ false) → count_by P xs ≡ 0
  none_counted [] d f = refl
  none_counted (x ∷ xs) d f = let none : bit (P x) ≡ 0 = ap bit (f 0 (omega arith)) in let ih =
      none_counted xs d (λ i l. f (suc i) (omega arith)) in let more =
      count_by-cons P x xs in omega (arith, none, ih, more)

-- a test that agrees on a front and fails past it
pub front_counted : {X : Type 0} (P Q : X → Bool) (xs : List X) (j : ℕ) (d : X)
    → ((i : ℕ) → i < j → i < length xs → P (get_or xs i d) ≡ Q (get_or xs i d))
    → ((i : ℕ) → j ≤ i → i < length xs → Q (get_or xs i d) ≡ false) → count_by P (take j xs) ≡ count_by Q xs
front_counted P Q [] zero d same past = refl
front_counted P Q [] (suc j) d same past = refl
front_counted P Q (x ∷ xs) zero d same past = sym (none_counted Q (x ∷ xs) d (λ i l. past i (omega arith) l))
front_counted P Q (x ∷ xs) (suc j) d same past =
    let here : bit (P x) ≡ bit (Q x) = ap bit (same 0 (omega arith) (omega arith)) in
    let ih = front_counted P Q xs j d (λ i l m. same (suc i) (omega arith) (omega arith))
    (λ i l m. past (suc i) (omega arith) (omega arith)) in
    let front : count_by P (take (suc j) (x ∷ xs)) ≡ bit (P x) + count_by P (take j xs) =
    count_by-cons P x (take j xs) in
    let whole = count_by-cons Q x xs in
    omega (arith, here, ih, front, whole)

counted_map : {X : Type 0} (T : X → Bool) (f : ℕ → X) (n : ℕ)
    → count_by T (map f (range_with_len 0 n)) ≡ count_below (λ d. T (f d)) n
counted_map T f zero = refl
counted_map T f (suc n) =
    let e : count_by T (map f (range_with_len 0 (suc n))) ≡ count_by T (map f (range_with_len 0 (n + 1))) =
    (let same : suc n ≡ n + 1 = omega arith in ap (λ k. count_by T (map f (range_with_len 0 k))) same) in
    let more : count_by T (map f (range_with_len 0 (n + 1)))
    ≡ count_by T (map f (range_with_len 0 n)) + bit (T (f n)) =
    sum_by-map-range_with_len_more (λ x. bit (T x)) f 0 n n (zero-add n) in
    let ih = counted_map T f n in omega (arith, e, more, ih)

passing_counted : (A D : ℕ → Bool) (n : ℕ) → sum_below (λ d. bit (A d)) D n ≡ count_below (λ d. A d && D d) n
passing_counted A D zero = refl
passing_counted A D (suc n) = let ih = passing_counted A D n in elim (cases_Bool (A n)) [
  | inl a ↦ elim (cases_Bool (D n)) [ inl t ↦ rw (a, t) (omega (arith, ih)) | inr t ↦ rw (a, t) (omega (arith, ih)) ]
  | inr a ↦ elim (cases_Bool (D n)) [ inl t ↦ rw (a, t) (omega (arith, ih)) | inr t ↦ rw (a, t) (omega (arith, ih)) ]
]

at_most_one : (P : ℕ → Bool) (n : ℕ) → ((a b : ℕ) → a < b → b < n → P a ≡ true → P b ≡ true → ⊥) → count_below P n ≤ 1
at_most_one P zero apart = omega arith
at_most_one P (suc n) apart = elim (cases_Bool (P n)) [
  | inl t ↦ (let none =
      all_fail P n (λ a l. elim (cases_Bool (P a)) [ inl s ↦ absurd (apart a n l (omega arith) s t) | inr s ↦ s ]) in
      rw t (omega (arith, none)))
  | inr t ↦ (let ih = at_most_one P n (λ a b l m. apart a b l (omega arith)) in rw t (omega (arith, ih)))
]
  where
    all_fail : (P : ℕ → Bool) (n : ℕ) → ((a : ℕ) → a < n → P a ≡ false) → count_below P n ≡ 0
    all_fail P zero f = refl
    all_fail P (suc n) f = let ih = all_fail P n (λ a l. f a (omega arith)) in let none : bit (P n) ≡ 0 =
        ap bit (f n (omega arith)) in omega (arith, ih, none)

-- ---- the order of desks

module _ (p : Problem) (order : List (ℕ × ℕ)) (q : Plan ℕ ℕ) where
  -- how many of the first i sit in the hall
  abbrev pub met : ℕ → ℕ → ℕ
  met h i = count_by (λ (x : ℕ × ℕ). is_hall (seating_of p) h (q x.1)) (take i order)

  pub met_more : (h i : ℕ) → i < length order
      → met h (i + 1) ≡ met h i + bit (is_hall (seating_of p) h (q (get_or order i (0, 0)).1))
  met_more h i l = sum_by_more (λ (x : ℕ × ℕ). bit (is_hall (seating_of p) h (q x.1))) order i (0, 0) l

  pub met_few : (h i : ℕ) → met h i ≤ i
  met_few h i = let few =
      count_by-le-length (λ (x : ℕ × ℕ). is_hall (seating_of p) h (q x.1)) (take i order) in let long =
      length-take i order in omega (arith, few, long)

-- each candidate behind their rank, ranks rising
pub record IsDeskOrder (p : Problem) (order : List (ℕ × ℕ)) : Type 0 where
  pub all : IsPermutation (map (behind_rank p) (range_with_len 0 (length p.fit))) order
  pub rising : IsSorted rank_cmp order

ranks_total : IsTotalOrder rank_cmp
ranks_total = then_total (on_total (λ (x : ℕ × ℕ). x.0) nat_cmp_total) (on_total (λ (x : ℕ × ℕ). x.1) nat_cmp_total)

not_less : (a b : ℕ) (o : Ordering) → is_lt (ordering_then (nat_cmp a b) o) ≡ false → b ≤ a
not_less a b o e = elim (cases_lt a b) [
  | inl l ↦ absurd (let z : true ≡ false = ap (λ t. is_lt (ordering_then t o)) (nat_cmp_is a b Less l) ∙ e in cc)
  | inr g ↦ g
]

module _ (p : Problem) (order : List (ℕ × ℕ)) (is : IsDeskOrder p order) where
  abbrev placed : ℕ → ℕ × ℕ
  placed j = get_or order j (0, 0)

  pub order_long : length order ≡ length p.fit
  order_long = length_permutation (map (behind_rank p) (range_with_len 0 (length p.fit))) order is.all
      ∙ length-map-range_with_len (behind_rank p) 0 (length p.fit)

  each : All (λ (x : ℕ × ℕ). (x.0 ≡ get_or p.rank x.1 0) × (x.1 < length p.fit)) order
  each = All-permutation (λ (x : ℕ × ℕ). (x.0 ≡ get_or p.rank x.1 0) × (x.1 < length p.fit))
      (map (behind_rank p) (range_with_len 0 (length p.fit))) order is.all
      (All-map (λ (x : ℕ × ℕ). (x.0 ≡ get_or p.rank x.1 0) × (x.1 < length p.fit)) (behind_rank p)
      (range_with_len 0 (length p.fit))
      (All-from_get_or (λ c. (get_or p.rank c 0 ≡ get_or p.rank c 0) × (c < length p.fit))
      (range_with_len 0 (length p.fit)) 0
      (λ i l. (
        refl,
        (let long = length-range_with_len 0 (length p.fit) in
            let at = get_or-range_with_len 0 (length p.fit) i 0 (omega (arith, l, long)) in
            omega (arith, at, l, long)),
      ))))

  pub rank_read : (j : ℕ) → j < length order → (placed j).0 ≡ get_or p.rank (placed j).1 0
  rank_read j l = (each j (0, 0) l).0

  pub candidate_below : (j : ℕ) → j < length order → (placed j).1 < length p.fit
  candidate_below j l = (each j (0, 0) l).1

  rank_rises : (i j : ℕ) → i ≤ j → j < length order → (placed i).0 ≤ (placed j).0
  rank_rises i j le l =
      not_less (placed j).0 (placed i).0 (nat_cmp (placed j).1 (placed i).1)
      (sorted_far (λ x y. is_lt (rank_cmp x y)) (ranks_by ranks_total (λ x. x)) order is.rising i j (0, 0) le l)

  pub place_of : (c : ℕ) → c < length p.fit → (j : ℕ) × (j < length order) × ((placed j).1 ≡ c)
  place_of c l =
      let pairs : List (ℕ × ℕ) = map (behind_rank p) (range_with_len 0 (length p.fit)) in
      let long : length pairs ≡ length p.fit = length-map-range_with_len (behind_rank p) 0 (length p.fit) in
      let here : Contains pairs (behind_rank p c) = (
        c,
        omega (arith, l, long),
        get_or-map-range_with_len (behind_rank p) 0 (length p.fit) c c (behind_rank p c) l (zero-add c),
      ) in
      let there = Contains-permutation pairs order (behind_rank p c) is.all here in (
        there.0,
        there.1,
        ap (λ (x : ℕ × ℕ). x.1)
            (get_or_default order there.0 (0, 0) (behind_rank p c) there.1 ∙ there.2),
      )

  module _ (good : IsProblem p) where
    once : (r : ℕ) → count_by (λ (x : ℕ × ℕ). nat_eq r x.0) order ≤ 1
    once r =
        let moved : count_by (λ (x : ℕ × ℕ). nat_eq r x.0) order
        ≡ count_by (λ (x : ℕ × ℕ). nat_eq r x.0) (map (behind_rank p) (range_with_len 0 (length p.fit))) =
        sum_by-IsPermutation (λ (x : ℕ × ℕ). bit (nat_eq r x.0))
        (map (behind_rank p) (range_with_len 0 (length p.fit))) order is.all in
        let counted = counted_map (λ (x : ℕ × ℕ). nat_eq r x.0) (behind_rank p) (length p.fit) in
        let few = at_most_one (λ d. nat_eq r (get_or p.rank d 0)) (length p.fit) (λ a b l m s t.
        differ_at p.rank a b good.distinct l (omega (arith, m, good.ranked))
        (sym (eqb-true r (get_or p.rank a 0) s) ∙ eqb-true r (get_or p.rank b 0) t)) in
        omega (arith, moved, counted, few)

    pub rank_strict : (i j : ℕ) → i < j → j < length order → (placed i).0 < (placed j).0
    rank_strict i j l m =
        let le = rank_rises i j (omega arith) m in
        elim (cases_eq (placed i).0 (placed j).0) [
          | inl e ↦ absurd (let two =
              counted_two (λ (x : ℕ × ℕ). nat_eq (placed i).0 x.0) order i j (0, 0) l m
              (eq-eqb (placed i).0 (placed i).0 refl) (eq-eqb (placed i).0 (placed j).0 e) in
              let one = once (placed i).0 in omega (arith, two, one))
          | inr n ↦ omega (arith, le, n)
        ]

    pub others : (i j : ℕ) → i < j → j < length order → (placed i).1 ≡ (placed j).1 → ⊥
    others i j l m e =
        let less = rank_strict i j l m in
        let same : get_or p.rank (placed i).1 0 ≡ get_or p.rank (placed j).1 0 = ap (λ c. get_or p.rank c 0) e in
        let a = rank_read i (omega arith) in let b = rank_read j m in omega (arith, less, same, a, b)

    pub met_before : (q : Plan ℕ ℕ) (h j : ℕ) → j < length order
        → met p order q h j ≡ count_by (λ d. nat_lt (get_or p.rank d 0) (get_or p.rank (placed j).1 0))
        (occupants (seating_of p) q h)
    met_before q h j l =
        let r : ℕ = (placed j).0 in
        let T : ℕ × ℕ → Bool = λ x. nat_lt x.0 r && is_hall (seating_of p) h (q x.1) in
        let pairs : List (ℕ × ℕ) = map (behind_rank p) (range_with_len 0 (length p.fit)) in
        let front : met p order q h j ≡ count_by T order =
        front_counted (λ (x : ℕ × ℕ). is_hall (seating_of p) h (q x.1)) T order j (0, 0)
        (λ i m k. sym (ap (λ b. b && is_hall (seating_of p) h (q (placed i).1))
        (lt-ltb (placed i).0 r (rank_strict i j m l))))
        (λ i m k. ap (λ b. b && is_hall (seating_of p) h (q (placed i).1))
        (le-ltb (placed i).0 r (rank_rises j i m k))) in
        let moved : count_by T order ≡ count_by T pairs = sum_by-IsPermutation (λ x. bit (T x)) pairs order is.all in
        front ∙ moved ∙ counted_map T (behind_rank p) (length p.fit)
        ∙ sym (passing_counted (λ d. nat_lt (get_or p.rank d 0) r) (λ d. is_hall (seating_of p) h (q d)) (length p.fit))
        ∙ sym (below_count p q h r)
        ∙ ap (λ (s : ℕ). count_by (λ d. nat_lt (get_or p.rank d 0) s) (occupants (seating_of p) q h)) (rank_read j l)

-- ---- the loop

-- the first i have their numbers, and each hall has a count of them
pub record IsNumberedUpTo (p : Problem) (order : List (ℕ × ℕ)) (q : Plan ℕ ℕ) (i : ℕ) (counts : List ℕ)
    (numbers : List (Option ℕ)) : Type 0 where
  pub long : length numbers ≡ length p.fit
  pub room : length p.desk_counts ≤ length counts
  pub counted : (h : ℕ) → h < length p.desk_counts → get_or counts h 0 ≡ met p order q h i
  pub numbered : (j h : ℕ) → j < i → q (get_or order j (0, 0)).1 ≡ Some h
      → get_or numbers (get_or order j (0, 0)).1 None ≡ Some (met p order q h j + 1)
  pub nobody : (c : ℕ) → q c ≡ None → get_or numbers c None ≡ None

pub none_numbered : (p : Problem) (order : List (ℕ × ℕ)) (q : Plan ℕ ℕ) (counts : List ℕ) (numbers : List (Option ℕ))
    (n : ℕ) → n ≡ length p.fit → numbers ≡ replicate n None
    → length p.desk_counts ≤ length counts → ((h : ℕ) → h < length p.desk_counts → get_or counts h 0 ≡ 0)
    → IsNumberedUpTo p order q 0 counts numbers
none_numbered p order q counts numbers n many blank room none = record {
  long = ap length blank ∙ length-replicate n None ∙ many;
  room = room;
  counted = none;
  numbered = λ j h l sits. absurd (omega arith);
  nobody = λ c sits. ap (λ xs. get_or xs c None) blank
      ∙ elim (cases_lt c n) [
        | inl l ↦ get_or-replicate n c None None l
        | inr g ↦ get_or_past (replicate n None) c None
            (let long : length (replicate {A = Option ℕ} n None) ≡ n = length-replicate n None in
            omega (arith, long, g))
      ];
}

-- the hall of the next one exists, and has at most as many so far as there were
pub taken_few : (p : Problem) (order : List (ℕ × ℕ)) (m : List (Option ℕ)) (i h : ℕ) (counts : List ℕ)
    (numbers : List (Option ℕ)) → IsDeskOrder p order → length m ≡ length p.fit
    → All (λ place. IfSome place (λ k. k < length p.desk_counts)) m → i < length order
    → get_or m (get_or order i (0, 0)).1 None ≡ Some h → IsNumberedUpTo p order (plan_at m) i counts numbers
    → (h < length p.desk_counts) × (get_or counts h 0 ≤ i)
taken_few p order m i h counts numbers is whole exist below here so_far =
    let candidate = candidate_below p order is i below in
    let exists : h < length p.desk_counts =
    place_below m (length p.desk_counts) (get_or order i (0, 0)).1 h exist (omega (arith, candidate, whole)) here in
    let count = so_far.counted h exists in let few = met_few p order (plan_at m) h i in
    (exists, omega (arith, count, few))

module _ (p : Problem) (order : List (ℕ × ℕ)) (q : Plan ℕ ℕ) (i : ℕ) (counts : List ℕ) (numbers : List (Option ℕ))
    (is : IsDeskOrder p order) (good : IsProblem p) (below : i < length order)
    (before : IsNumberedUpTo p order q i counts numbers) where
  abbrev here : ℕ
  here = (get_or order i (0, 0)).1

  pub skipped : q here ≡ None → IsNumberedUpTo p order q (i + 1) counts numbers
  skipped none = record {
    long = before.long;
    room = before.room;
    counted = λ h l. (let more = met_more p order q h i below in
        let zero : bit (is_hall (seating_of p) h (q here)) ≡ 0 = ap (λ o. bit (is_hall (seating_of p) h o)) none in
        let was = before.counted h l in omega (arith, more, zero, was));
    numbered = λ j h l sits. elim (cases_lt j i) [
      | inl m ↦ before.numbered j h m sits
      | inr m ↦ absurd (let same : i ≡ j = omega arith in
          let other : None ≡ Some h = sym none ∙ ap (λ k. q (get_or order k (0, 0)).1) same ∙ sits in cc)
    ];
    nobody = before.nobody;
  }

  pub given : (h : ℕ) → q here ≡ Some h → h < length p.desk_counts
      → IsNumberedUpTo p order q (i + 1) (set counts h (get_or counts h 0 + 1))
      (set numbers here (Some (get_or (set counts h (get_or counts h 0 + 1)) h 0)))
  given h sits exists =
      let new : get_or (set counts h (get_or counts h 0 + 1)) h 0 ≡ get_or counts h 0 + 1 =
      get_or-set_same counts h (get_or counts h 0 + 1) 0 (omega (arith, exists, before.room)) in
      let inside : here < length numbers =
      (let c = candidate_below p order is i below in omega (arith, c, before.long)) in
      record {
        long = rw length-set before.long;
        room = rw length-set before.room;
        counted = one_counted (length p.desk_counts) h (get_or counts h 0) counts (λ k. met p order q k i)
            (λ k. met p order q k (i + 1)) before.room before.counted
            (λ k. met_more p order q k i below ∙ ap (λ o. met p order q k i + bit (is_hall (seating_of p) k o)) sits)
            (get_or_default counts h 0 (get_or counts h 0) (omega (arith, exists, before.room)));
        numbered = λ j k l there. elim (cases_lt j i) [
          | inl m ↦ get_or-set_other numbers here (get_or order j (0, 0)).1 _ None
              (λ e. others p order is good j i m below e) ∙ before.numbered j k m there
          | inr m ↦ (let same : i ≡ j = omega arith in
              let halls : Some h ≡ Some k = sym sits ∙ ap (λ x. q (get_or order x (0, 0)).1) same ∙ there in
              let hall : h ≡ k = cc in
              let count : get_or (set counts h (get_or counts h 0 + 1)) h 0 ≡ met p order q k j + 1 =
              new ∙ ap (λ x. x + 1) (before.counted h exists) ∙ ap (λ x. met p order q x i + 1) hall
              ∙ ap (λ x. met p order q k x + 1) same in
              ap (λ x. get_or (set numbers here (Some (get_or (set counts h (get_or counts h 0 + 1)) h 0)))
              (get_or order x (0, 0)).1 None) (sym same)
              ∙ get_or-set_same numbers here (Some (get_or (set counts h (get_or counts h 0 + 1)) h 0)) None inside
              ∙ ap Some count)
        ];
        nobody = λ c none. get_or-set_other numbers here c _ None
            (λ e. (let clash : None ≡ Some h = sym none ∙ ap q e ∙ sits in cc)) ∙ before.nobody c none;
      }

pub all_numbered : (p : Problem) (order : List (ℕ × ℕ)) (q : Plan ℕ ℕ) (i : ℕ) (counts : List ℕ)
    (numbers : List (Option ℕ)) → IsDeskOrder p order → IsProblem p → length order ≤ i
    → IsNumberedUpTo p order q i counts numbers
    → numbers ≡ map (desk_number (seating_of p) (ranks_before p) q) (range_with_len 0 (length p.fit))
all_numbered p order q i counts numbers is good end done =
    fill_by_all (desk_number (seating_of p) (ranks_before p) q) numbers (length p.fit) None done.long
    (λ c l. inner c l (q c) refl)
  where
    inner : (c : ℕ) → c < length p.fit → (o : Option ℕ) → q c ≡ o
        → get_or numbers c None ≡ desk_number (seating_of p) (ranks_before p) q c
    inner c l None e = done.nobody c e
        ∙ sym (ap (option_map (λ k. count_by (λ d. ranks_before p d c) (occupants (seating_of p) q k) + 1)) e)
    inner c l (Some h) e =
        let j = place_of p order is c l in
        ap (λ k. get_or numbers k None) (sym j.2)
        ∙ done.numbered j.0 h (omega (arith, j.1, end)) (ap q j.2 ∙ e)
        ∙ ap (λ x. Some (x + 1))
        (met_before p order is good q h j.0 j.1
        ∙ ap (λ k. count_by (λ d. nat_lt (get_or p.rank d 0) (get_or p.rank k 0)) (occupants (seating_of p) q h))
        j.2)
        ∙ sym (number_at p q h c e)
