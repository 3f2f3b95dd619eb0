-- Places in the order of desks.
use Rattle.exam_rules.proofs.Words.{Ordering, Less, Equal, Greater, nat_cmp, ordering_reverse, is_lt, IsTotalOrder}
use Rattle.exam_rules.proofs.Words.{nat_cmp_total, on_total, then_total, nat_list_cmp_total, All, AllByRecursion}
use Rattle.exam_rules.proofs.Words.{list_any, IsStrictlySortedBy, sorted_head, sorted_tail, exact_unsigned}
use Rattle.exam_rules.proofs.Words.{exact_unsigned_eq, le-ltb, lt-ltb, ne_eqb, tied_itself, ranked, length-map, map-map}
use Rattle.exam_rules.proofs.Words.{most_members, Code, Relations, code_cmp, members, sitting, fits, desks, open_halls}
use Rattle.exam_rules.proofs.Words.{fitting_places, desk_key, desk_cmp, comes_before, rank, problem_of}
use Rattle.std.proofs.Common.{◌≡◌, ℕ, zero, suc, ◌+◌, ◌<◌, ◌≤◌, Bool, true, false, cond, ◌||◌, List, [], ◌∷◌, ◌++◌}
use Rattle.std.proofs.Common.{length, map, count_by, get_or, drop, drop-cons, append_assoc, append-nil, add-one, nat_eq}
use Rattle.std.proofs.Common.{Option, IsSorted, refl, sym, ap, ◌∙◌, arith, inl, inr}
use Rattle.std.specs.Ordering.{ordering_index}
use Rattle.std.specs.Option.{option_cmp}
use Rattle.std.specs.Cmp.Lexicographic.{options_total}
use Rattle.std.specs.List.{IsDistinct}
use Rattle.std.specs.List.Sorted.{IsPermutation, IsPartitionedBy}
use Rattle.std.proofs.lemmas.List.Sums.{sum_by-le-sum_by}
use Rattle.std.proofs.lemmas.List.Sorted.{searchable_from_sorted, sum_by-IsPermutation}
use Rattle.std.proofs.lemmas.Map.Made.{All-is_member}
use Rattle.std.specs.Prelude.{nat_lt}
use Rattle.std.proofs.lemmas.Bool.{cases_Bool}
use Rattle.std.proofs.lemmas.Cmp.{nat_eq_equiv}
use Rattle.std.proofs.lemmas.List.{drop_all}
use Rattle.std.proofs.lemmas.List.Elements.{All-map, recursion_from_All}
use Rattle.std.proofs.lemmas.List.Folds.{fold-map}
use Rattle.exam_plan.specs.Problems.{Problem, IsProblem}
use Rattle.exam_plan.proofs.Counting.{bit, bit_le, count_by-cons}
use Rattle.exam_plan.proofs.Small.{both_tie}
use Rattle.exam_rules.proofs.Places.{positions_rise, positions_exist}
use Rattle.exam_rules.specs.Seatings.{ranks_of}

pub desk_total : IsTotalOrder desk_cmp
desk_total = then_total (on_total (λ (k : Option Code × ℕ). k.0) (options_total nat_list_cmp_total))
    (on_total (λ (k : Option Code × ℕ). k.1) nat_cmp_total)

least_index : (o p : Ordering) → ordering_index o ≤ ordering_index p → is_lt p ≡ true → is_lt o ≡ true
least_index Less p h e = refl
least_index Equal Less h e = absurd (omega arith)
least_index Equal Equal h e = e
least_index Equal Greater h e = absurd (let f : false ≡ true = e in cc)
least_index Greater Less h e = absurd (omega arith)
least_index Greater Equal h e = absurd (omega arith)
least_index Greater Greater h e = e

-- in a sorted list the lesser keys come first
pub lesser_first : (sorted : List (Option Code × ℕ)) (key : Option Code × ℕ) → IsSorted desk_cmp sorted
    → IsPartitionedBy (λ other. is_lt (desk_cmp other key)) sorted
lesser_first sorted key up = λ i j d le below passes.
    least_index (desk_cmp (get_or sorted i d) key) (desk_cmp (get_or sorted j d) key)
    (searchable_from_sorted desk_total (λ (k : Option Code × ℕ). k) sorted key up i j d le below) passes

module _ {A : Type 0} where
  -- if those that pass come first, up to i, there are i of them
  pub count_at_point : (p : A → Bool) (xs : List A) (i : ℕ) → i ≤ length xs
      → ((k : ℕ) (d : A) → k < i → p (get_or xs k d) ≡ true)
      → ((k : ℕ) (d : A) → i ≤ k → k < length xs → p (get_or xs k d) ≡ false) → i ≡ count_by p xs
  count_at_point p [] i bound front back = omega arith
  count_at_point p (x ∷ xs) zero bound front back =
      let e : bit (p x) ≡ 0 = ap bit (back 0 x (omega arith) (omega arith)) in
      let rest : 0 ≡ count_by p xs =
      count_at_point p xs zero (omega arith) (λ k d h. absurd (omega arith))
      (λ k d h l. back (suc k) d (omega arith) (omega arith)) in
      let c = count_by-cons p x xs in omega (arith, e, rest, c)
  count_at_point p (x ∷ xs) (suc i) bound front back =
      let e : bit (p x) ≡ 1 = ap bit (front 0 x (omega arith)) in
      let rest : i ≡ count_by p xs =
      count_at_point p xs i (omega arith) (λ k d h. front (suc k) d (omega arith))
      (λ k d h l. back (suc k) d (omega arith) (omega arith)) in
      let c = count_by-cons p x xs in omega (arith, e, rest, c)

  count_le : (p q : A → Bool) (xs : List A) → ((x : A) → p x ≡ true → q x ≡ true) → count_by p xs ≤ count_by q xs
  count_le p q xs h = sum_by-le-sum_by (λ x. bit (p x)) (λ x. bit (q x)) xs (λ x. bit_le (p x) (q x) (h x))

  -- if one of the list passes q and not p, fewer pass p
  pub count_less : (p q : A → Bool) (same : A → A → Bool) (a : A) → ((x : A) → same a x ≡ true → a ≡ x) → (xs : List A)
      → ((x : A) → p x ≡ true → q x ≡ true) → list_any (same a) xs ≡ true → p a ≡ false → q a ≡ true
      → count_by p xs < count_by q xs
  count_less p q same a exact [] h there out into = absurd (let k : false ≡ true = there in cc)
  count_less p q same a exact (x ∷ xs) h there out into =
      let k = count_by-cons p x xs in
      let l = count_by-cons q x xs in
      elim (cases_Bool (same a x)) [
        | inl t ↦ (let is : a ≡ x = exact x t in let e : bit (p x) ≡ 0 = ap bit (ap p (sym is) ∙ out) in
            let f : bit (q x) ≡ 1 = ap bit (ap q (sym is) ∙ into) in
            let m = count_le p q xs h in omega (arith, k, l, e, f, m))
        | inr t ↦ (let rest =
            count_less p q same a exact xs h (sym (ap (λ b. b || list_any (same a) xs) t) ∙ there) out into in
            let m = bit_le (p x) (q x) (h x) in omega (arith, k, l, rest, m))
      ]

map_same : {A B : Type 0} (f g : A → B) → ((x : A) → f x ≡ g x) → (xs : List A) → map f xs ≡ map g xs
map_same f g h xs = λ i. map (λ x. h x i) xs

-- counted in the sorted list or in the list itself
pub ranks_sorted : (keys sorted : List (Option Code × ℕ)) → IsPermutation keys sorted
    → map (λ k. count_by (λ other. is_lt (desk_cmp other k)) sorted) keys ≡ ranks_of keys
ranks_sorted keys sorted moved =
    map_same _ _ (λ k. sum_by-IsPermutation (λ other. cond (is_lt (desk_cmp other k)) 1 0) keys sorted moved) keys

-- one more element of a map has been appended
pub map_step : {A Y : Type 0} (f : A → Y) (xs : List A) (i : ℕ) (d : A) (before after whole : List Y) → i < length xs
    → after ≡ before ++ f (get_or xs i d) ∷ [] → before ++ map f (drop i xs) ≡ whole
    → after ++ map f (drop (i + 1) xs) ≡ whole
map_step f xs i d before after whole below pushed so_far =
    rw (pushed, append_assoc, add-one) (ap (λ t. before ++ map f t) (sym (drop-cons xs i d below)) ∙ so_far)

-- at the end of such a loop
pub map_end : {A Y : Type 0} (f : A → Y) (xs : List A) (i : ℕ) (before : List Y) → length xs ≤ i
    → before ++ map f (drop i xs) ≡ map f xs → before ≡ map f xs
map_end f xs i before over so_far =
    sym (append-nil before) ∙ ap (λ t. before ++ map f t) (sym (drop_all i xs over)) ∙ so_far

-- each element of a list is in it
pub all_there : (xs : List ℕ) → AllByRecursion (λ x. list_any (nat_eq x) xs ≡ true) xs
all_there xs = recursion_from_All (λ x. list_any (nat_eq x) xs ≡ true) xs (All-is_member nat_eq_equiv xs)

module _ (r : Relations) (s : Code) where
  -- the ranks of the members' keys are the members' ranks
  pub ranks_of_members : ranks_of (map (desk_key r s) (members r s)) ≡ map (rank r s) (members r s)
  ranks_of_members = map-map (λ k. count_by (λ other. is_lt (desk_cmp other k)) (map (desk_key r s) (members r s)))
      (desk_key r s) (members r s)
      ∙ map_same _ (rank r s)
      (λ c. fold-map (λ (n : ℕ) (other : Option Code × ℕ). n + bit (is_lt (desk_cmp other (desk_key r s c))))
      (desk_key r s) 0 (members r s)) (members r s)

  lt_from : (o : Ordering) → is_lt o ≡ true → o ≡ Less
  lt_from Less e = refl
  lt_from Equal e = absurd (let f : false ≡ true = e in cc)
  lt_from Greater e = absurd (let f : false ≡ true = e in cc)

  -- a member who comes before another has a lesser rank
  pub rank_rises : (c d : ℕ) → list_any (nat_eq c) (members r s) ≡ true
      → desk_cmp (desk_key r s c) (desk_key r s d) ≡ Less → rank r s c < rank r s d
  rank_rises c d member before =
      count_less (λ x. comes_before r s x c) (λ x. comes_before r s x d) nat_eq c (λ x e. exact_unsigned_eq c x e)
      (members r s)
      (λ x e. ap is_lt (desk_total.trans (desk_key r s x) (desk_key r s c) (desk_key r s d)
      (lt_from (desk_cmp (desk_key r s x) (desk_key r s c)) e) before))
      member (ap is_lt (tied_itself desk_total (desk_key r s c))) (ap is_lt before)

  -- of two members, one has the lesser number, so their ranks differ
  rank_apart : (c d : ℕ) → list_any (nat_eq c) (members r s) ≡ true → list_any (nat_eq d) (members r s) ≡ true → c < d
      → nat_eq (rank r s c) (rank r s d) ≡ false
  rank_apart c d mc md lt = inner (desk_cmp (desk_key r s c) (desk_key r s d)) refl
    where
      inner : (o : Ordering) → desk_cmp (desk_key r s c) (desk_key r s d) ≡ o → nat_eq (rank r s c) (rank r s d) ≡ false
      inner Less e = ne_eqb (rank r s c) (rank r s d)
          (λ h. let k : rank r s c < rank r s d = rank_rises c d mc e in omega arith)
      inner Equal e = absurd
          (let k : c ≡ d = exact_unsigned c d
          (both_tie (option_cmp code_cmp (sitting r s c) (sitting r s d)) (nat_cmp c d) e).1 in omega arith)
      inner Greater e = ne_eqb (rank r s c) (rank r s d)
          (λ h. let k : rank r s d < rank r s c =
          rank_rises d c md (desk_total.antisymm (desk_key r s d) (desk_key r s c) ∙ ap ordering_reverse e) in
          omega arith)

  -- the rest of the members have other ranks than one before them
  others : (c : ℕ) (cs : List ℕ) → list_any (nat_eq c) (members r s) ≡ true
      → AllByRecursion (λ d. list_any (nat_eq d) (members r s) ≡ true) cs → AllByRecursion (λ d. nat_cmp c d ≡ Less) cs
      → AllByRecursion (λ n. nat_eq (rank r s c) n ≡ false) (map (rank r s) cs)
  others c [] mc ms above = tt
  others c (d ∷ cs) mc ms above = (rank_apart c d mc ms.0 (ranked c d Less (sym above.0)), others c cs mc ms.1 above.1)

  ranks_differ : (cs : List ℕ) → AllByRecursion (λ d. list_any (nat_eq d) (members r s) ≡ true) cs
      → IsStrictlySortedBy nat_cmp cs → IsDistinct nat_eq (map (rank r s) cs)
  unfolding IsDistinct
  ranks_differ [] ms up = tt
  ranks_differ (c ∷ cs) ms up =
      (others c cs ms.0 ms.1 (sorted_head nat_cmp c cs up), ranks_differ cs ms.1 (sorted_tail nat_cmp c cs up))

  pub ranks_distinct : IsStrictlySortedBy nat_cmp (members r s) → IsDistinct nat_eq (map (rank r s) (members r s))
  ranks_distinct up = ranks_differ (members r s) (all_there (members r s)) up

  pub is_problem : IsStrictlySortedBy nat_cmp (members r s) → length (members r s) ≤ most_members
      → IsProblem (problem_of r s)
  is_problem up few = record {
    few = rw (length-map (members r s) (λ c. fitting_places r s c (open_halls r s))) few;
    ranked = length-map (members r s) (rank r s)
        ∙ sym (length-map (members r s) (λ c. fitting_places r s c (open_halls r s)));
    distinct = ranks_distinct up;
    rising = All-map (IsStrictlySortedBy nat_cmp) (λ c. fitting_places r s c (open_halls r s)) (members r s)
        (λ k d h. positions_rise (fits r s (get_or (members r s) k d)) 0 (open_halls r s));
    exist = All-map (All (λ h. h < length (map (desks r s) (open_halls r s))))
        (λ c. fitting_places r s c (open_halls r s)) (members r s)
        (λ k d h. rw (length-map (open_halls r s) (desks r s))
        (positions_exist (fits r s (get_or (members r s) k d)) (open_halls r s)));
  }

  pub parts_are : (counts : List ℕ) (fit : List (List ℕ)) (places : List ℕ) → counts ≡ map (desks r s) (open_halls r s)
      → fit ≡ map (λ c. fitting_places r s c (open_halls r s)) (members r s) → places ≡ map (rank r s) (members r s)
      → let p : Problem = record { desk_counts = counts; fit = fit; rank = places } in p ≡ problem_of r s
  parts_are counts fit places a b c = λ i. record { desk_counts = a i; fit = b i; rank = c i }

  -- members come in the order of their ranks
  pub order_is_rank : (c d : ℕ) → list_any (nat_eq c) (members r s) ≡ true → list_any (nat_eq d) (members r s) ≡ true
      → comes_before r s c d ≡ nat_lt (rank r s c) (rank r s d)
  order_is_rank c d mc md = inner (desk_cmp (desk_key r s c) (desk_key r s d)) refl
    where
      inner : (o : Ordering) → desk_cmp (desk_key r s c) (desk_key r s d) ≡ o
          → is_lt o ≡ nat_lt (rank r s c) (rank r s d)
      inner Less e = sym (lt-ltb (rank r s c) (rank r s d) (rank_rises c d mc e))
      inner Equal e = sym (le-ltb (rank r s c) (rank r s d)
          (let k : c ≡ d = exact_unsigned c d
          (both_tie (option_cmp code_cmp (sitting r s c) (sitting r s d)) (nat_cmp c d) e).1 in
          let m : rank r s c ≡ rank r s d = ap (rank r s) k in omega arith))
      inner Greater e = sym
          (le-ltb (rank r s c) (rank r s d)
          (let k : rank r s d < rank r s c =
          rank_rises d c md (desk_total.antisymm (desk_key r s d) (desk_key r s c) ∙ ap ordering_reverse e) in
          omega arith))
