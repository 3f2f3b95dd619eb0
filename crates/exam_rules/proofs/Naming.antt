-- The problem by indices is the seating by numbers and codes.
use Rattle.exam_rules.proofs.Words.{Ordering, Less, Equal, nat_cmp, ordering_then, is_eq, IsTotalOrder, nat_cmp_total}
use Rattle.exam_rules.proofs.Words.{nat_list_cmp_total, texts_ties, AllByRecursion, list_any, keys_of, option_map}
use Rattle.exam_rules.proofs.Words.{option_and_then, IsStrictlySortedBy, tied_itself, ranked, and_parts, ne_eqb}
use Rattle.exam_rules.proofs.Words.{get_or-map, length-map, All-from_recursion, sorted_head, sorted_tail}
use Rattle.exam_rules.proofs.Words.{Less-from_sorted, exact_bytes, exact_unsigned_eq, Opening, Room, Code, Relations}
use Rattle.exam_rules.proofs.Words.{code_cmp, same_code, opening_cmp, row_at, members, has_live_entry, barred_halls}
use Rattle.exam_rules.proofs.Words.{positions, fits, desks, open_halls, fitting_places, problem_of, rank, comes_before}
use Rattle.exam_rules.proofs.Words.{sitting_terms, opened_room, naming, number_at, hall_at, index_of, hall_index}
use Rattle.exam_rules.proofs.Words.{ListsRise}
use Rattle.std.proofs.Common.{◌≡◌, ℕ, zero, suc, ◌+◌, ◌<◌, ◌≤◌, Bool, true, false, cond, not, ◌&&◌, ◌||◌, IsTrue, List}
use Rattle.std.proofs.Common.{[], ◌∷◌, length, map, filter, get_or, nat_eq, Contains, Option, None, Some, IsSome, refl}
use Rattle.std.proofs.Common.{sym, ap, subst, ◌∙◌, inl, inr, arith}
use Rattle.std.specs.Cmp.{Equal-is}
use Rattle.std.specs.List.{range_with_len}
use Rattle.std.specs.Prelude.{nat_lt}
use Rattle.std.proofs.lemmas.Cmp.{nat_eq_equiv}
use Rattle.std.proofs.lemmas.Bool.{cases_lt, eq-eqb, false_from_ne_true, or_right}
use Rattle.std.proofs.lemmas.List.{get_or_past, get_or_default}
use Rattle.std.proofs.lemmas.List.FromFn.{fill_by_all, length-range_with_len, get_or-range_with_len}
use Rattle.std.proofs.lemmas.Option.{same_Some}
use Rattle.exam_plan.specs.Problems.{ranks_before}
use Rattle.exam_plan.proofs.Renaming.{Renames}
use Rattle.exam_plan.proofs.Seatings.{any_below}
use Rattle.exam_plan.proofs.Small.{both_tie}
use Rattle.exam_rules.specs.declared.rows.Hall.{Hall}
use Rattle.exam_rules.specs.declared.fit.Terms.{Terms}
use Rattle.exam_rules.specs.Seatings.{suits_opened, room_of}
use Rattle.exam_rules.specs.Names.{first_place}
use Rattle.exam_rules.proofs.Places.{within}
use Rattle.exam_rules.proofs.Ranking.{all_there, order_is_rank}

-- ---- codes are distinct

pub same_code_exact : (h k : Code) → same_code h k ≡ true → h ≡ k
same_code_exact h k e = exact_bytes h k ((Equal-is (code_cmp h k)).0 (sym (texts_ties h k) ∙ e))

pub same_code_itself : (h : Code) → same_code h h ≡ true
same_code_itself h = texts_ties h h ∙ ap is_eq (tied_itself nat_list_cmp_total h)

-- what is greater is another
pub later_is_other : {A : Type 0} (same : A → A → Bool) → ((x y : A) → same x y ≡ true → x ≡ y)
    → (cmp : A → A → Ordering) → IsTotalOrder cmp → (x y : A) → cmp x y ≡ Less → same y x ≡ false
later_is_other same exact cmp o x y less =
    false_from_ne_true (same y x)
    (λ t. let tied : Less ≡ Equal = sym less ∙ ap (cmp x) (exact y x t) ∙ tied_itself o x in cc)

-- ---- the place of an element

module _ {A : Type 0} (same : A → A → Bool) (exact : (x y : A) → same x y ≡ true → x ≡ y)
    (itself : (x : A) → same x x ≡ true) where
  -- if a place is given, the element is there
  pub place_is : (h : A) (n : ℕ) (xs : List A) (d : A) (i : ℕ) → first_place (same h) n xs ≡ Some i
      → (k : ℕ) × (i ≡ n + k) × (k < length xs) × (get_or xs k d ≡ h)
  place_is h n [] d i e = absurd (let f : None ≡ Some i = e in cc)
  place_is h n (x ∷ xs) d i e = inner (same h x) refl e (place_is h (n + 1) xs d i)
    where
      later : (k : ℕ) × (i ≡ (n + 1) + k) × (k < length xs) × (get_or xs k d ≡ h)
          → (k : ℕ) × (i ≡ n + k) × (k < length (x ∷ xs)) × (get_or (x ∷ xs) k d ≡ h)
      later w = (
        suc w.0,
        (let f : i ≡ (n + 1) + w.0 = w.1 in omega arith),
        (let f : w.0 < length xs = w.2 in omega arith),
        w.3,
      )

      inner : (b : Bool) → same h x ≡ b → cond b (Some n) (first_place (same h) (n + 1) xs) ≡ Some i
          → (first_place (same h) (n + 1) xs ≡ Some i
          → (k : ℕ) × (i ≡ (n + 1) + k) × (k < length xs) × (get_or xs k d ≡ h))
          → (k : ℕ) × (i ≡ n + k) × (k < length (x ∷ xs)) × (get_or (x ∷ xs) k d ≡ h)
      inner true t f rest = (0, (let g : n ≡ i = same_Some n i f in omega arith), omega arith, sym (exact h x t))
      inner false t f rest = later (rest f)

  -- in a whole list the place that is given is where the element is
  place_at : (h : A) (xs : List A) (d : A) (i : ℕ) → first_place (same h) 0 xs ≡ Some i
      → (i < length xs) × (get_or xs i d ≡ h)
  place_at h xs d i e =
      let w = place_is h 0 xs d i e in
      let at : i ≡ w.0 = (let is : i ≡ 0 + w.0 = w.1 in omega arith) in
      (subst (λ t. t < length xs) (sym at) w.2, ap (λ t. get_or xs t d) at ∙ w.3)

  -- each element of a rising list is found at its place
  pub place_known : (cmp : A → A → Ordering) → IsTotalOrder cmp → (n : ℕ) (xs : List A) (d : A) (k i : ℕ)
      → IsStrictlySortedBy cmp xs → k < length xs → i ≡ n + k → first_place (same (get_or xs k d)) n xs ≡ Some i
  place_known cmp o n [] d k i up below e = absurd (omega arith)
  place_known cmp o n (x ∷ xs) d zero i up below e = rw (itself x) (ap Some (omega arith))
  place_known cmp o n (x ∷ xs) d (suc k) i up below e =
      let less : cmp x (get_or xs k d) ≡ Less =
      All-from_recursion (λ y. cmp x y ≡ Less) xs (sorted_head cmp x xs up) k d (omega arith) in
      let other : same (get_or xs k d) x ≡ false = later_is_other same exact cmp o x (get_or xs k d) less in
      rw other (place_known cmp o (n + 1) xs d k i (sorted_tail cmp x xs up) (omega arith) (omega arith))

  -- an element of the list has a place
  pub place_exists : (h : A) (n : ℕ) (xs : List A) → list_any (same h) xs ≡ true → IsSome (first_place (same h) n xs)
  place_exists h n [] e = absurd (let f : false ≡ true = e in cc)
  place_exists h n (x ∷ xs) e = inner (same h x) e (place_exists h (n + 1) xs)
    where
      inner : (b : Bool) → (b || list_any (same h) xs) ≡ true
          → (list_any (same h) xs ≡ true → IsSome (first_place (same h) (n + 1) xs))
          → IsSome (cond b (Some n) (first_place (same h) (n + 1) xs))
      inner true f rest = refl
      inner false f rest = rest f

-- ---- the places of a row

none_below : {A : Type 0} (p : A → Bool) (m n : ℕ) (xs : List A) → m < n
    → list_any (nat_eq m) (positions p n xs) ≡ false
none_below p m n [] h = refl
none_below p m n (x ∷ xs) h = inner (p x) (none_below p m (n + 1) xs (omega arith))
  where
    inner : (b : Bool) → list_any (nat_eq m) (positions p (n + 1) xs) ≡ false
        → list_any (nat_eq m) (cond b (n ∷ positions p (n + 1) xs) (positions p (n + 1) xs)) ≡ false
    inner true rest = rw (ne_eqb m n (λ s. omega arith)) rest
    inner false rest = rest

-- a place is listed exactly if the element there passes
pub any_place : {A : Type 0} (p : A → Bool) (n : ℕ) (xs : List A) (d : A) (k m : ℕ) → k < length xs → m ≡ n + k
    → list_any (nat_eq m) (positions p n xs) ≡ p (get_or xs k d)
any_place p n [] d k m below e = absurd (omega arith)
any_place p n (x ∷ xs) d zero m below e = inner (p x) (none_below p m (n + 1) xs (omega arith))
  where
    here : nat_eq m n ≡ true
    here = eq-eqb m n (omega arith)

    inner : (b : Bool) → list_any (nat_eq m) (positions p (n + 1) xs) ≡ false
        → list_any (nat_eq m) (cond b (n ∷ positions p (n + 1) xs) (positions p (n + 1) xs)) ≡ b
    inner true rest = rw here refl
    inner false rest = rest
any_place p n (x ∷ xs) d (suc k) m below e = inner (p x) (any_place p (n + 1) xs d k m (omega arith) (omega arith))
  where
    there : nat_eq m n ≡ false
    there = ne_eqb m n (λ s. omega arith)

    inner : (b : Bool) → list_any (nat_eq m) (positions p (n + 1) xs) ≡ p (get_or xs k d)
        → list_any (nat_eq m) (cond b (n ∷ positions p (n + 1) xs) (positions p (n + 1) xs)) ≡ p (get_or xs k d)
    inner true rest = rw there rest
    inner false rest = rest

-- ---- what fits is opened

lookup_any : (s h : Code) (es : List ((Code × Code) × Opening)) → IsSome (row_at opening_cmp es (s, h))
    → list_any (same_code h) (map (λ (o : (Code × Code) × Opening). o.0.1) (filter (λ o. same_code o.0.0 s) es)) ≡ true
lookup_any s h [] e = absurd (let f : false ≡ true = e in cc)
lookup_any s h (o ∷ es) e = inner (is_eq (opening_cmp (s, h) o.0)) refl e (lookup_any s h es)
  where
    rest_of : List Code
    rest_of = map (λ (o : (Code × Code) × Opening). o.0.1) (filter (λ o. same_code o.0.0 s) es)

    found : (code_cmp s o.0.0 ≡ Equal) × (code_cmp h o.0.1 ≡ Equal)
        → list_any (same_code h)
        (map (λ (o : (Code × Code) × Opening). o.0.1) (filter (λ o. same_code o.0.0 s) (o ∷ es))) ≡ true
    found w =
        let own : same_code o.0.0 s ≡ true =
        ap (λ t. same_code t s) (sym (exact_bytes s o.0.0 w.0)) ∙ same_code_itself s in
        let is : same_code h o.0.1 ≡ true =
        ap (λ t. same_code h t) (sym (exact_bytes h o.0.1 w.1)) ∙ same_code_itself h in
        rw (own, is) refl

    skipped : (b : Bool) → list_any (same_code h) rest_of ≡ true
        → list_any (same_code h)
        (map (λ (o : (Code × Code) × Opening). o.0.1)
        (cond b (o ∷ filter (λ o. same_code o.0.0 s) es) (filter (λ o. same_code o.0.0 s) es))) ≡ true
    skipped true rest = or_right (same_code h o.0.1) (list_any (same_code h) rest_of) rest
    skipped false rest = rest

    inner : (b : Bool) → is_eq (opening_cmp (s, h) o.0) ≡ b → IsSome (cond b (Some o.1) (row_at opening_cmp es (s, h)))
        → (IsSome (row_at opening_cmp es (s, h)) → list_any (same_code h) rest_of ≡ true)
        → list_any (same_code h)
        (map (λ (o : (Code × Code) × Opening). o.0.1) (filter (λ o. same_code o.0.0 s) (o ∷ es))) ≡ true
    inner true t f rest =
        found (both_tie (code_cmp s o.0.0) (code_cmp h o.0.1) ((Equal-is (opening_cmp (s, h) o.0)).0 t))
    inner false t f rest = skipped (same_code o.0.0 s) (rest f)

-- the open halls of a session rise, if the openings are in order
pub halls_rise : (s : Code) (es : List ((Code × Code) × Opening)) → IsStrictlySortedBy opening_cmp (keys_of es)
    → IsStrictlySortedBy code_cmp (map (λ (o : (Code × Code) × Opening). o.0.1) (filter (λ o. same_code o.0.0 s) es))
unfolding IsStrictlySortedBy
halls_rise s [] up = tt
halls_rise s (o ∷ es) up =
    inner (same_code o.0.0 s) refl (halls_rise s es (sorted_tail opening_cmp o.0 (keys_of es) up))
  where
    less_hall : (k l : Code × Code) → k.0 ≡ l.0 → opening_cmp k l ≡ Less → code_cmp k.1 l.1 ≡ Less
    less_hall k l e less =
        let tie : code_cmp k.0 l.0 ≡ Equal = ap (code_cmp k.0) (sym e) ∙ tied_itself nat_list_cmp_total k.0 in
        sym (ap (λ t. ordering_then t (code_cmp k.1 l.1)) tie) ∙ less

    above : (rows : List ((Code × Code) × Opening)) → same_code o.0.0 s ≡ true
        → AllByRecursion (λ y. opening_cmp o.0 y ≡ Less) (keys_of rows)
        → AllByRecursion (λ h. code_cmp o.0.1 h ≡ Less)
        (map (λ (o : (Code × Code) × Opening). o.0.1) (filter (λ o. same_code o.0.0 s) rows))
    above [] own a = tt
    above (x ∷ rows) own a = turn (same_code x.0.0 s) refl (above rows own a.1)
      where
        turn : (b : Bool) → same_code x.0.0 s ≡ b
            → AllByRecursion (λ h. code_cmp o.0.1 h ≡ Less)
            (map (λ (o : (Code × Code) × Opening). o.0.1) (filter (λ o. same_code o.0.0 s) rows))
            → AllByRecursion (λ h. code_cmp o.0.1 h ≡ Less)
            (map (λ (o : (Code × Code) × Opening). o.0.1)
            (cond b (x ∷ filter (λ o. same_code o.0.0 s) rows) (filter (λ o. same_code o.0.0 s) rows)))
        turn true t rest = (less_hall o.0 x.0 (same_code_exact o.0.0 s own ∙ sym (same_code_exact x.0.0 s t)) a.0, rest)
        turn false t rest = rest

    inner : (b : Bool) → same_code o.0.0 s ≡ b
        → IsStrictlySortedBy code_cmp
        (map (λ (o : (Code × Code) × Opening). o.0.1) (filter (λ o. same_code o.0.0 s) es))
        → IsStrictlySortedBy code_cmp
        (map (λ (o : (Code × Code) × Opening). o.0.1)
        (cond b (o ∷ filter (λ o. same_code o.0.0 s) es) (filter (λ o. same_code o.0.0 s) es)))
    inner true t rest = (above es t (sorted_head opening_cmp o.0 (keys_of es) up), rest)
    inner false t rest = rest

module _ (r : Relations) (s : Code) where
  opened : (h : Code) → IsSome (opened_room r s h) → IsSome (row_at opening_cmp r.openings (s, h))
  opened h e = outer (row_at code_cmp r.halls h) e
    where
      inner : (hall : Hall) (o : Option Opening) → IsSome (option_map (room_of hall) o) → IsSome o
      inner hall None f = f
      inner hall (Some x) f = refl

      outer : (o : Option Hall)
          → IsSome (option_and_then (λ hall. option_map (room_of hall) (row_at opening_cmp r.openings (s, h))) o)
          → IsSome (row_at opening_cmp r.openings (s, h))
      outer None f = absurd (let g : false ≡ true = f in cc)
      outer (Some hall) f = inner hall (row_at opening_cmp r.openings (s, h)) f

  suited : (t : Option Terms) (o : Option Room) → suits_opened t o ≡ true → IsSome o
  suited None o e = absurd (let f : false ≡ true = e in cc)
  suited (Some t) None e = absurd (let f : false ≡ true = e in cc)
  suited (Some t) (Some x) e = refl

  pub fits_open : (c : ℕ) (h : Code) → IsTrue (fits r s c h) → list_any (same_code h) (open_halls r s) ≡ true
  fits_open c h e =
      lookup_any s h r.openings (opened h (suited (sitting_terms r s c) (opened_room r s h)
      (and_parts (suits_opened (sitting_terms r s c) (opened_room r s h))
      (not (list_any (same_code h) (barred_halls r s c)))
      (and_parts (has_live_entry r s c)
      (suits_opened (sitting_terms r s c) (opened_room r s h) && not (list_any (same_code h) (barred_halls r s c)))
      e).1).0))

  -- ---- the renaming

  abbrev rows : List (List ℕ)
  rows = map (λ c. fitting_places r s c (open_halls r s)) (members r s)

  row_is : (i : ℕ) → i < length (members r s) → get_or rows i [] ≡ fitting_places r s (number_at r s i) (open_halls r s)
  row_is i below = get_or-map (λ c. fitting_places r s c (open_halls r s)) (members r s) i 0 [] below

  -- the halls of a row are open halls
  row_bound : (i j : ℕ) → list_any (nat_eq j) (get_or rows i []) ≡ true
      → (i < length (members r s)) × (j < length (open_halls r s))
  row_bound i j e = elim
      (cases_lt i (length (members r s))) [
        | inl below ↦ (
          below,
          any_below j (length (open_halls r s)) (fitting_places r s (number_at r s i) (open_halls r s))
              (within (fits r s (number_at r s i)) 0 (length (open_halls r s)) (open_halls r s) (omega arith))
              (sym (ap (list_any (nat_eq j)) (row_is i below)) ∙ e),
        )
        | inr past ↦ absurd (empty past)
      ]
    where
      empty : length (members r s) ≤ i → ⊥
      empty past = let long : length rows ≡ length (members r s) =
          length-map (members r s) (λ c. fitting_places r s c (open_halls r s)) in
          let none : get_or rows i [] ≡ [] = get_or_past rows i [] (omega arith) in let f : false ≡ true =
          sym (ap (list_any (nat_eq j)) none) ∙ e in cc

  number_place : (c i : ℕ) → index_of r s c ≡ Some i → (i < length (members r s)) × (number_at r s i ≡ c)
  number_place c i e = place_at nat_eq exact_unsigned_eq nat_eq_equiv.refl c (members r s) 0 i e

  pub hall_place : (h : Code) (j : ℕ) → hall_index r s h ≡ Some j → (j < length (open_halls r s)) × (hall_at r s j ≡ h)
  hall_place h j e = place_at same_code same_code_exact same_code_itself h (open_halls r s) [] j e

  length_members : length (range_with_len 0 (length rows)) ≡ length (members r s)
  length_members = length-range_with_len 0 (length rows)
      ∙ length-map (members r s) (λ c. fitting_places r s c (open_halls r s))

  below_member : (i : ℕ) → Contains (range_with_len 0 (length rows)) i → i < length (members r s)
  below_member i m =
      let long : length rows ≡ length (members r s) =
      length-map (members r s) (λ c. fitting_places r s c (open_halls r s)) in
      let here : m.0 < length (range_with_len 0 (length rows)) = m.1 in
      let wide : length (range_with_len 0 (length rows)) ≡ length (members r s) = length_members in
      let at : get_or (range_with_len 0 (length rows)) m.0 i ≡ 0 + m.0 =
      get_or-range_with_len 0 (length rows) m.0 i (omega arith) in
      let is : get_or (range_with_len 0 (length rows)) m.0 i ≡ i = m.2 in omega arith

  member_below : (i : ℕ) → i < length (members r s) → Contains (range_with_len 0 (length rows)) i
  member_below i below =
      let long : length rows ≡ length (members r s) =
      length-map (members r s) (λ c. fitting_places r s c (open_halls r s)) in
      let wide : length (range_with_len 0 (length rows)) ≡ length (members r s) = length_members in
      let at : get_or (range_with_len 0 (length rows)) i i ≡ 0 + i =
      get_or-range_with_len 0 (length rows) i i (omega arith) in
      (i, omega arith, omega arith)

  -- a member has the index of their place
  pub index_known : ListsRise r s → (i : ℕ) → i < length (members r s) → index_of r s (number_at r s i) ≡ Some i
  index_known up i below =
      place_known nat_eq exact_unsigned_eq nat_eq_equiv.refl nat_cmp nat_cmp_total 0
      (members r s) 0 i i up.numbers below (omega arith)

  -- an open hall has the index of its place
  pub hall_known : ListsRise r s → (j : ℕ) → j < length (open_halls r s) → hall_index r s (hall_at r s j) ≡ Some j
  hall_known up j below =
      place_known same_code same_code_exact same_code_itself code_cmp nat_list_cmp_total 0
      (open_halls r s) [] j j up.codes below (omega arith)

  pub renames : ListsRise r s → Renames (naming r s)
  renames up = record {
    members = fill_by_all (number_at r s) (members r s) (length rows) 0
        (sym (length-map (members r s) (λ c. fitting_places r s c (open_halls r s)))) (λ k h. refl);
    known = λ i m. index_known up i (below_member i m);
    named = λ c i e. let w = number_place c i e in (w.1, member_below i w.0, (i, w.0, at_any c i w.0 w.1));
    halls = λ h j e. (hall_place h j e).1;
    known_hall = λ i j e. hall_known up j (row_bound i j e).1;
    fits = λ c h i j e f. fits_same c h i j (number_place c i e) (hall_place h j f);
    known_fit = λ c h e. place_exists same_code same_code_exact same_code_itself h 0 (open_halls r s) (fits_open c h e);
    desks = λ h j e. desks_same h j (hall_place h j e);
    same_a = λ j k. (exact_unsigned_eq j k, λ e. ap (nat_eq j) (sym e) ∙ nat_eq_equiv.refl j);
    same_b = λ h k. (same_code_exact h k, λ e. ap (same_code h) (sym e) ∙ same_code_itself h);
  }
    where
      at_any : (c i : ℕ) → i < length (members r s) → number_at r s i ≡ c → get_or (members r s) i c ≡ c
      at_any c i below e = get_or_default (members r s) i c 0 below ∙ e

      fits_same : (c : ℕ) (h : Code) (i j : ℕ) → (i < length (members r s)) × (number_at r s i ≡ c)
          → (j < length (open_halls r s)) × (hall_at r s j ≡ h) → fits r s c h ≡ list_any (nat_eq j) (get_or rows i [])
      fits_same c h i j w v =
          sym (ap (list_any (nat_eq j)) (row_is i w.0)
          ∙ any_place (fits r s (number_at r s i)) 0 (open_halls r s) [] j j v.0 (omega arith)
          ∙ ap (λ t. fits r s t (hall_at r s j)) w.1 ∙ ap (fits r s c) v.1)

      desks_same : (h : Code) (j : ℕ) → (j < length (open_halls r s)) × (hall_at r s j ≡ h)
          → desks r s h ≡ get_or (map (desks r s) (open_halls r s)) j 0
      desks_same h j v = sym (get_or-map (desks r s) (open_halls r s) j [] 0 v.0 ∙ ap (desks r s) v.1)

  pub numbers_rise : ListsRise r s → (i j : ℕ) → Contains (range_with_len 0 (length rows)) i
      → Contains (range_with_len 0 (length rows)) j → nat_cmp i j ≡ Less
      → nat_cmp (number_at r s i) (number_at r s j) ≡ Less
  numbers_rise up i j mi mj e =
      Less-from_sorted nat_cmp (members r s) i j 0 up.numbers (ranked i j Less (sym e)) (below_member j mj)

  -- an index is a member's
  pub index_below : (c i : ℕ) → index_of r s c ≡ Some i → i < length (members r s)
  index_below c i e = (number_place c i e).0

  -- a hall that fits is an open one, and fits a member alone
  pub fit_open : (i j : ℕ) → list_any (nat_eq j) (get_or rows i []) ≡ true → j < length (open_halls r s)
  fit_open i j e = (row_bound i j e).1

  pub fit_member : (i j : ℕ) → list_any (nat_eq j) (get_or rows i []) ≡ true
      → Contains (range_with_len 0 (length rows)) i
  fit_member i j e = member_below i (row_bound i j e).0

  -- a hall that has the index of its place is an open one
  open_index : (j : ℕ) → hall_index r s (hall_at r s j) ≡ Some j → j < length (open_halls r s)
  open_index j e = (hall_place (hall_at r s j) j e).0

  pub codes_rise : ListsRise r s → (j k : ℕ) → hall_index r s (hall_at r s j) ≡ Some j
      → hall_index r s (hall_at r s k) ≡ Some k → nat_cmp j k ≡ Less → code_cmp (hall_at r s j) (hall_at r s k) ≡ Less
  codes_rise up j k ej ek e =
      Less-from_sorted code_cmp (open_halls r s) j k [] up.codes (ranked j k Less (sym e)) (open_index k ek)

  -- members come before one another in the order of desks as their indices rank
  pub order_same : (i j : ℕ) → Contains (range_with_len 0 (length rows)) i
      → Contains (range_with_len 0 (length rows)) j
      → comes_before r s (number_at r s i) (number_at r s j) ≡ ranks_before (problem_of r s) i j
  order_same i j mi mj =
      order_is_rank r s (number_at r s i) (number_at r s j) (there i (below_member i mi)) (there j (below_member j mj))
      ∙ ap (λ n. nat_lt n (rank r s (number_at r s j)))
      (sym (get_or-map (rank r s) (members r s) i 0 0 (below_member i mi)))
      ∙ ap (nat_lt (get_or (map (rank r s) (members r s)) i 0))
      (sym (get_or-map (rank r s) (members r s) j 0 0 (below_member j mj)))
    where
      there : (k : ℕ) → k < length (members r s) → list_any (nat_eq (number_at r s k)) (members r s) ≡ true
      there k below = All-from_recursion (λ x. list_any (nat_eq x) (members r s) ≡ true) (members r s)
          (all_there (members r s)) k 0 below
