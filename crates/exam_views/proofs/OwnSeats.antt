-- The seats of a session hold everybody who sits in it, and so count who comes before a candidate in a hall.
use Rattle.std.proofs.Common.{◌≡◌, ℕ, zero, suc, ◌<◌, ◌≤◌, ◌&&◌, not, Bool, true, false, cond, List, [], ◌∷◌, length}
use Rattle.std.proofs.Common.{map, filter, count_by, get_or, Contains, Option, None, Some, IsSome, IfSome, is_some}
use Rattle.std.proofs.Common.{refl, ap, sym, subst, ◌∙◌, inl, inr, arith}
use Rattle.std.specs.List.{All, AllByRecursion}
use Rattle.std.specs.List.Sorted.{IsStrictlySortedBy}
use Rattle.std.specs.Map.{keys_of, lookup}
use Rattle.std.specs.BTreeMap.{is_at}
use Rattle.std.specs.BTreeMap.Range.{IsLeBy}
use Rattle.std.specs.Cmp.Lexicographic.{nat_list_cmp_total}
use Rattle.std.specs.Ordering.{nat_cmp, ordering_then, is_le, is_lt, is_gt}
use Rattle.std.specs.declared.cmp.Ordering.{Ordering}
use Rattle.std.specs.declared.cmp.Ordering.TheVariants.{Less, Equal, Greater}
use Rattle.std.proofs.lemmas.Bool.{cases_order, and_parts, and_from}
use Rattle.std.proofs.lemmas.Cmp.{ranked, tied_itself, eq_by_cmp_equiv}
use Rattle.std.proofs.lemmas.List.{get_or-map, length-map}
use Rattle.std.proofs.lemmas.List.Elements.{All-contains, All-contains_itself, All-weaker, All-map, All-head, All-tail}
use Rattle.std.proofs.lemmas.List.Elements.{Contains-append_right, filter_passes}
use Rattle.std.proofs.lemmas.List.Kept.{IsStrictlySortedBy-filter}
use Rattle.std.proofs.lemmas.List.Sums.{length-filter, count_by-le-length}
use Rattle.std.proofs.lemmas.Map.Keys.{sorted_head, sorted_tail, IsDistinct-from_sorted}
use Rattle.std.proofs.lemmas.Map.Lookups.{exact_bytes, exact_unsigned}
use Rattle.std.proofs.lemmas.Map.Made.{Contains-tail}
use Rattle.std.proofs.lemmas.Map.Views.{tells_apart, All-after_first, Contains-keys_from_lookup, Contains-from_lookup}
use Rattle.std.proofs.lemmas.Map.Views.{lookup-from_Contains}
use Rattle.exam_plan.specs.Matching.{IsLawful, occupants, is_hall}
use Rattle.exam_plan.specs.Problems.{most_members}
use Rattle.exam_rules.specs.Orders.{KeysRise}
use Rattle.exam_rules.specs.Relations.{Code, Relations, code_cmp, same_code, seat_cmp}
use Rattle.exam_rules.specs.Sessions.{members, has_live_entry}
use Rattle.exam_rules.specs.Seatings.{seating, plan_of, comes_before, desk_cmp, desk_key}
use Rattle.exam_rules.proofs.Naming.{same_code_exact, same_code_itself}
use Rattle.exam_commands.proofs.KeyedRows.{seats_exact, seats_total}
use Rattle.exam_commands.specs.State.{Seats}
use Rattle.exam_commands.proofs.Members.{kept_from}

-- ---- lists

-- a filter keeps an element that passes
kept_at : {A : Type 0} (p : A → Bool) (xs : List A) (x : A) (k : ℕ) → k < length xs → get_or xs k x ≡ x → p x ≡ true
    → Contains (filter p xs) x
kept_at p [] x k below at passes = absurd (omega arith)
kept_at {A} p (y ∷ ys) x zero below at passes = inner (p y) refl
  where
    inner : (b : Bool) → p y ≡ b → Contains (cond b (y ∷ filter p ys) (filter p ys)) x
    inner true e = (0, omega arith, at)
    inner false e = absurd (let f : true ≡ false = sym passes ∙ ap p (sym at) ∙ e in cc)
kept_at {A} p (y ∷ ys) x (suc k) below at passes = inner (p y) (kept_at p ys x k (omega arith) at passes)
  where
    inner : (b : Bool) → Contains (filter p ys) x → Contains (cond b (y ∷ filter p ys) (filter p ys)) x
    inner true rest = Contains-append_right (y ∷ []) (filter p ys) x rest
    inner false rest = rest

kept_in : {A : Type 0} (p : A → Bool) (xs : List A) (x : A) → Contains xs x → p x ≡ true → Contains (filter p xs) x
kept_in p xs x m passes = kept_at p xs x m.0 m.1 m.2 passes

among_map : {A B : Type 0} (f : A → B) (xs : List A) (x : A) → Contains xs x → Contains (map f xs) (f x)
among_map f xs x m =
    let long : length (map f xs) ≡ length xs = length-map xs f in
    let below : m.0 < length xs = m.1 in
    (m.0, omega arith, get_or-map f xs m.0 x (f x) below ∙ ap f m.2)

-- tests that agree at each element keep the same elements
same_kept : {A : Type 0} (p q : A → Bool) (xs : List A) → All (λ x. p x ≡ q x) xs → filter p xs ≡ filter q xs
same_kept p q [] all = refl
same_kept p q (x ∷ xs) all =
    ap (λ b. cond b (x ∷ filter p xs) (filter p xs)) (All-head (λ y. p y ≡ q y) x xs all)
    ∙ ap (λ ys. cond (q x) (x ∷ ys) ys) (same_kept p q xs (All-tail (λ y. p y ≡ q y) x xs all))

less_of : (m n : ℕ) → nat_cmp m n ≡ Less → m < n
less_of m n e = ranked m n Less (sym e)

none_among : {A : Type 0} (x : A) → Contains [] x → ⊥
none_among x m = let below : m.0 < 0 = m.1 in omega arith

-- an element of a list that rises is its first or above it
first_or_above : (x : ℕ) (xs : List ℕ) (n : ℕ) → IsStrictlySortedBy nat_cmp (x ∷ xs) → Contains (x ∷ xs) n
    → (x ≡ n → ⊥) → x < n
first_or_above x xs n up m other =
    less_of x n (All-contains (λ k. nat_cmp x k ≡ Less) xs n (All-after_first nat_cmp x xs up)
    (Contains-tail x xs n other m))

-- numbers that rise and have the same elements are the same
same_rising : (xs ys : List ℕ) → IsStrictlySortedBy nat_cmp xs → IsStrictlySortedBy nat_cmp ys
    → ((n : ℕ) → Contains xs n → Contains ys n) → ((n : ℕ) → Contains ys n → Contains xs n) → xs ≡ ys
same_rising [] [] up upper to from = refl
same_rising [] (y ∷ ys) up upper to from = absurd (none_among y (from y (0, omega arith, refl)))
same_rising (x ∷ xs) [] up upper to from = absurd (none_among x (to x (0, omega arith, refl)))
same_rising (x ∷ xs) (y ∷ ys) up upper to from =
    ap (λ k. k ∷ xs) first
    ∙ ap (λ t. y ∷ t) (same_rising xs ys (sorted_tail nat_cmp x xs up) (sorted_tail nat_cmp y ys upper) forth back)
  where
    first : x ≡ y
    first = elim (cases_order x y) [
      | inl e ↦ e
      | inr w ↦ elim w [
        | inl l ↦ absurd (let g : y < x =
            first_or_above y ys x upper (to x (0, omega arith, refl)) (λ e. omega arith) in omega arith)
        | inr g ↦ absurd (let l : x < y =
            first_or_above x xs y up (from y (0, omega arith, refl)) (λ e. omega arith) in omega arith)
      ]
    ]

    forth : (n : ℕ) → Contains xs n → Contains ys n
    forth n m =
        let above : x < n = less_of x n
        (All-contains (λ k. nat_cmp x k ≡ Less) xs n (All-after_first nat_cmp x xs up) m) in
        Contains-tail y ys n (λ e. let f : x ≡ y = first in omega arith) (to n (Contains-append_right (x ∷ []) xs n m))

    back : (n : ℕ) → Contains ys n → Contains xs n
    back n m =
        let above : y < n = less_of y n
        (All-contains (λ k. nat_cmp y k ≡ Less) ys n (All-after_first nat_cmp y ys upper) m) in
        Contains-tail x xs n (λ e. let f : x ≡ y = first in omega arith)
        (from n (Contains-append_right (y ∷ []) ys n m))

-- ---- the seats of a session

-- a seat in the hall, of a candidate before the key in the order of desks
abbrev pub is_before_in : Relations → Code → Code → Option Code × ℕ → (Code × ℕ) × Code → Bool
is_before_in r s h key e = same_code h e.1 && is_lt (desk_cmp (desk_key r s e.0.1) key)

-- how many of these seats are such
abbrev pub before_among : Relations → Code → Code → Option Code × ℕ → Seats → ℕ
before_among r s h key es = length (filter (is_before_in r s h key) es)

le_of : (o : Ordering) → is_gt o ≡ false → is_le o ≡ true
le_of Less e = refl
le_of Equal e = refl
le_of Greater e = cc

differ : (s t : Code) (o : Ordering) → code_cmp s t ≡ o → (o ≡ Equal → ⊥) → same_code t s ≡ false
differ s t o e other = inner (same_code t s) refl
  where
    inner : (b : Bool) → same_code t s ≡ b → b ≡ false
    inner true same = absurd
        (other (sym e ∙ ap (λ u. code_cmp s u) (same_code_exact t s same) ∙ tied_itself nat_list_cmp_total s))
    inner false same = refl

module _ (r : Relations) (seats : Seats) (s : Code) (up : KeysRise seat_cmp seats)
    (lawful : IsLawful (seating r s) (plan_of seats s)) where
  -- a seat is the one in which its candidate sits
  sits : (n : ℕ) (h : Code) → Contains seats ((s, n), h) → plan_of seats s n ≡ Some h
  sits n h m = lookup-from_Contains (eq_by_cmp_equiv seats_total) (s, n) h seats
      (IsDistinct-from_sorted seat_cmp (keys_of seats) up) m

  own_key : (e : (Code × ℕ) × Code) → Contains seats e → e.0.0 ≡ s → Contains seats ((s, e.0.1), e.1)
  own_key e m of = subst (λ t. Contains seats ((t, e.0.1), e.1)) of m

  -- who has a seat is a member
  seat_member : (e : (Code × ℕ) × Code) → Contains seats e → e.0.0 ≡ s → Contains (members r s) e.0.1
  seat_member e m of = lawful.members e.0.1 (ap is_some (sits e.0.1 e.1 (own_key e m of)))

  module _ (first last : ℕ) (from : All (IsLeBy nat_cmp first) (keys_of r.candidates))
      (up_to : All (λ n. is_lt (nat_cmp last n) ≡ false) (keys_of r.candidates)) where
    -- a key is between the bounds if it is of the session
    at_key : (t : Code) (n : ℕ) → (t ≡ s → Contains (keys_of r.candidates) n)
        → (is_le (ordering_then (code_cmp s t) (nat_cmp first n))
        && not (is_lt (ordering_then (code_cmp s t) (nat_cmp last n)))) ≡ same_code t s
    at_key t n known = inner (code_cmp s t) refl
      where
        inner : (o : Ordering) → code_cmp s t ≡ o
            → (is_le (ordering_then o (nat_cmp first n)) && not (is_lt (ordering_then o (nat_cmp last n))))
            ≡ same_code t s
        inner Less e = sym (differ s t Less e (λ f. cc))
        inner Equal e =
            let same : t ≡ s = sym (exact_bytes s t e) in
            let low : is_le (nat_cmp first n) ≡ true =
            le_of (nat_cmp first n)
            (All-contains (IsLeBy nat_cmp first) (keys_of r.candidates) n from (known same)) in
            let high : is_lt (nat_cmp last n) ≡ false =
            All-contains (λ k. is_lt (nat_cmp last k) ≡ false) (keys_of r.candidates) n up_to (known same) in
            rw (low, high) (sym (ap (λ u. same_code u s) same ∙ same_code_itself s))
        inner Greater e = sym (differ s t Greater e (λ f. cc))

    -- the seats between the first and the last candidate are those of the session
    pub between : filter
        (λ (e : (Code × ℕ) × Code). is_le (seat_cmp (s, first) e.0) && not (is_lt (seat_cmp (s, last) e.0))) seats
        ≡ filter (λ (e : (Code × ℕ) × Code). same_code e.0.0 s) seats
    between =
        same_kept (λ (e : (Code × ℕ) × Code). is_le (seat_cmp (s, first) e.0) && not (is_lt (seat_cmp (s, last) e.0)))
        (λ (e : (Code × ℕ) × Code). same_code e.0.0 s) seats
        (All-weaker (Contains seats) _
        (λ e m. at_key e.0.0 e.0.1
        (λ of. kept_from (has_live_entry r s) (keys_of r.candidates) e.0.1 (seat_member e m of))) seats
        (All-contains_itself seats))

  -- ---- those in a hall

  module _ (h : Code) where
    abbrev is_seat : (Code × ℕ) × Code → Bool
    is_seat e = same_code e.0.0 s && same_code h e.1

    -- the numbers of those who have a seat in the hall
    abbrev seated : Seats → List ℕ
    seated es = map (λ (e : (Code × ℕ) × Code). e.0.1) (filter is_seat es)

    less_number : (k l : Code × ℕ) → k.0 ≡ l.0 → seat_cmp k l ≡ Less → nat_cmp k.1 l.1 ≡ Less
    less_number k l e less =
        let tie : code_cmp k.0 l.0 ≡ Equal = ap (code_cmp k.0) (sym e) ∙ tied_itself nat_list_cmp_total k.0 in
        sym (ap (λ t. ordering_then t (nat_cmp k.1 l.1)) tie) ∙ less

    seated_rise : (es : Seats) → KeysRise seat_cmp es → IsStrictlySortedBy nat_cmp (seated es)
    unfolding IsStrictlySortedBy
    seated_rise [] rise = tt
    seated_rise (e ∷ es) rise = inner (is_seat e) refl (seated_rise es (sorted_tail seat_cmp e.0 (keys_of es) rise))
      where
        above : (rows : Seats) → is_seat e ≡ true → AllByRecursion (λ y. seat_cmp e.0 y ≡ Less) (keys_of rows)
            → AllByRecursion (λ n. nat_cmp e.0.1 n ≡ Less) (seated rows)
        above [] own a = tt
        above (x ∷ rows) own a = turn (is_seat x) refl (above rows own a.1)
          where
            turn : (b : Bool) → is_seat x ≡ b → AllByRecursion (λ n. nat_cmp e.0.1 n ≡ Less) (seated rows)
                → AllByRecursion (λ n. nat_cmp e.0.1 n ≡ Less)
                (map (λ (e : (Code × ℕ) × Code). e.0.1) (cond b (x ∷ filter is_seat rows) (filter is_seat rows)))
            turn true t rest = (
              less_number e.0 x.0
                  (same_code_exact e.0.0 s (and_parts (same_code e.0.0 s) (same_code h e.1) own).0
                  ∙ sym (same_code_exact x.0.0 s (and_parts (same_code x.0.0 s) (same_code h x.1) t).0)) a.0,
              rest,
            )
            turn false t rest = rest

        inner : (b : Bool) → is_seat e ≡ b → IsStrictlySortedBy nat_cmp (seated es)
            → IsStrictlySortedBy nat_cmp
            (map (λ (e : (Code × ℕ) × Code). e.0.1) (cond b (e ∷ filter is_seat es) (filter is_seat es)))
        inner true t rest = (above es t (sorted_head seat_cmp e.0 (keys_of es) rise), rest)
        inner false t rest = rest

    abbrev in_hall : ℕ → Bool
    in_hall n = is_hall (seating r s) h (plan_of seats s n)

    seated_sits : (e : (Code × ℕ) × Code) → Contains (filter is_seat seats) e
        → Contains (filter in_hall (members r s)) e.0.1
    seated_sits e m =
        let listed : Contains seats e = kept_from is_seat seats e m in
        let parts = and_parts (same_code e.0.0 s) (same_code h e.1)
        (All-contains (λ x. is_seat x ≡ true) (filter is_seat seats) e (filter_passes is_seat seats) m) in
        let of : e.0.0 ≡ s = same_code_exact e.0.0 s parts.0 in
        kept_in in_hall (members r s) e.0.1 (seat_member e listed of)
        (ap (is_hall (seating r s) h) (sits e.0.1 e.1 (own_key e listed of)) ∙ parts.1)

    sits_seated : (n : ℕ) → in_hall n ≡ true → Contains (seated seats) n
    sits_seated n here = inner (plan_of seats s n) refl here
      where
        inner : (o : Option Code) → plan_of seats s n ≡ o → is_hall (seating r s) h o ≡ true → Contains (seated seats) n
        inner None e t = cc
        inner (Some k) e t =
            among_map (λ (x : (Code × ℕ) × Code). x.0.1) (filter is_seat seats) ((s, n), k)
            (kept_in is_seat seats ((s, n), k) (Contains-from_lookup (tells_apart seats_exact) (s, n) k seats e)
            (and_from _ _ (same_code_itself s) t))

    -- the occupants of the hall are those who have a seat in it
    occupants_are : IsStrictlySortedBy nat_cmp (members r s)
        → occupants (seating r s) (plan_of seats s) h ≡ seated seats
    occupants_are rising =
        same_rising (filter in_hall (members r s)) (seated seats)
        (IsStrictlySortedBy-filter nat_cmp in_hall (members r s) rising) (seated_rise seats up)
        (λ n m. sits_seated n
        (All-contains (λ k. in_hall k ≡ true) (filter in_hall (members r s)) n
        (filter_passes in_hall (members r s)) m))
        (λ n m. All-contains (Contains (filter in_hall (members r s))) (seated seats) n
        (All-map (Contains (filter in_hall (members r s))) (λ (e : (Code × ℕ) × Code). e.0.1) (filter is_seat seats)
        (All-weaker (Contains (filter is_seat seats)) _ seated_sits (filter is_seat seats)
        (All-contains_itself (filter is_seat seats)))) m)

    abbrev is_own : (Code × ℕ) × Code → Bool
    is_own e = same_code e.0.0 s

    abbrev is_counted : (ℕ → Bool) → (Code × ℕ) × Code → Bool
    is_counted P e = same_code h e.1 && P e.0.1

    -- of the seats of the session, those in the hall that pass
    passing : (P : ℕ → Bool) (es : Seats)
        → length (filter P (seated es)) ≡ length (filter (is_counted P) (filter is_own es))
    passing P [] = refl
    passing P (e ∷ es) = inner (same_code e.0.0 s) (same_code h e.1) (P e.0.1) refl refl refl (passing P es)
      where
        inner : (a b d : Bool) → same_code e.0.0 s ≡ a → same_code h e.1 ≡ b → P e.0.1 ≡ d
            → length (filter P (seated es)) ≡ length (filter (is_counted P) (filter is_own es))
            → length (filter P (map (λ (x : (Code × ℕ) × Code). x.0.1)
            (cond (a && b) (e ∷ filter is_seat es) (filter is_seat es))))
            ≡ length (filter (is_counted P) (cond a (e ∷ filter is_own es) (filter is_own es)))
        inner false b d x y z rest = rest
        inner true false d x y z rest = rw y rest
        inner true true false x y z rest = rw (y, z) rest
        inner true true true x y z rest = rw (y, z) (ap suc rest)

    -- those who come before the candidate in the hall, counted over the seats of the session
    pub counted_before : IsStrictlySortedBy nat_cmp (members r s) → (c : ℕ)
        → before_among r s h (desk_key r s c) (filter is_own seats)
        ≡ count_by (λ d. comes_before r s d c) (occupants (seating r s) (plan_of seats s) h)
    counted_before rising c =
        sym (passing (λ d. comes_before r s d c) seats) ∙ length-filter (λ d. comes_before r s d c) (seated seats)
        ∙ ap (count_by (λ d. comes_before r s d c)) (sym (occupants_are rising))

-- in a hall sit no more than the session may have members
pub few_before : (r : Relations) (seats : Seats) (s h : Code) (c : ℕ) → length (members r s) ≤ most_members
    → count_by (λ d. comes_before r s d c) (occupants (seating r s) (plan_of seats s) h) ≤ most_members
few_before r seats s h c limit =
    let sitting_there : count_by (λ d. comes_before r s d c) (occupants (seating r s) (plan_of seats s) h) ≤ length
    (occupants (seating r s) (plan_of seats s) h) =
    count_by-le-length (λ d. comes_before r s d c) (occupants (seating r s) (plan_of seats s) h) in
    let all : length (occupants (seating r s) (plan_of seats s) h)
    ≡ count_by (λ d. is_hall (seating r s) h (plan_of seats s d)) (members r s) =
    length-filter (λ d. is_hall (seating r s) h (plan_of seats s d)) (members r s) in
    let few : count_by (λ d. is_hall (seating r s) h (plan_of seats s d)) (members r s) ≤ length (members r s) =
    count_by-le-length (λ d. is_hall (seating r s) h (plan_of seats s d)) (members r s) in
    omega arith

-- ---- the candidates' numbers

pub if_some : {A : Type 0} (o : Option A) (x : A) (P : A → Type 0) → o ≡ Some x → IfSome o P → P x
if_some o x P e h = subst (λ p. IfSome p P) e h

-- the first candidate's key is not after the last one's
pub forward : {X : Type 0} (s : Code) (rows : List (ℕ × X)) (first last : ℕ)
    → All (IsLeBy nat_cmp first) (keys_of rows) → IsSome (lookup (is_at (nat_cmp last)) rows)
    → is_gt (seat_cmp (s, first) (s, last)) ≡ false
forward s rows first last from there =
    ap (λ o. is_gt (ordering_then o (nat_cmp first last))) (tied_itself nat_list_cmp_total s)
    ∙ All-contains (IsLeBy nat_cmp first) (keys_of rows) last from
    (Contains-keys_from_lookup (tells_apart exact_unsigned) last rows there)
