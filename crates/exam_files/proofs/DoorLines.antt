-- The lines of a door list are those of the hall's occupants, by desk.
use Rattle.std.proofs.Common.{◌≡◌, ◌∙◌, ◌+◌, ◌<◌, ◌≤◌, ℕ, zero, suc, Bool, true, false, cond, List, [], ◌∷◌, ◌++◌}
use Rattle.std.proofs.Common.{length, get_or, map, filter, count_by, nat_eq, ◌≢◌, Contains, Option, Some, None, Ok, Err}
use Rattle.std.proofs.Common.{refl, sym, ap, arith, inl, inr}
use Rattle.std.specs.List.{AllByRecursion, flat_map, list_any, range_with_len}
use Rattle.std.specs.List.Sorted.{IsStrictlySortedBy}
use Rattle.std.specs.Option.{option_map, option_map_or, ok_or}
use Rattle.std.specs.Ordering.{nat_cmp}
use Rattle.std.specs.declared.cmp.Ordering.TheVariants.{Less, Equal}
use Rattle.std.specs.Cmp.{nat_cmp_is}
use Rattle.std.proofs.lemmas.Bool.{cases_Bool, eq-eqb, le-ltb}
use Rattle.std.proofs.lemmas.Grind.{flat_map-append}
use Rattle.std.proofs.lemmas.List.Folds.{list_any_at}
use Rattle.std.proofs.lemmas.List.Sums.{count_by-le-length, length-filter}
use Rattle.std.proofs.lemmas.List.Sorted.{length_permutation}
use Rattle.std.proofs.lemmas.Map.Keys.{sorted_head, sorted_tail}
use Rattle.exam_types.specs.declared.refusal.Refusal.TheVariants.{HallNotOpened, UnknownHall}
use Rattle.exam_rules.specs.declared.rows.Opening.{Opening}
use Rattle.exam_rules.specs.Orders.{AreInOrder}
use Rattle.exam_rules.specs.Relations.{Code, opening_cmp, row_at, same_code}
use Rattle.exam_rules.specs.Seatings.{desks, plan_of, rank, comes_before}
use Rattle.exam_rules.specs.Sessions.{members}
use Rattle.exam_rules.proofs.InOrder.{lists_rise}
use Rattle.exam_rules.proofs.Naming.{same_code_exact, same_code_itself}
use Rattle.exam_rules.proofs.Ranking.{order_is_rank}
use Rattle.exam_views.specs.declared.view.Member.{Member}
use Rattle.exam_views.specs.declared.view.Seat.{Seat}
use Rattle.exam_commands.specs.Good.{IsGood}
use Rattle.exam_commands.specs.Headline.{IsSeated, desk_of}
use Rattle.exam_commands.specs.State.{State}
use Rattle.exam_views.specs.Views.{View, IsViewOf, has_hall, member_of, opening_of, seat_in, seat_of, seats_of}
use Rattle.exam_commands.proofs.Seated.{is_seated}
use Rattle.exam_files.specs.DoorLines.{HasLines, own_line}
use Rattle.exam_files.specs.Doors.{door_heading, door_line, door_list, door_text, is_in, line_at, sits_in}
use Rattle.exam_files.specs.Writing.{sheet_if}
use Rattle.exam_files.proofs.Numbered.{AreApart, IsApart, IsNumbered, at, has, has_is, laid_out, numbers_from, shuffled}
use Rattle.exam_files.proofs.OfficeSheets.{cons_parts, flipped, opening_is}

abbrev desk : Seat → Option ℕ
desk seat = seat.desk

-- ---- the text is that of those who sit at each desk

module _ (h : Code) where
  one_desk : (n : ℕ) (seats : List Seat)
      → flat_map (line_at h n) seats ≡ flat_map own_line (at (sits_in h) desk seats n)
  one_desk n [] = refl
  one_desk n (seat ∷ seats) = elim (cases_Bool (has (sits_in h) desk n seat)) [
    | inl here ↦
        let own : own_line seat ≡ door_line n seat =
        ap (λ (o : Option ℕ). option_map_or (λ k. door_line k seat) o []) (has_is (sits_in h) desk n seat here).1 in
        rw (here, own, one_desk n seats) refl
    | inr out ↦ rw (out, one_desk n seats) refl
  ]

  all_desks : (seats : List Seat) (ns : List ℕ)
      → flat_map (λ n. flat_map (line_at h n) seats) ns ≡ flat_map own_line (laid_out (sits_in h) desk seats ns)
  all_desks seats [] = refl
  all_desks seats (n ∷ ns) =
      rw (one_desk n seats, all_desks seats ns)
      (sym (flat_map-append own_line (at (sits_in h) desk seats n) (laid_out (sits_in h) desk seats ns)))

-- fewer pass than there are, where one does not
fewer_left : (p q : ℕ → Bool) (xs : List ℕ) (i d : ℕ) → i < length xs → q (get_or xs i d) ≡ true
    → p (get_or xs i d) ≡ false → length (filter p (filter q xs)) < length (filter q xs)
fewer_left p q [] i d below kept out = absurd (omega arith)
fewer_left p q (x ∷ xs) zero d below kept out =
    let most = count_by-le-length p (filter q xs) in
    let same = length-filter p (filter q xs) in rw (kept, out) (omega (arith, most, same))
fewer_left p q (x ∷ xs) (suc i) d below kept out = step (q x) (fewer_left p q xs i d (omega arith) kept out)
  where
    one : (b : Bool) → length (filter p (filter q xs)) < length (filter q xs)
        → length (cond b (x ∷ filter p (filter q xs)) (filter p (filter q xs))) < suc (length (filter q xs))
    one true less = omega arith
    one false less = omega arith

    step : (b : Bool) → length (filter p (filter q xs)) < length (filter q xs)
        → length (filter p (cond b (x ∷ filter q xs) (filter q xs))) < length (cond b (x ∷ filter q xs) (filter q xs))
    step true less = one (p x) less
    step false less = less

fewer : (p q : ℕ → Bool) (xs : List ℕ) (i d : ℕ) → i < length xs → q (get_or xs i d) ≡ true → p (get_or xs i d) ≡ false
    → count_by p (filter q xs) < length (filter q xs)
fewer p q xs i d below kept out =
    let less = fewer_left p q xs i d below kept out in
    let same = length-filter p (filter q xs) in omega (arith, less, same)

apart_if_less : (x y : ℕ) → nat_cmp x y ≡ Less → x ≢ y
apart_if_less x y less same =
    let tied : nat_cmp x y ≡ Equal = sym (nat_cmp_is x y Equal same) in
    let both : Less ≡ Equal = sym less ∙ tied in cc

listed : (xs : List ℕ) (x : ℕ) → Contains xs x → list_any (nat_eq x) xs ≡ true
listed xs x in_it = list_any_at (nat_eq x) xs in_it.0 x in_it.1 (eq-eqb x (get_or xs in_it.0 x) (sym in_it.2))

-- ---- the seats of an office

module _ (office : State) (s h : Code) (good : IsGood office) (up : AreInOrder office.relations) where
  seated : IsSeated office s
  seated = is_seated office s good up

  abbrev hall_at : ℕ → Option Code
  hall_at c = plan_of office.seats s c

  -- the hall of a plan is this one
  abbrev is_there : Code → Option Code → Bool
  is_there k None = false
  is_there k (Some code) = same_code k code

  -- those of the members who sit in the hall
  abbrev sits : ℕ → Bool
  sits c = is_there h (hall_at c)

  tested : (o : Option Code) → is_there h o ≡ is_in h o
  tested None = refl
  tested (Some k) = flipped h k

  in_hall : (o : Option Code) → is_in h o ≡ true → o ≡ Some h
  in_hall None e = cc e
  in_hall (Some k) e = ap (λ (x : Code). Some x) (same_code_exact k h e)

  record IsSeatOf (c : ℕ) (seat : Seat) : Type 0 where
    hall : seat.hall ≡ hall_at c
    desk_is : seat.desk ≡ desk_of office s c

  seat_is : (c : ℕ) (seat : Seat) → Some seat ≡ seat_of office s c → IsSeatOf c seat
  seat_is c seat e = step (member_of office.relations s c) e
    where
      step : (o : Option Member)
          → Some seat ≡ option_map (λ member. seat_in member (plan_of office.seats s c) (desk_of office s c)) o
          → IsSeatOf c seat
      step None e = cc e
      step (Some m) e =
          let same : seat ≡ seat_in m (plan_of office.seats s c) (desk_of office s c) = cc in
          record { hall = ap (λ (x : Seat). x.hall) same; desk_is = ap (λ (x : Seat). x.desk) same }

  sits_there : (c : ℕ) (seat : Seat) → IsSeatOf c seat → sits_in h seat ≡ true → hall_at c ≡ Some h
  sits_there c seat of sits = sym of.hall ∙ in_hall seat.hall sits

  -- no desk number is above the count of occupants
  rank_within : (c n : ℕ) → hall_at c ≡ Some h → desk_of office s c ≡ Some n
      → n ≤ length (filter sits (members office.relations s))
  rank_within c n e is =
      let r = office.relations in
      let member : Contains (members r s) c = seated.member c h e in
      let known = listed (members r s) c member in
      let alone : comes_before r s c c ≡ false =
      order_is_rank r s c c known known ∙ le-ltb (rank r s c) (rank r s c) (omega arith) in
      let kept : sits c ≡ true = ap (is_there h) e ∙ same_code_itself h in
      let less = fewer (λ d. comes_before r s d c) sits (members r s) member.0 c member.1 (ap sits member.2 ∙ kept)
      (ap (λ d. comes_before r s d c) member.2 ∙ alone) in
      let counted : Some (count_by (λ d. comes_before r s d c) (filter sits (members r s)) + 1) ≡ Some n
      = sym (ap (option_map
      (λ k. count_by (λ d. comes_before r s d c) (filter (λ d. is_there k (hall_at d)) (members r s)) + 1)) e)
      ∙ is in
      let same : count_by (λ d. comes_before r s d c) (filter sits (members r s)) + 1 ≡ n = cc in
      omega (arith, less, same)

  -- as many seats as members are in the hall
  as_many : (seats : List Seat) (cs : List ℕ) → map (λ (seat : Seat). Some seat) seats ≡ map (seat_of office s) cs
      → length (filter sits cs) ≡ length (filter (sits_in h) seats)
  as_many [] [] e = refl
  as_many [] (c ∷ cs) e = cc e
  as_many (seat ∷ seats) [] e = cc e
  as_many (seat ∷ seats) (c ∷ cs) e =
      let parts = cons_parts (Some seat) (seat_of office s c) (map (λ (x : Seat). Some x) seats)
      (map (seat_of office s) cs) e in
      let same : sits c ≡ sits_in h seat = tested (hall_at c) ∙ ap (is_in h) (sym (seat_is c seat parts.0).hall) in
      rw same (step (sits_in h seat) (as_many seats cs parts.1))
    where
      step : (b : Bool) → length (filter sits cs) ≡ length (filter (sits_in h) seats)
          → length (cond b (c ∷ filter sits cs) (filter sits cs))
          ≡ length (cond b (seat ∷ filter (sits_in h) seats) (filter (sits_in h) seats))
      step true more = ap suc more
      step false more = more

  numbered : (k : ℕ) → ((c n : ℕ) → hall_at c ≡ Some h → desk_of office s c ≡ Some n → n ≤ k)
      → (seats : List Seat) (cs : List ℕ)
      → map (λ (seat : Seat). Some seat) seats ≡ map (seat_of office s) cs
      → AllByRecursion (IsNumbered (sits_in h) desk 1 k) seats
  numbered k most [] cs e = tt
  numbered k most (seat ∷ seats) [] e = cc e
  numbered k most (seat ∷ seats) (c ∷ cs) e =
      let parts = cons_parts (Some seat) (seat_of office s c) (map (λ (x : Seat). Some x) seats)
      (map (seat_of office s) cs) e in
      let of = seat_is c seat parts.0 in (
        λ sits.
            let there = sits_there c seat of sits in
            let at_desk = seated.at_desk c h there in
            let high = most c at_desk.0 there at_desk.1 in
            (at_desk.0, of.desk_is ∙ at_desk.1, at_desk.2, omega (arith, high)),
        numbered k most seats cs parts.1,
      )

  apart_from : (c : ℕ) (seat : Seat) → IsSeatOf c seat → (seats : List Seat) (cs : List ℕ)
      → map (λ (seat : Seat). Some seat) seats ≡ map (seat_of office s) cs
      → AllByRecursion (λ d. nat_cmp c d ≡ Less) cs → AllByRecursion (IsApart (sits_in h) desk seat) seats
  apart_from c seat of [] cs e later = tt
  apart_from c seat of (other ∷ seats) [] e later = cc e
  apart_from c seat of (other ∷ seats) (d ∷ cs) e later =
      let parts = cons_parts (Some other) (seat_of office s d) (map (λ (x : Seat). Some x) seats)
      (map (seat_of office s) cs) e in
      let of_other = seat_is d other parts.0 in (
        λ sits sits_too same. apart_if_less c d later.0
            (seated.alone c d h (sits_there c seat of sits) (sits_there d other of_other sits_too)
            (sym of.desk_is ∙ same ∙ of_other.desk_is)),
        apart_from c seat of seats cs parts.1 later.1,
      )

  apart : (seats : List Seat) (cs : List ℕ) → map (λ (seat : Seat). Some seat) seats ≡ map (seat_of office s) cs
      → IsStrictlySortedBy nat_cmp cs → AreApart (sits_in h) desk seats
  apart [] cs e rise = tt
  apart (seat ∷ seats) [] e rise = cc e
  apart (seat ∷ seats) (c ∷ cs) e rise =
      let parts = cons_parts (Some seat) (seat_of office s c) (map (λ (x : Seat). Some x) seats)
      (map (seat_of office s) cs) e in (
        apart_from c seat (seat_is c seat parts.0) seats cs parts.1 (sorted_head nat_cmp c cs rise),
        apart seats cs parts.1 (sorted_tail nat_cmp c cs rise),
      )

  -- ---- the door list

  opened : (view : View) (text : List ℕ) → door_list view h ≡ Ok text
      → (opening : Opening) × (opening_of view h ≡ Some opening)
      × (text ≡ door_text view.code view.session h opening (seats_of view))
  opened view text e = by_hall (has_hall view h) e
    where
      by_opening : (o : Option Opening) → opening_of view h ≡ o
          → sheet_if (λ opening. door_text view.code view.session h opening (seats_of view)) (ok_or o HallNotOpened)
          ≡ Ok text
          → (opening : Opening) × (opening_of view h ≡ Some opening)
          × (text ≡ door_text view.code view.session h opening (seats_of view))
      by_opening None is e = cc e
      by_opening (Some opening) is e = (opening, is, cc)

      by_hall : (b : Bool)
          → sheet_if (λ opening. door_text view.code view.session h opening (seats_of view))
          (cond b (ok_or (opening_of view h) HallNotOpened) (Err UnknownHall)) ≡ Ok text
          → (opening : Opening) × (opening_of view h ≡ Some opening)
          × (text ≡ door_text view.code view.session h opening (seats_of view))
      by_hall false e = cc e
      by_hall true e = by_opening (opening_of view h) refl e

  pub has_lines : (view : View) → IsViewOf office s view → (text : List ℕ) → door_list view h ≡ Ok text
      → HasLines view h text
  has_lines view is text e =
      let found = opened view text e in
      let seats = seats_of view in
      let cs = members office.relations s in
      let row : row_at opening_cmp office.relations.openings (s, h) ≡ Some found.0 =
      sym (opening_is office s view is h) ∙ found.1 in
      let all_of : desks office.relations s h ≡ found.0.desks =
      ap (λ (o : Option Opening). option_map_or (λ opening. opening.desks) o 0) row in
      let within : (c n : ℕ) → hall_at c ≡ Some h → desk_of office s c ≡ Some n → n ≤ found.0.desks = λ c n there at.
      let own = seated.at_desk c h there in
      let same : Some own.0 ≡ Some n = sym own.1 ∙ at in
      let one : own.0 ≡ n = cc in
      let high = own.3 in omega (arith, high, one, all_of) in
      let tight : (c n : ℕ) → hall_at c ≡ Some h → desk_of office s c ≡ Some n
      → n ≤ length (filter (sits_in h) seats) = λ c n there at.
      rw (← as_many seats cs is.seats) (rank_within c n there at) in
      let all = numbered found.0.desks within seats cs is.seats in
      let out = laid_out (sits_in h) desk seats (range_with_len 1 found.0.desks) in
      let moved = shuffled (sits_in h) desk 1 found.0.desks seats all in
      record {
        opening = found.0;
        opened = found.1;
        occupants = out;
        all = moved;
        count = length_permutation (filter (sits_in h) seats) out moved ∙ length-filter (sits_in h) seats;
        desks = numbers_from (sits_in h) desk 1 found.0.desks seats
            (apart seats cs is.seats (lists_rise office.relations s up).numbers) all
            (numbered (length (filter (sits_in h) seats)) tight seats cs is.seats);
        text_is = found.2 ∙ ap (λ (lines : List ℕ). door_heading view.code view.session h found.0 seats ++ lines)
            (all_desks h seats (range_with_len 1 found.0.desks));
      }
