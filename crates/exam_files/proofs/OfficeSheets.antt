-- A view's sheets are the office's.
use Rattle.std.proofs.Common.{◌≡◌, ◌↔◌, ◌∙◌, ℕ, ◌+◌, ◌&&◌, ◌||◌, Bool, true, false, cond, List, [], ◌∷◌, length, map}
use Rattle.std.proofs.Common.{filter, Contains, Option, Some, Ok, Err, refl, ap, sym, subst, arith}
use Rattle.std.specs.Prelude.{find, filter_map, sum_by}
use Rattle.std.specs.declared.cmp.Ordering.{Ordering}
use Rattle.std.specs.declared.cmp.Ordering.TheVariants.{Less, Equal, Greater}
use Rattle.std.specs.BTreeSet as sorted
use Rattle.std.specs.BTreeSet.{BTreeSet}
use Rattle.std.specs.Cmp.{IsTotalOrder, nat_cmp_total}
use Rattle.std.specs.Cmp.Lexicographic.{nat_list_cmp_total, texts_ties}
use Rattle.std.specs.List.{All, list_any, cons_option}
use Rattle.std.specs.List.Sorted.{IsStrictlySortedBy}
use Rattle.std.specs.Map.{keys_of}
use Rattle.std.specs.Option.{option_map, ok_or}
use Rattle.std.specs.Ordering.{is_eq, ordering_then}
use Rattle.std.proofs.lemmas.List.Elements.{All-head, All-tail}
use Rattle.std.proofs.lemmas.Map.Lookups.{CmpEqualImpliesEq, btree_set_from_contains, exact_bytes, exact_unsigned}
use Rattle.std.proofs.lemmas.Map.Views.{btree_set_contains_iff}
use Rattle.exam_types.specs.declared.refusal.Refusal.TheVariants.{HallNotOpened, UnknownHall, UnknownPaper}
use Rattle.exam_rules.specs.declared.rows.Opening.{Opening}
use Rattle.exam_rules.specs.declared.rows.Session.{Session}
use Rattle.exam_rules.specs.Relations.{Code, Relations, code_cmp, has_row, opening_cmp, row_at, same_code}
use Rattle.exam_rules.specs.Seatings.{desks}
use Rattle.exam_rules.specs.Sessions.{clashes, members}
use Rattle.exam_rules.proofs.Naming.{same_code_exact, same_code_itself}
use Rattle.exam_views.specs.declared.view.AppealRow.{AppealRow}
use Rattle.exam_views.specs.declared.view.Clash.{Clash}
use Rattle.exam_views.specs.declared.view.Seat.{Seat}
use Rattle.exam_commands.specs.State.{State, Seats}
use Rattle.exam_views.specs.Views.{View, Report, IsShortageOf, IsViewOf, ShowsShortage, appeals_of, clash_of, has_hall}
use Rattle.exam_views.specs.Views.{opening_of, seat_of, seats_of}
use Rattle.exam_commands.proofs.AllSessions.{known_among}
use Rattle.exam_files.specs.Attendances.{attendance, attendance_text, paper_in}
use Rattle.exam_files.specs.Clashes.{clash_list, clash_text}
use Rattle.exam_files.specs.Doors.{door_list, door_text, opening_in}
use Rattle.exam_files.specs.Exports.{export_text, seat_export}
use Rattle.exam_files.specs.OfficeSheets.{attendance_of, clash_list_of, clashes_in, door_list_of, export_of, of_known}
use Rattle.exam_files.specs.OfficeSheets.{opening_for, paper_for, register_of, seats_in}
use Rattle.exam_files.specs.Registers.{appeal_register, register_text}
use Rattle.exam_files.specs.Shortages.{shortage_text}
use Rattle.exam_files.specs.Writing.{sheet_if}

-- ---- lists

pub cons_parts : {A : Type 0} (x y : A) (xs ys : List A) → x ∷ xs ≡ y ∷ ys → (x ≡ y) × (xs ≡ ys)
cons_parts x y xs ys e = (cc, cc)

-- each is given, so that none is left out
all_given : {A B : Type 0} (f : A → Option B) (xs : List B) (ns : List A) → map (λ (x : B). Some x) xs ≡ map f ns
    → xs ≡ filter_map f ns
all_given f [] [] e = refl
all_given f [] (n ∷ ns) e = cc
all_given f (x ∷ xs) [] e = cc
all_given {B = B} f (x ∷ xs) (n ∷ ns) e =
    let w = cons_parts (Some x) (f n) (map (λ (y : B). Some y) xs) (map f ns) e in
    ap (λ (t : List B). x ∷ t) (all_given f xs ns w.1) ∙ ap (λ (o : Option B). cons_option o (filter_map f ns)) w.0

same_bool : (a b : Bool) → (a ≡ true → b ≡ true) → (b ≡ true → a ≡ true) → a ≡ b
same_bool true b there back = sym (there refl)
same_bool false true there back = back refl
same_bool false false there back = refl

-- rising lists with the same elements are the same
same_rising : {K : Type 0} {R : K → K → Ordering} → IsTotalOrder R → CmpEqualImpliesEq R → (xs ys : List K)
    → IsStrictlySortedBy R xs → IsStrictlySortedBy R ys
    → ((k : K) → Contains xs k ↔ Contains ys k) → xs ≡ ys
same_rising {K} {R} o exact xs ys up up' same =
    let left : BTreeSet K = record { keys = xs } in
    let right : BTreeSet K = record { keys = ys } in
    btree_set_from_contains o left right up up' (λ q. same_bool (sorted.contains R left q) (sorted.contains R right q)
    (λ t. (btree_set_contains_iff o exact right q).1 ((same q).0 ((btree_set_contains_iff o exact left q).0 t)))
    (λ t. (btree_set_contains_iff o exact left q).1 ((same q).1 ((btree_set_contains_iff o exact right q).0 t)))) exact

-- rows whose values their keys determine
with_values : (f : Code → ℕ) (rows : List (Code × ℕ)) → All (λ (row : Code × ℕ). row.1 ≡ f row.0) rows
    → rows ≡ map (λ (k : Code). (k, f k)) (keys_of rows)
with_values f [] all = refl
with_values f (row ∷ rows) all =
    ap (λ (n : ℕ). (row.0, n) ∷ rows) (All-head (λ (x : Code × ℕ). x.1 ≡ f x.0) row rows all)
    ∙ ap (λ (t : List (Code × ℕ)). (row.0, f row.0) ∷ t)
    (with_values f rows (All-tail (λ (x : Code × ℕ). x.1 ≡ f x.0) row rows all))

-- ---- halls and openings

pub flipped : (a b : Code) → same_code a b ≡ same_code b a
flipped a b = same_bool (same_code a b) (same_code b a)
    (λ t. ap (same_code b) (same_code_exact a b t) ∙ same_code_itself b)
    (λ t. ap (same_code a) (same_code_exact b a t) ∙ same_code_itself a)

any_flipped : (h : Code) (xs : List Code) → list_any (λ code. same_code code h) xs ≡ list_any (same_code h) xs
any_flipped h [] = refl
any_flipped h (x ∷ xs) =
    ap (λ b. b || list_any (λ code. same_code code h) xs) (flipped x h)
    ∙ ap (λ t. same_code h x || t) (any_flipped h xs)

both_equal : (a b : Ordering) → is_eq (ordering_then a b) ≡ (is_eq a && is_eq b)
both_equal Less b = refl
both_equal Equal b = refl
both_equal Greater b = refl

tied : (s x : Code) → is_eq (code_cmp s x) ≡ same_code x s
tied s x = sym (texts_ties s x) ∙ flipped s x

-- the row of the hall's opening, among those of the session
opened_row : (s h : Code) (rows : List ((Code × Code) × Opening))
    → option_map (λ (opened : Code × Opening). opened.1)
    (find (λ (opened : Code × Opening). same_code opened.0 h)
    (map (λ (o : (Code × Code) × Opening). (o.0.1, o.1))
    (filter (λ (o : (Code × Code) × Opening). same_code o.0.0 s) rows)))
    ≡ row_at opening_cmp rows (s, h)
opened_row s h [] = refl
opened_row s h (o ∷ rows) = by_session (same_code o.0.0 s) test (opened_row s h rows)
  where
    test : is_eq (opening_cmp (s, h) o.0) ≡ (same_code o.0.0 s && same_code o.0.1 h)
    test =
        both_equal (code_cmp s o.0.0) (code_cmp h o.0.1)
        ∙ ap (λ b. b && is_eq (code_cmp h o.0.1)) (tied s o.0.0) ∙ ap (λ b. same_code o.0.0 s && b) (tied h o.0.1)

    rest : List (Code × Opening)
    rest = map (λ (x : (Code × Code) × Opening). (x.0.1, x.1))
        (filter (λ (x : (Code × Code) × Opening). same_code x.0.0 s) rows)

    by_hall : (t b : Bool) → t ≡ b
        → option_map (λ (opened : Code × Opening). opened.1)
        (find (λ (opened : Code × Opening). same_code opened.0 h) rest) ≡ row_at opening_cmp rows (s, h)
        → option_map (λ (opened : Code × Opening). opened.1)
        (cond b (Some (o.0.1, o.1)) (find (λ (opened : Code × Opening). same_code opened.0 h) rest))
        ≡ cond t (Some o.1) (row_at opening_cmp rows (s, h))
    by_hall true true e later = refl
    by_hall false false e later = later
    by_hall true false e later = cc
    by_hall false true e later = cc

    by_session : (a : Bool) → is_eq (opening_cmp (s, h) o.0) ≡ (a && same_code o.0.1 h)
        → option_map (λ (opened : Code × Opening). opened.1)
        (find (λ (opened : Code × Opening). same_code opened.0 h) rest) ≡ row_at opening_cmp rows (s, h)
        → option_map (λ (opened : Code × Opening). opened.1)
        (find (λ (opened : Code × Opening). same_code opened.0 h)
        (map (λ (x : (Code × Code) × Opening). (x.0.1, x.1))
        (cond a (o ∷ filter (λ (x : (Code × Code) × Opening). same_code x.0.0 s) rows)
        (filter (λ (x : (Code × Code) × Opening). same_code x.0.0 s) rows))))
        ≡ cond (is_eq (opening_cmp (s, h) o.0)) (Some o.1) (row_at opening_cmp rows (s, h))
    by_session true e later = by_hall (is_eq (opening_cmp (s, h) o.0)) (same_code o.0.1 h) e later
    by_session false e later = later ∙ sym (ap (λ t. cond t (Some o.1) (row_at opening_cmp rows (s, h))) e)

-- ---- what a view shows

module _ (office : State) (s : Code) (view : View) (is : IsViewOf office s view) where
  seats_are : seats_of view ≡ seats_in office s
  seats_are = all_given (seat_of office s) (seats_of view) (members office.relations s) is.seats

  clashes_are : view.clashes ≡ clashes_in office s
  clashes_are = all_given (clash_of office.relations s) view.clashes (clashes office.relations s) is.clashes

  hall_known : (h : Code) → has_hall view h ≡ has_row code_cmp office.relations.halls h
  hall_known h =
      ap (list_any (λ code. same_code code h)) is.hall_codes
      ∙ any_flipped h (keys_of office.relations.halls) ∙ sym (known_among h office.relations.halls)

  pub opening_is : (h : Code) → opening_of view h ≡ row_at opening_cmp office.relations.openings (s, h)
  opening_is h =
      ap (λ (os : List (Code × Opening)). option_map (λ (opened : Code × Opening). opened.1)
      (find (λ (opened : Code × Opening). same_code opened.0 h) os)) is.openings
      ∙ opened_row s h office.relations.openings

  opened : (h : Code) → opening_in view h ≡ opening_for office.relations s h
  opened h =
      ap (λ b. cond b (ok_or (opening_of view h) HallNotOpened) (Err UnknownHall)) (hall_known h)
      ∙ ap (λ (o : Option Opening). cond (has_row code_cmp office.relations.halls h) (ok_or o HallNotOpened)
      (Err UnknownHall)) (opening_is h)

  pub door_list_is : (h : Code) → door_list view h ≡ door_list_of office s h
  door_list_is h =
      ap (λ (code : Code). sheet_if (λ (o : Opening). door_text code view.session h o (seats_of view))
      (opening_in view h)) is.code
      ∙ ap (λ (seats : List Seat). sheet_if (λ (o : Opening). door_text s view.session h o seats) (opening_in view h))
      seats_are
      ∙ ap (sheet_if (λ (o : Opening). door_text s view.session h o (seats_in office s))) (opened h)
      ∙ sym (ap (of_known (λ (session : Session). sheet_if
      (λ (o : Opening). door_text s session h o (seats_in office s)) (opening_for office.relations s h)))
      is.session)

  pub attendance_is : (p : Code) → attendance view p ≡ attendance_of office s p
  attendance_is p =
      ap (λ (code : Code). sheet_if (λ (found : Unit {0}). attendance_text code view.session p (seats_of view))
      (paper_in view p)) is.code
      ∙ ap (λ (seats : List Seat). sheet_if (λ (found : Unit {0}). attendance_text s view.session p seats)
      (paper_in view p)) seats_are
      ∙ ap (λ (papers : List Code). sheet_if
      (λ (found : Unit {0}). attendance_text s view.session p (seats_in office s))
      (cond (list_any (λ code. same_code code p) papers) (Ok tt) (Err UnknownPaper))) is.papers
      ∙ sym (ap (of_known (λ (session : Session). sheet_if
      (λ (found : Unit {0}). attendance_text s session p (seats_in office s)) (paper_for office.relations s p)))
      is.session)

  pub clash_list_is : Ok (clash_list view) ≡ clash_list_of office s
  clash_list_is =
      ap (λ (code : Code). Ok (clash_text code view.session view.clashes)) is.code
      ∙ ap (λ (list : List Clash). Ok (clash_text s view.session list)) clashes_are
      ∙ sym (ap (of_known (λ (session : Session). Ok (clash_text s session (clashes_in office s)))) is.session)

  pub export_is : Ok (seat_export view) ≡ export_of office s
  export_is =
      ap (λ (code : Code). Ok (export_text code (seats_of view))) is.code
      ∙ ap (λ (seats : List Seat). Ok (export_text s seats)) seats_are
      ∙ sym (ap (of_known (λ (session : Session). Ok (export_text s (seats_in office s)))) is.session)

  pub register_is : Ok (appeal_register view) ≡ register_of office s
  register_is =
      ap (λ (code : Code). Ok (register_text code view.appeals)) is.code
      ∙ ap (λ (list : List AppealRow). Ok (register_text s list)) is.appeals
      ∙ sym (ap (of_known (λ (session : Session). Ok (register_text s (appeals_of office.relations s)))) is.session)

-- ---- the shortage

module _ (facts : Relations) (seats others : Seats) (s : Code) (one two : Report)
    (first : IsShortageOf (record { relations = facts; seats = seats }) s one)
    (second : IsShortageOf (record { relations = facts; seats = others }) s two) where
  same_candidates : one.candidates ≡ two.candidates
  same_candidates = same_rising nat_cmp_total exact_unsigned one.candidates two.candidates first.certificate.rising
      second.certificate.rising
      (λ c. (
        λ m. (second.contested c).1 ((first.contested c).0 m),
        λ m. (first.contested c).1 ((second.contested c).0 m),
      ))

  same_codes : keys_of one.halls ≡ keys_of two.halls
  same_codes = same_rising nat_list_cmp_total exact_bytes (keys_of one.halls)
      (keys_of two.halls) first.certificate.halls_rising second.certificate.halls_rising
      (λ h. (
        λ m. let w = (first.certificate.halls_of h).0 m in
            (second.certificate.halls_of h).1 (w.0, subst (λ (ns : List ℕ). Contains ns w.0) same_candidates w.1, w.2),
        λ m. let w = (second.certificate.halls_of h).0 m in
            (first.certificate.halls_of h).1
            (w.0, subst (λ (ns : List ℕ). Contains ns w.0) (sym same_candidates) w.1, w.2),
      ))

  same_halls : one.halls ≡ two.halls
  same_halls =
      with_values (desks facts s) one.halls first.desks
      ∙ ap (map (λ (k : Code). (k, desks facts s k))) same_codes
      ∙ sym (with_values (desks facts s) two.halls second.desks)

  same_count : one.unseated ≡ two.unseated
  same_count =
      let long : length one.candidates ≡ length two.candidates = ap length same_candidates in
      let sums : sum_by (desks facts s) (keys_of one.halls) ≡ sum_by (desks facts s) (keys_of two.halls) =
      ap (sum_by (desks facts s)) same_codes in
      let left : length one.candidates ≡ sum_by (desks facts s) (keys_of one.halls) + one.unseated =
      first.certificate.excess
      ∙ ap (λ (n : ℕ). sum_by (desks facts s) (keys_of one.halls) + n) (sym first.unseated) in
      let right : length two.candidates ≡ sum_by (desks facts s) (keys_of two.halls) + two.unseated =
      second.certificate.excess
      ∙ ap (λ (n : ℕ). sum_by (desks facts s) (keys_of two.halls) + n) (sym second.unseated) in
      omega (arith, long, sums, left, right)

  report : ℕ → List (Code × ℕ) → List ℕ → Report
  report u halls candidates = record { unseated = u; halls = halls; candidates = candidates }

  pub same_report : one ≡ two
  unfolding report
  same_report =
      ap (λ (u : ℕ). report u one.halls one.candidates) same_count
      ∙ ap (λ (hs : List (Code × ℕ)). report two.unseated hs one.candidates) same_halls
      ∙ ap (λ (ns : List ℕ). report two.unseated two.halls ns) same_candidates

pub same_sheet : (facts : Relations) (seats others : Seats) (s : Code) (view other : View) (one two : Report)
    → IsViewOf (record { relations = facts; seats = seats }) s view → ShowsShortage view one
    → IsViewOf (record { relations = facts; seats = others }) s other → ShowsShortage other two
    → shortage_text view.code one ≡ shortage_text other.code two
same_sheet facts seats others s view other one two is shown is' shown' =
    ap (λ (code : Code). shortage_text code one) (is.code ∙ sym is'.code)
    ∙ ap (shortage_text other.code)
    (same_report facts seats others s one two (is.shortage one shown) (is'.shortage two shown'))
