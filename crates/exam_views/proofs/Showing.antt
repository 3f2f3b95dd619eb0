-- A view shows the session as it is in the office.
use Rattle.std.proofs.Common.{◌≡◌, ◌↔◌, ℕ, suc, ◌+◌, ◌<◌, ◌≤◌, Bool, true, false, cond, List, [], ◌∷◌, length, map}
use Rattle.std.proofs.Common.{filter, get_or, drop, Contains, ◌++◌, Option, None, Some, Result, Ok, Err, IfErr, refl}
use Rattle.std.proofs.Common.{ap, sym, subst, ◌∙◌, inl, inr, arith, ◌⊎◌}
use Rattle.std.specs.Map.{keys_of}
use Rattle.std.specs.List.{All, range_with_len}
use Rattle.std.specs.Option.{option_map, option_and_then}
use Rattle.std.specs.Ordering.{nat_cmp}
use Rattle.std.proofs.Math.Path.{fun_ext}
use Rattle.std.proofs.lemmas.List.{length-map, get_or-map, get_or_default, at_drop_more}
use Rattle.std.proofs.lemmas.List.Elements.{All-contains, All-head, All-tail, All-map, All-contains_itself, All-weaker}
use Rattle.std.proofs.lemmas.List.FromFn.{length-range_with_len, get_or-range_with_len, get_or-map-range_with_len}
use Rattle.exam_types.specs.declared.refusal.Refusal.{Refusal}
use Rattle.exam_types.specs.declared.refusal.Refusal.TheVariants.{NoMemory, TooMany}
use Rattle.exam_plan.specs.Matching.{IsBest, IsCertificate, IsContested, desk_number, unseated}
use Rattle.exam_plan.specs.HallSets.{most_halls}
use Rattle.exam_plan.specs.Problems.{most_members, Problem, IsProblem, IsPlan, seating_of, plan_at, ranks_before}
use Rattle.exam_plan.specs.Problems.{desk_numbers}
use Rattle.exam_plan.proofs.Contested.{some_certificate}
use Rattle.exam_plan.proofs.Steps.{plan_at-get_or}
use Rattle.exam_plan.proofs.Seatings.{fits_below}
use Rattle.exam_rules.specs.declared.rows.Candidate.{Candidate}
use Rattle.exam_rules.specs.declared.rows.Opening.{Opening}
use Rattle.exam_rules.specs.Relations.{Code, Relations, code_cmp, same_code, row_at}
use Rattle.exam_rules.specs.Sessions.{members, sitting, finish, clashes}
use Rattle.exam_rules.specs.Seatings.{indexed_seating, seating, problem_of, plan_of, open_halls, desks, fitting_places}
use Rattle.exam_rules.specs.Seatings.{comes_before, IsTooLarge}
use Rattle.exam_rules.specs.Names.{naming, ListsRise, number_at, hall_at, index_of, named_plan, indexed_plan}
use Rattle.exam_rules.proofs.Naming.{renames, order_same, numbers_rise, codes_rise, fit_open, index_known}
use Rattle.exam_rules.proofs.Ranking.{is_problem}
use Rattle.exam_rules.proofs.Turns.{push_step}
use Rattle.exam_rules.proofs.Following.{follows}
use Rattle.exam_plan.proofs.KeptNames.{name_of_index}
use Rattle.exam_rules.proofs.PlanLists.{named_at_index}
use Rattle.exam_plan.proofs.Carrying.{IsBest-indexed, IsCertificate-named, IsContested-named, IsContested-indexed}
use Rattle.exam_plan.proofs.Carrying.{desk_number-named, unseated-named, member_index, contains_map, from_map}
use Rattle.exam_commands.specs.State.{State, Seats}
use Rattle.exam_rules.specs.Plans.{places_of}
use Rattle.exam_views.specs.Views.{View, IsView, IsViewOf, Report, ShowsShortage, IsShortageOf, seats_from, seat_at}
use Rattle.exam_views.specs.Views.{seats_of, seat_of, seat_in, member_of, hall_of, number_of, hall_with_desks}
use Rattle.exam_views.specs.Views.{openings_of, papers_of, clash_of, appeals_of}
use Rattle.exam_views.specs.declared.view.Clash.{Clash}
use Rattle.exam_views.specs.declared.view.Member.{Member}
use Rattle.exam_views.specs.declared.view.Seat.{Seat}
use Rattle.exam_commands.proofs.Repairing.{stored_is_plan, stored_is_indexed}

pub on_err : {T E : Type 0} (result : Result T E) (P Q : E → Type 0) → ((e : E) → P e → Q e) → IfErr result P
    → IfErr result Q
on_err (Ok x) P Q f h = tt
on_err (Err e) P Q f h = f e h

-- the refusals of a problem whose lists are known, if the session has few members and open halls
pub memory_alone : (r : Relations) (s : Code) → length (members r s) ≤ most_members
    → length (open_halls r s) ≤ most_halls → (e : Refusal) → (e ≡ NoMemory) ⊎ ((e ≡ TooMany) × IsTooLarge r s)
    → e ≡ NoMemory
memory_alone r s few few_halls e (inl memory) = memory
memory_alone r s few few_halls e (inr many) = absurd (elim many.1 [ inl more ↦ omega arith | inr more ↦ omega arith ])

-- ---- lists of members

cons_parts : {A : Type 0} (x y : A) (xs ys : List A) → x ∷ xs ≡ y ∷ ys → (x ≡ y) × (xs ≡ ys)
cons_parts x y xs ys e = (cc, cc)

module _ (r : Relations) (s : Code) where
  -- a member has the number that they are asked for by
  number_is : (c : ℕ) (m : Member) → member_of r s c ≡ Some m → m.number ≡ c
  number_is c m = with_row (row_at nat_cmp r.candidates c)
    where
      with_end : (row : Candidate) (paper : Code) (o : Option ℕ)
          → option_map (λ (end : ℕ). let x : Member =
          record { number = c; name = row.name; paper = paper; finish = end } in x) o ≡ Some m → m.number ≡ c
      with_end row paper None e = cc
      with_end row paper (Some end) e = let x : Member =
          record { number = c; name = row.name; paper = paper; finish = end } in let same : x ≡ m =
          cc in sym (ap (λ (y : Member). y.number) same)

      with_paper : (row : Candidate) (o : Option Code)
          → option_and_then (λ (paper : Code). option_map
          (λ (end : ℕ). let x : Member = record { number = c; name = row.name; paper = paper; finish = end } in x)
          (finish r s c)) o ≡ Some m → m.number ≡ c
      with_paper row None e = cc
      with_paper row (Some paper) e = with_end row paper (finish r s c) e

      with_row : (o : Option Candidate)
          → option_and_then (λ (row : Candidate). option_and_then
          (λ (paper : Code). option_map
          (λ (end : ℕ). let x : Member = record { number = c; name = row.name; paper = paper; finish = end } in x)
          (finish r s c)) (sitting r s c)) o ≡ Some m → m.number ≡ c
      with_row None e = cc
      with_row (Some row) e = with_paper row (sitting r s c) e

  numbers_are : (ms : List Member) (ns : List ℕ) → map (λ (m : Member). Some m) ms ≡ map (member_of r s) ns
      → map (λ (m : Member). m.number) ms ≡ ns
  numbers_are [] [] e = refl
  numbers_are [] (n ∷ ns) e = cc
  numbers_are (m ∷ ms) [] e = cc
  numbers_are (m ∷ ms) (n ∷ ns) e =
      let w = cons_parts (Some m) (member_of r s n) (map (λ (m : Member). Some m) ms) (map (member_of r s) ns) e in
      ap (λ k. k ∷ map (λ (m : Member). m.number) ms) (number_is n m (sym w.0))
      ∙ ap (λ t. n ∷ t) (numbers_are ms ns w.1)

map_same : {A B : Type 0} (f g : A → B) (xs : List A) → All (λ x. f x ≡ g x) xs → map f xs ≡ map g xs
map_same f g [] all = refl
map_same f g (x ∷ xs) all =
    ap (λ y. y ∷ map f xs) (All-head (λ x. f x ≡ g x) x xs all)
    ∙ ap (λ t. g x ∷ t) (map_same f g xs (All-tail (λ x. f x ≡ g x) x xs all))

firsts : {B C : Type 0} (f : ℕ → B) (g : ℕ → C) (js : List ℕ) → keys_of (map (λ (j : ℕ). (f j, g j)) js) ≡ map f js
firsts f g [] = refl
firsts f g (j ∷ js) = ap (λ t. f j ∷ t) (firsts f g js)

-- the openings by hall have the open halls as their keys
keys_are : (s : Code) (os : List ((Code × Code) × Opening))
    → keys_of (map (λ (o : (Code × Code) × Opening). (o.0.1, o.1)) (filter (λ o. same_code o.0.0 s) os))
    ≡ map (λ (o : (Code × Code) × Opening). o.0.1) (filter (λ o. same_code o.0.0 s) os)
keys_are s [] = refl
keys_are s (o ∷ os) = inner (same_code o.0.0 s) (keys_are s os)
  where
    inner : (b : Bool) → keys_of
        (map (λ (o : (Code × Code) × Opening). (o.0.1, o.1)) (filter (λ o. same_code o.0.0 s) os))
        ≡ map (λ (o : (Code × Code) × Opening). o.0.1) (filter (λ o. same_code o.0.0 s) os)
        → keys_of (map (λ (o : (Code × Code) × Opening). (o.0.1, o.1))
        (cond b (o ∷ filter (λ o. same_code o.0.0 s) os) (filter (λ o. same_code o.0.0 s) os)))
        ≡ map (λ (o : (Code × Code) × Opening). o.0.1)
        (cond b (o ∷ filter (λ o. same_code o.0.0 s) os) (filter (λ o. same_code o.0.0 s) os))
    inner true rest = ap (λ t. o.0.1 ∷ t) rest
    inner false rest = rest

-- an index of a range is below its length
range_below : (n i : ℕ) → Contains (range_with_len 0 n) i → i < n
range_below n i m =
    let here : m.0 < length (range_with_len 0 n) = m.1 in
    let long : length (range_with_len 0 n) ≡ n = length-range_with_len 0 n in
    let at : get_or (range_with_len 0 n) m.0 i ≡ 0 + m.0 = get_or-range_with_len 0 n m.0 i (omega arith) in
    let is : get_or (range_with_len 0 n) m.0 i ≡ i = m.2 in omega arith

-- ---- what a view shows of itself

module _ (view : View) (is : IsView view) where
  -- the halls of a certificate have openings, and its candidates are members
  pub halls_within : (candidates halls : List ℕ)
      → IsCertificate (seating_of view.problem) (plan_at view.plan) candidates halls
      → All (λ j. j < length view.openings) halls
  halls_within candidates halls cert = All-weaker (Contains halls) (λ j. j < length view.openings) (λ j m.
      let w = (cert.halls_of j).0 m in
      let below : j < length view.problem.desk_counts = fits_below view.problem is.problem w.0 j w.2 in
      let same : length view.openings ≡ length view.problem.desk_counts = is.openings in omega arith) halls
      (All-contains_itself halls)

  pub candidates_within : (candidates halls : List ℕ)
      → IsCertificate (seating_of view.problem) (plan_at view.plan) candidates halls
      → All (λ i. i < length view.members) candidates
  candidates_within candidates halls cert = All-weaker (Contains candidates) (λ i. i < length view.members) (λ i m.
      let below : i < length view.problem.fit =
      range_below (length view.problem.fit) i
      (All-contains (Contains (seating_of view.problem).members) candidates i cert.members m) in
      let same : length view.members ≡ length view.problem.fit = is.members in omega arith) candidates
      (All-contains_itself candidates)

  pub some_shortage : (report : Report) × ShowsShortage view report
  some_shortage =
      let w = some_certificate view.problem is.problem (plan_at view.plan) is.best in (
        record {
          unseated = length (unseated (seating_of view.problem) (plan_at view.plan));
          halls = map (hall_with_desks view) w.1;
          candidates = map (number_of view) w.0;
        },
        record {
          candidates = w.0;
          halls = w.1;
          certificate = w.3 (plan_at view.plan) is.best;
          contested = w.2;
          unseated = refl;
          named = refl;
          halls_named = refl;
        },
      )

  pub desks_long : (numbers : List (Option ℕ)) → numbers ≡ desk_numbers view.problem view.plan
      → length numbers ≡ length view.members
  desks_long numbers are =
      ap length are ∙ length-map (range_with_len 0 (length view.problem.fit))
      (desk_number (seating_of view.problem) (ranks_before view.problem) (plan_at view.plan))
      ∙ length-range_with_len 0 (length view.problem.fit) ∙ sym is.members

  desk_at : (numbers : List (Option ℕ)) → numbers ≡ desk_numbers view.problem view.plan → (i : ℕ) (d : Option ℕ)
      → i < length view.members
      → get_or numbers i d ≡ desk_number (seating_of view.problem) (ranks_before view.problem) (plan_at view.plan) i
  desk_at numbers are i d below =
      let same : length view.members ≡ length view.problem.fit = is.members in
      ap (λ (ns : List (Option ℕ)). get_or ns i d) are
      ∙ get_or-map-range_with_len
      (desk_number (seating_of view.problem) (ranks_before view.problem) (plan_at view.plan)) 0
      (length view.problem.fit) i i d (omega arith) (omega arith)

  pub one_more_seat : (i : ℕ) (m : Member) (ms : List Member) (numbers : List (Option ℕ)) (place desk : Option ℕ)
      (before after : List Seat) → ms ≡ view.members → i < length ms → m ≡ get_or ms i m
      → numbers ≡ desk_numbers view.problem view.plan → place ≡ get_or view.plan i place → desk ≡ get_or numbers i desk
      → after ≡ before ++ seat_in m (option_map (hall_of view) place) desk ∷ []
      → before ++ seats_from view i (drop i view.members) ≡ seats_of view
      → after ++ seats_from view (i + 1) (drop (i + 1) view.members) ≡ seats_of view
  one_more_seat i m ms numbers place desk before after are below here numbers_are place_is desk_is pushed so_far =
      let long : length ms ≡ length view.members = ap length are in
      let within : i < length view.members = omega arith in
      let planned : length view.plan ≡ length view.problem.fit = is.plan.whole in
      let listed : length view.members ≡ length view.problem.fit = is.members in
      let member : get_or view.members i m ≡ m = sym (here ∙ ap (λ (t : List Member). get_or t i m) are) in
      let sits : place ≡ plan_at view.plan i =
      place_is ∙ get_or_default view.plan i place None (omega arith) ∙ sym (plan_at-get_or view.plan i) in
      let at : desk ≡ desk_number (seating_of view.problem) (ranks_before view.problem) (plan_at view.plan) i =
      desk_is ∙ desk_at numbers numbers_are i desk within in
      let seat : seat_in m (option_map (hall_of view) place) desk ≡ seat_at view i m =
      ap (λ (o : Option ℕ). seat_in m (option_map (hall_of view) o) desk) sits
      ∙ ap (λ (d : Option ℕ). seat_in m (option_map (hall_of view) (plan_at view.plan i)) d) at in
      push_step before after (seats_from view (i + 1) (drop (i + 1) view.members)) (seats_of view) (seat_at view i m)
      (pushed ∙ ap (λ (x : Seat). before ++ x ∷ []) seat)
      (ap (λ (t : List Seat). before ++ t)
      (ap (λ (x : Member). seat_at view i x ∷ seats_from view (i + 1) (drop (i + 1) view.members)) (sym member)
      ∙ sym (at_drop_more (seats_from view i) view.members i m within)) ∙ so_far)

-- what a view is made of
pub record IsMadeOf (r : Relations) (seats : Seats) (s : Code) (view : View) : Type 0 where
  pub code : view.code ≡ s
  pub session : row_at code_cmp r.sessions s ≡ Some view.session
  pub hall_codes : view.hall_codes ≡ keys_of r.halls
  pub openings : view.openings ≡ openings_of r s
  pub problem : view.problem ≡ problem_of r s
  pub plan : view.plan ≡ places_of seats s (open_halls r s) (members r s)
  pub papers : view.papers ≡ papers_of r s
  pub clashes : map (λ (clash : Clash). Some clash) view.clashes ≡ map (clash_of r s) (clashes r s)
  pub appeals : view.appeals ≡ appeals_of r s
  pub members : map (λ (m : Member). Some m) view.members ≡ map (member_of r s) (members r s)

-- the stored plan of the listed members and halls
pub places_listed : (r : Relations) (seats : Seats) (s : Code) (numbers : List ℕ) (halls : List Code)
    (stored : List (Option ℕ)) → numbers ≡ members r s → halls ≡ open_halls r s
    → stored ≡ places_of seats s halls numbers → stored ≡ places_of seats s (open_halls r s) (members r s)
places_listed r seats s numbers halls stored numbers_are halls_are is =
    is ∙ ap (λ (hs : List Code). places_of seats s hs numbers) halls_are
    ∙ ap (places_of seats s (open_halls r s)) numbers_are

module _ (r : Relations) (seats : Seats) (s : Code) (up : ListsRise r s) (few : length (members r s) ≤ most_members)
    (best : IsBest (seating r s) (plan_of seats s)) (view : View) (made : IsMadeOf r seats s view) where
  plan_is : plan_at view.plan ≡ indexed_plan r s (plan_of seats s)
  plan_is = ap plan_at made.plan ∙ fun_ext (stored_is_indexed r s seats up)

  best_indexed : IsBest (indexed_seating r s) (plan_at view.plan)
  best_indexed = subst (IsBest (indexed_seating r s)) (sym plan_is)
      (IsBest-indexed (naming r s) (renames r s up) (plan_of seats s) best)

  named_is : named_plan r s (plan_at view.plan) ≡ plan_of seats s
  named_is = ap (named_plan r s) plan_is
      ∙ fun_ext (name_of_index (naming r s) (renames r s up) (follows r s up) (plan_of seats s) best.lawful)

  halls_are : keys_of view.openings ≡ open_halls r s
  halls_are = ap keys_of made.openings ∙ keys_are s r.openings

  member_numbers : map (λ (m : Member). m.number) view.members ≡ members r s
  member_numbers = numbers_are r s view.members (members r s) made.members

  -- ---- a best plan of the problem, with as many members and halls

  pub is_view : IsView view
  is_view = record {
    problem = subst IsProblem (sym made.problem) (is_problem r s up.numbers few);
    members = sym (length-map view.members (λ (m : Member). m.number)) ∙ ap length member_numbers
        ∙ sym (length-map (members r s) (λ c. fitting_places r s c (open_halls r s)))
        ∙ sym (ap (λ (p : Problem). length p.fit) made.problem);
    openings = sym (length-map view.openings (λ (o : Code × Opening). o.0)) ∙ ap length halls_are
        ∙ sym (length-map (open_halls r s) (desks r s)) ∙ sym (ap (λ (p : Problem). length p.desk_counts) made.problem);
    plan = subst (λ (p : Problem). IsPlan p view.plan) (sym made.problem)
        (subst (IsPlan (problem_of r s)) (sym made.plan) (stored_is_plan r s seats));
    best = subst (λ (p : Problem). IsBest (seating_of p) (plan_at view.plan)) (sym made.problem) best_indexed;
  }

  -- ---- the seats

  hall_is : (i : ℕ) → i < length (members r s)
      → option_map (hall_of view) (plan_at view.plan i) ≡ plan_of seats s (number_at r s i)
  hall_is i below =
      ap (λ (hs : List Code). option_map (λ j. get_or hs j []) (plan_at view.plan i)) halls_are
      ∙ sym (named_at_index r s up (plan_at view.plan) i below)
      ∙ ap (λ (q : ℕ → Option Code). q (number_at r s i)) named_is

  desk_is : (i : ℕ) → i < length (members r s)
      → desk_number (seating_of view.problem) (ranks_before view.problem) (plan_at view.plan) i
      ≡ desk_number (seating r s) (comes_before r s) (plan_of seats s) (number_at r s i)
  desk_is i below =
      ap (λ (p : Problem). desk_number (seating_of p) (ranks_before p) (plan_at view.plan) i) made.problem
      ∙ sym (desk_number-named (naming r s) (renames r s up) (comes_before r s) (ranks_before (problem_of r s))
      (order_same r s) (plan_at view.plan) best_indexed.lawful (number_at r s i) i (index_known r s up i below))
      ∙ ap (λ (q : ℕ → Option Code). desk_number (seating r s) (comes_before r s) q (number_at r s i)) named_is

  abbrev office : State
  office = record { relations = r; seats = seats }

  seat_is : (i : ℕ) (m : Member) (n : ℕ) → member_of r s n ≡ Some m → n ≡ number_at r s i → i < length (members r s)
      → Some (seat_at view i m) ≡ seat_of office s n
  seat_is i m n is at below =
      ap (λ (h : Option Code). Some
      (seat_in m h (desk_number (seating_of view.problem) (ranks_before view.problem) (plan_at view.plan) i)))
      (hall_is i below ∙ ap (plan_of seats s) (sym at))
      ∙ ap (λ (d : Option ℕ). Some (seat_in m (plan_of seats s n) d))
      (desk_is i below ∙ ap (desk_number (seating r s) (comes_before r s) (plan_of seats s)) (sym at))
      ∙ sym (ap (option_map
      (λ (x : Member). seat_in x (plan_of seats s n)
      (desk_number (seating r s) (comes_before r s) (plan_of seats s) n))) is)

  -- of the members from the i-th on
  seats_are : (i : ℕ) (ms : List Member) (ns : List ℕ) → map (λ (m : Member). Some m) ms ≡ map (member_of r s) ns
      → ((k : ℕ) → k < length ns → (get_or ns k 0 ≡ number_at r s (i + k)) × (i + k < length (members r s)))
      → map (λ (x : Seat). Some x) (seats_from view i ms) ≡ map (seat_of office s) ns
  seats_are i [] [] e places = refl
  seats_are i [] (n ∷ ns) e places = cc
  seats_are i (m ∷ ms) [] e places = cc
  seats_are i (m ∷ ms) (n ∷ ns) e places =
      let w = cons_parts (Some m) (member_of r s n) (map (λ (m : Member). Some m) ms) (map (member_of r s) ns) e in
      let first : (n ≡ number_at r s (i + 0)) × (i + 0 < length (members r s)) = places 0 (omega arith) in
      let zero : i + 0 ≡ i = omega arith in
      ap (λ (o : Option Seat). o ∷ map (λ (x : Seat). Some x) (seats_from view (i + 1) ms))
      (seat_is i m n (sym w.0) (first.0 ∙ ap (number_at r s) zero) (omega arith))
      ∙ ap (λ (t : List (Option Seat)). seat_of office s n ∷ t) (seats_are (i + 1) ms ns w.1 (λ k below.
      let next : i + suc k ≡ i + 1 + k = omega arith in
      let p : (get_or ns k 0 ≡ number_at r s (i + suc k)) × (i + suc k < length (members r s)) =
      places (suc k) (omega arith) in
      (p.0 ∙ ap (number_at r s) next, omega arith)))

  seats_so : map (λ (x : Seat). Some x) (seats_of view) ≡ map (seat_of office s) (members r s)
  seats_so = seats_are 0 view.members (members r s) made.members
      (λ k below. let same : k ≡ 0 + k = omega arith in (ap (number_at r s) same, omega arith))

  -- ---- the shortage

  hall_and_desks : (j : ℕ) → j < length (open_halls r s)
      → hall_with_desks view j ≡ (hall_at r s j, desks r s (hall_at r s j))
  hall_and_desks j below =
      ap (λ (h : Code). (h, get_or view.problem.desk_counts j 0)) (ap (λ (hs : List Code). get_or hs j []) halls_are)
      ∙ ap (λ (n : ℕ). (hall_at r s j, n))
      (ap (λ (p : Problem). get_or p.desk_counts j 0) made.problem
      ∙ get_or-map (desks r s) (open_halls r s) j [] 0 below)

  halls_same : (js : List ℕ) → All (λ j. j < length (open_halls r s)) js
      → map (hall_with_desks view) js ≡ map (λ (j : ℕ). (hall_at r s j, desks r s (hall_at r s j))) js
  halls_same js all = map_same (hall_with_desks view) (λ (j : ℕ). (hall_at r s j, desks r s (hall_at r s j))) js
      (All-weaker _ _ hall_and_desks js all)

  module _ (report : Report) (shown : ShowsShortage view report) where
    found : IsCertificate (indexed_seating r s) (plan_at view.plan) shown.candidates shown.halls
    found = subst (λ (p : Problem). IsCertificate (seating_of p) (plan_at view.plan) shown.candidates shown.halls)
        made.problem shown.certificate

    is_contested : (i : ℕ) → Contains shown.candidates i ↔ IsContested (indexed_seating r s) i
    is_contested = subst
        (λ (p : Problem). (i : ℕ) → Contains shown.candidates i ↔ IsContested (seating_of p) i) made.problem
        shown.contested

    candidates_are : report.candidates ≡ map (number_at r s) shown.candidates
    candidates_are = shown.named ∙ ap (λ (ns : List ℕ). map (λ (i : ℕ). get_or ns i 0) shown.candidates) member_numbers

    open_places : All (λ j. j < length (open_halls r s)) shown.halls
    open_places = All-weaker (Contains shown.halls) (λ j. j < length (open_halls r s))
        (λ j m. let w = (found.halls_of j).0 m in fit_open r s w.0 j w.2) shown.halls (All-contains_itself shown.halls)

    halls_named : report.halls ≡ map (λ (j : ℕ). (hall_at r s j, desks r s (hall_at r s j))) shown.halls
    halls_named = shown.halls_named ∙ halls_same shown.halls open_places

    hall_codes : keys_of report.halls ≡ map (hall_at r s) shown.halls
    hall_codes = ap keys_of halls_named ∙ firsts (hall_at r s) (λ (j : ℕ). desks r s (hall_at r s j)) shown.halls

    certified : IsCertificate (seating r s) (plan_of seats s) (map (number_at r s) shown.candidates)
        (map (hall_at r s) shown.halls)
    certified = subst (λ (q : ℕ → Option Code). IsCertificate (seating r s) q (map (number_at r s) shown.candidates)
        (map (hall_at r s) shown.halls)) named_is
        (IsCertificate-named (naming r s) (renames r s up) (numbers_rise r s up) (codes_rise r s up)
        (plan_at view.plan) shown.candidates shown.halls found)

    contested_from : (c : ℕ) → Contains report.candidates c → IsContested (seating r s) c
    contested_from c m =
        let w : (i : ℕ) × Contains shown.candidates i × (number_at r s i ≡ c) =
        from_map (number_at r s) shown.candidates c (subst (λ (ns : List ℕ). Contains ns c) candidates_are m) in
        let at : index_of r s c ≡ Some w.0 =
        sym (ap (index_of r s) w.2)
        ∙ (renames r s up).known w.0
        (All-contains (Contains (indexed_seating r s).members) shown.candidates w.0 found.members w.1) in
        IsContested-named (naming r s) (renames r s up) c w.0 at ((is_contested w.0).0 w.1)

    contested_to : (c : ℕ) → IsContested (seating r s) c → Contains report.candidates c
    contested_to c is =
        let w = member_index (naming r s) (renames r s up) c is.0 in
        let listed : Contains shown.candidates w.0 =
        (is_contested w.0).1 (IsContested-indexed (naming r s) (renames r s up) c w.0 w.1 is) in
        subst (λ (ns : List ℕ). Contains ns c) (sym candidates_are)
        (subst (Contains (map (number_at r s) shown.candidates)) ((renames r s up).named c w.0 w.1).0
        (contains_map (number_at r s) shown.candidates w.0 listed))

    is_shortage : IsShortageOf office s report
    is_shortage = record {
      certificate = subst (λ (ns : List ℕ). IsCertificate (seating r s) (plan_of seats s) ns (keys_of report.halls))
          (sym candidates_are)
          (subst (IsCertificate (seating r s) (plan_of seats s) (map (number_at r s) shown.candidates))
          (sym hall_codes) certified);
      contested = λ c. (contested_from c, contested_to c);
      desks = subst (λ (hs : List (Code × ℕ)). All (λ (hall : Code × ℕ). hall.1 ≡ desks r s hall.0) hs)
          (sym halls_named)
          (All-map (λ (hall : Code × ℕ). hall.1 ≡ desks r s hall.0)
          (λ (j : ℕ). (hall_at r s j, desks r s (hall_at r s j))) shown.halls (λ k d below. refl));
      unseated = shown.unseated
          ∙ ap (λ (p : Problem). length (unseated (seating_of p) (plan_at view.plan))) made.problem
          ∙ sym (length-map (unseated (indexed_seating r s) (plan_at view.plan)) (number_at r s))
          ∙ sym (ap length (unseated-named (naming r s) (renames r s up) (plan_at view.plan)))
          ∙ ap (λ (q : ℕ → Option Code). length (unseated (seating r s) q)) named_is;
    }

  pub is_view_of : IsViewOf office s view
  is_view_of = record {
    code = made.code;
    session = made.session;
    hall_codes = made.hall_codes;
    openings = made.openings;
    seats = seats_so;
    papers = made.papers;
    clashes = made.clashes;
    appeals = made.appeals;
    shortage = is_shortage;
  }
