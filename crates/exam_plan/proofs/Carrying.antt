-- What is so by indices is so by names, for two seatings, one a renaming of the other.
use Rattle.exam_plan.proofs.Words.{Ordering, Less, AllByRecursion, IsStrictlySortedBy, sum_by-cons, option_map}
use Rattle.exam_plan.proofs.Words.{option_and_then, get_or-map, get_or_default, length-map, recursion_from_All}
use Rattle.exam_plan.proofs.Words.{IfSome_then, Naming, named_plan, indexed_plan, Plan, IsLawful, IsBest, IsContested}
use Rattle.exam_plan.proofs.Words.{IsCertificate, is_hall, occupants, unseated, desk_number, size}
use Rattle.std.proofs.Common.{◌≡◌, ℕ, ◌+◌, ◌<◌, ◌≤◌, Bool, IsTrue, List, [], ◌∷◌, length, map, filter, get_or, Contains}
use Rattle.std.proofs.Common.{count_by, sum_by, Option, None, Some, IfSome, is_none, refl, sym, ap, subst, ◌∙◌, arith}
use Rattle.std.proofs.lemmas.List.Elements.{All-contains, All-map}
use Rattle.exam_plan.proofs.Renaming.{Renames, named_member, indexed_member, is_hall-known, IsLawful-named}
use Rattle.exam_plan.proofs.Renaming.{IsBest-named, size-named, size-indexed, IsLawful-indexed}
use Rattle.exam_plan.proofs.Small.{all_filter, count_same, filter_same, of_members, some_value}

is_none-map : {A B : Type 0} (f : A → B) (o : Option A) → is_none (option_map f o) ≡ is_none o
is_none-map f None = refl
is_none-map f (Some x) = refl

none_from : {A B : Type 0} (f : A → B) (o : Option A) → o ≡ None → option_map f o ≡ None
none_from f o e = ap (option_map f) e

pub contains_map : {Y : Type 0} (f : ℕ → Y) (xs : List ℕ) (x : ℕ) → Contains xs x → Contains (map f xs) (f x)
contains_map f xs x m =
    let long : length (map f xs) ≡ length xs = length-map xs f in
    let k : ℕ = m.0 in
    let below : k < length xs = m.1 in
    (k, omega arith, get_or-map f xs k x (f x) below ∙ ap f m.2)

pub from_map : {Y : Type 0} (f : ℕ → Y) (xs : List ℕ) (y : Y) → Contains (map f xs) y
    → (x : ℕ) × Contains xs x × (f x ≡ y)
from_map f xs y m =
    let long : length (map f xs) ≡ length xs = length-map xs f in
    let k : ℕ = m.0 in
    let here : k < length (map f xs) = m.1 in
    let below : k < length xs = omega arith in
    (get_or xs k 0, (k, below, get_or_default xs k (get_or xs k 0) 0 below), sym (get_or-map f xs k 0 y below) ∙ m.2)

-- a rising list rises under another name
pub sorted_map : {X Y : Type 0} (R : X → X → Ordering) (S : Y → Y → Ordering) (f : X → Y) (P : X → Type 0)
    → ((x y : X) → P x → P y → R x y ≡ Less → S (f x) (f y) ≡ Less)
    → (xs : List X) → AllByRecursion P xs → IsStrictlySortedBy R xs → IsStrictlySortedBy S (map f xs)
unfolding IsStrictlySortedBy
sorted_map R S f P keeps [] all up = tt
sorted_map {X} {Y} R S f P keeps (x ∷ xs) all up = (above xs all.1 up.0, sorted_map R S f P keeps xs all.1 up.1)
  where
    above : (ys : List X) → AllByRecursion P ys → AllByRecursion (λ y. R x y ≡ Less) ys
        → AllByRecursion (λ z. S (f x) z ≡ Less) (map f ys)
    above [] a l = tt
    above (y ∷ ys) a l = (keeps x y all.0 a.0 l.0, above ys a.1 l.1)

pub sum_same : {X Y : Type 0} (f : Y → ℕ) (g : X → ℕ) (n : X → Y) (xs : List X)
    → AllByRecursion (λ x. f (n x) ≡ g x) xs → sum_by f (map n xs) ≡ sum_by g xs
sum_same f g n [] h = refl
sum_same f g n (x ∷ xs) h =
    sum_by-cons f (n x) (map n xs) ∙ ap (λ t. t + sum_by f (map n xs)) h.0 ∙ ap (λ t. g x + t) (sum_same f g n xs h.1)
    ∙ sym (sum_by-cons g x xs)

module _ {C H : Type 0} (name : Naming C H) (r : Renames name) where
  pub unseated-named : (p : Plan ℕ ℕ)
      → unseated name.of_names (named_plan name p) ≡ map name.candidate (unseated name.of_indices p)
  unseated-named p = ap (filter (λ c. is_none (named_plan name p c))) r.members
      ∙ filter_same (λ c. is_none (named_plan name p c)) (λ i. is_none (p i)) name.candidate name.of_indices.members
      (of_members _ name.of_indices.members
      (λ i m. ap is_none (named_member name r p (name.candidate i) i (r.known i m)) ∙ is_none-map name.hall (p i)))

  -- a member has an index
  pub member_index : (c : C) → Contains name.of_names.members c
      → (i : ℕ) × (name.candidate_index c ≡ Some i) × Contains name.of_indices.members i
  member_index c m =
      let listed : Contains (map name.candidate name.of_indices.members) c = subst (λ t. Contains t c) r.members m in
      let k : ℕ = listed.0 in
      let long : length (map name.candidate name.of_indices.members) ≡ length name.of_indices.members =
      length-map name.of_indices.members name.candidate in
      let here : k < length (map name.candidate name.of_indices.members) = listed.1 in
      let below : k < length name.of_indices.members = omega arith in
      let i : ℕ = get_or name.of_indices.members k 0 in
      let named_so : name.candidate i ≡ c =
      sym (get_or-map name.candidate name.of_indices.members k 0 c below) ∙ listed.2 in
      let there : Contains name.of_indices.members i = (k, below, get_or_default name.of_indices.members k i 0 below) in
      (i, sym (ap name.candidate_index named_so) ∙ r.known i there, there)

  -- the best plan by names is the best one by indices
  pub IsBest-indexed : (q : Plan C H) → IsBest name.of_names q → IsBest name.of_indices (indexed_plan name q)
  IsBest-indexed q best = record {
    lawful = IsLawful-indexed name r q best.lawful;
    greatest = λ other l.
        let e : size name.of_names (named_plan name other) ≡ size name.of_indices other = size-named name r other in
        let f : size name.of_indices (indexed_plan name q) ≡ size name.of_names q = size-indexed name r q best.lawful in
        let g : size name.of_names (named_plan name other) ≤ size name.of_names q =
        best.greatest (named_plan name other) (IsLawful-named name r other l) in
        omega arith;
  }

  -- the contested candidates are the named_plan name contested ones
  pub IsContested-named : (c : C) (i : ℕ) → name.candidate_index c ≡ Some i → IsContested name.of_indices i
      → IsContested name.of_names c
  IsContested-named c i e contested = (
    (r.named c i e).2,
    (
      named_plan name contested.1.0,
      IsBest-named name r contested.1.0 contested.1.1,
      named_member name r contested.1.0 c i e ∙ none_from name.hall (contested.1.0 i) contested.1.2,
    ),
  )

  pub IsContested-indexed : (c : C) (i : ℕ) → name.candidate_index c ≡ Some i → IsContested name.of_names c
      → IsContested name.of_indices i
  IsContested-indexed c i e contested =
      let is : name.candidate i ≡ c = (r.named c i e).0 in
      let at : name.candidate_index (name.candidate i) ≡ Some i = ap name.candidate_index is ∙ e in (
        (r.named c i e).1,
        (
          indexed_plan name contested.1.0,
          IsBest-indexed contested.1.0 contested.1.1,
          indexed_member name r contested.1.0 i at ∙ ap (λ t. option_and_then name.hall_index (contested.1.0 t)) is
              ∙ ap (option_and_then name.hall_index) contested.1.2,
        ),
      )

  -- a certificate by indices is one by names, where the names rise with the indices
  pub IsCertificate-named :
      ((i j : ℕ) → Contains name.of_indices.members i → Contains name.of_indices.members j
      → name.of_indices.candidate_cmp i j ≡ Less
      → name.of_names.candidate_cmp (name.candidate i) (name.candidate j) ≡ Less)
      → ((j k : ℕ) → name.hall_index (name.hall j) ≡ Some j → name.hall_index (name.hall k) ≡ Some k
      → name.of_indices.hall_cmp j k ≡ Less → name.of_names.hall_cmp (name.hall j) (name.hall k) ≡ Less)
      → (p : Plan ℕ ℕ) (candidates halls : List ℕ) → IsCertificate name.of_indices p candidates halls
      → IsCertificate name.of_names (named_plan name p) (map name.candidate candidates) (map name.hall halls)
  IsCertificate-named candidates_rise halls_rise p candidates halls cert = record {
    members = All-map (Contains name.of_names.members) name.candidate candidates
        (λ k d h. subst (λ t. Contains t (name.candidate (get_or candidates k d))) (sym r.members)
        (contains_map name.candidate name.of_indices.members (get_or candidates k d) (cert.members k d h)));
    rising = sorted_map name.of_indices.candidate_cmp name.of_names.candidate_cmp name.candidate
        (Contains name.of_indices.members) candidates_rise candidates
        (recursion_from_All (Contains name.of_indices.members) candidates cert.members) cert.rising;
    halls_rising = sorted_map name.of_indices.hall_cmp name.of_names.hall_cmp name.hall
        (λ j. name.hall_index (name.hall j) ≡ Some j) halls_rise halls
        (of_members _ halls hall_known) cert.halls_rising;
    halls_of = λ h. (found h, back h);
    excess = length-map candidates name.candidate ∙ cert.excess
        ∙ ap (λ t. t + length (unseated name.of_indices p)) (sym desks_same)
        ∙ ap (λ t. sum_by name.of_names.desks (map name.hall halls) + t)
        (sym (ap length (unseated-named p) ∙ length-map (unseated name.of_indices p) name.candidate));
  }
    where
      hall_known : (j : ℕ) → Contains halls j → name.hall_index (name.hall j) ≡ Some j
      hall_known j m = let w = (cert.halls_of j).0 m in r.known_hall w.0 j w.2

      desks_same : sum_by name.of_names.desks (map name.hall halls) ≡ sum_by name.of_indices.desks halls
      desks_same = sum_same name.of_names.desks name.of_indices.desks name.hall halls
          (of_members _ halls (λ j m. r.desks (name.hall j) j (hall_known j m)))

      found : (h : H) → Contains (map name.hall halls) h
          → (c : C) × Contains (map name.candidate candidates) c × IsTrue (name.of_names.fits c h)
      found h m =
          let w : (j : ℕ) × Contains halls j × (name.hall j ≡ h) = from_map name.hall halls h m in
          let v : (i : ℕ) × Contains candidates i × IsTrue (name.of_indices.fits i w.0) = (cert.halls_of w.0).0 w.1 in
          let at : name.hall_index h ≡ Some w.0 = ap name.hall_index (sym w.2) ∙ hall_known w.0 w.1 in (
            name.candidate v.0,
            contains_map name.candidate candidates v.0 v.1,
            r.fits (name.candidate v.0) h v.0 w.0
                (r.known v.0 (All-contains (Contains name.of_indices.members) candidates v.0 cert.members v.1)) at
                ∙ v.2,
          )

      back : (h : H) → (c : C) × Contains (map name.candidate candidates) c × IsTrue (name.of_names.fits c h)
          → Contains (map name.hall halls) h
      back h u =
          let w : (i : ℕ) × Contains candidates i × (name.candidate i ≡ u.0) =
          from_map name.candidate candidates u.0 u.1 in
          let v : (j : ℕ) × (name.hall_index h ≡ Some j) = some_value (name.hall_index h) (r.known_fit u.0 h u.2) in
          let at : name.candidate_index u.0 ≡ Some w.0 =
          ap name.candidate_index (sym w.2)
          ∙ r.known w.0 (All-contains (Contains name.of_indices.members) candidates w.0 cert.members w.1) in
          subst (Contains (map name.hall halls)) (r.halls h v.0 v.1)
          (contains_map name.hall halls v.0
          ((cert.halls_of v.0).1 (w.0, w.1, sym (r.fits u.0 h w.0 v.0 at v.1) ∙ u.2)))

  -- desk numbers are the same, where names stand in the order of the indices' ranks
  pub desk_number-named : (before_b : C → C → Bool) (before_a : ℕ → ℕ → Bool)
      → ((i j : ℕ) → Contains name.of_indices.members i → Contains name.of_indices.members j
      → before_b (name.candidate i) (name.candidate j) ≡ before_a i j)
      → (p : Plan ℕ ℕ) → IsLawful name.of_indices p → (c : C) (i : ℕ) → name.candidate_index c ≡ Some i
      → desk_number name.of_names before_b (named_plan name p) c ≡ desk_number name.of_indices before_a p i
  desk_number-named before_b before_a order p l c i at =
      ap (option_map (λ h. count_by (λ d. before_b d c) (occupants name.of_names (named_plan name p) h) + 1))
      (named_member name r p c i at) ∙ inner (p i) (l.fitting i)
    where
      member : Contains name.of_indices.members i
      member = (r.named c i at).1

      is : name.candidate i ≡ c
      is = (r.named c i at).0

      inner : (o : Option ℕ) → IfSome o (λ k. IsTrue (name.of_indices.fits i k))
          → option_map (λ h. count_by (λ d. before_b d c) (occupants name.of_names (named_plan name p) h) + 1)
          (option_map name.hall o)
          ≡ option_map (λ k. count_by (λ d. before_a d i) (occupants name.of_indices p k) + 1) o
      inner None fit = refl
      inner (Some k) fit =
          let sat : occupants name.of_names (named_plan name p) (name.hall k)
          ≡ map name.candidate (occupants name.of_indices p k) =
          ap (filter (λ c. is_hall name.of_names (name.hall k) (named_plan name p c))) r.members
          ∙ filter_same (λ c. is_hall name.of_names (name.hall k) (named_plan name p c))
          (λ d. is_hall name.of_indices k (p d)) name.candidate name.of_indices.members
          (of_members _ name.of_indices.members
          (λ d m. ap (is_hall name.of_names (name.hall k))
          (named_member name r p (name.candidate d) d (r.known d m))
          ∙ is_hall-known name r (name.hall k) k (p d) (r.known_hall i k fit)
          (IfSome_then (p d) (l.fitting d) (r.known_hall d)))) in
          ap (λ n. Some (n + 1)) (ap (count_by (λ d. before_b d c)) sat
          ∙ count_same (λ d. before_b d c) (λ d. before_a d i) name.candidate (occupants name.of_indices p k)
          (all_filter (λ d. before_b (name.candidate d) c ≡ before_a d i)
          (λ d. is_hall name.of_indices k (p d)) name.of_indices.members
          (of_members _ name.of_indices.members
          (λ d m. ap (before_b (name.candidate d)) (sym is) ∙ order d i m member))))
