-- What stays of a plan, and its repair, by indices are those by names, for two seatings, one a renaming of the other.
use Rattle.exam_plan.proofs.Words.{is_lt, option_map, option_and_then, list_any_at, IfSome_then, false_from_ne_true}
use Rattle.exam_plan.proofs.Words.{fun_ext, Naming, named_plan, indexed_plan, Seating, Plan, SamePlan, IsLawful}
use Rattle.exam_plan.proofs.Words.{is_hall, where_fitting, fitting_part, lesser_occupants, where_room, room_part}
use Rattle.exam_plan.proofs.Words.{kept_part, IsSweep, IsRepair}
use Rattle.std.proofs.Common.{◌≡◌, ℕ, Bool, true, false, cond, ◌&&◌, IsTrue, nat_eq, Contains, count_by, Option, None}
use Rattle.std.proofs.Common.{Some, IsSome, IfSome, is_some, eq-eqb, refl, sym, ap, subst, ◌∙◌}
use Rattle.std.specs.Prelude.{nat_lt}
use Rattle.std.proofs.lemmas.Map.Views.{Contains-from_any, exact_unsigned_eq}
use Rattle.exam_plan.specs.Naming.{at_index}
use Rattle.exam_plan.specs.Repair.{is_member}
use Rattle.exam_plan.proofs.Renaming.{Renames, named_member, indexed_member, is_hall-known}
use Rattle.exam_plan.proofs.Carrying.{member_index, sum_same}
use Rattle.exam_plan.proofs.ChainNames.{Follows, AreKnown}
use Rattle.exam_plan.proofs.SweepNames.{IsSweep-named, IsSweep-indexed}
use Rattle.exam_plan.proofs.Small.{of_members}

module _ {C H : Type 0} (name : Naming C H) (r : Renames name) (f : Follows name) where
  abbrev Known : Plan ℕ ℕ → Type 0
  Known p = AreKnown name r f p

  abbrev by_name : Plan ℕ ℕ → Plan C H
  by_name p = named_plan name p

  abbrev by_index : Plan C H → Plan ℕ ℕ
  by_index q = indexed_plan name q

  -- ---- members

  member_listed : {X Y : Type 0} (g : Seating X Y) → ((x y : X) → x ≡ y → g.same_candidate x y ≡ true) → (x : X)
      → Contains g.members x → is_member g x ≡ true
  member_listed g itself x m = list_any_at (g.same_candidate x) g.members m.0 x m.1 (itself x _ (sym m.2))

  outside : (c : C) → name.candidate_index c ≡ None → is_member name.of_names c ≡ false
  outside c at = false_from_ne_true (is_member name.of_names c) (λ t.
      let w = member_index name r c (Contains-from_any (λ x y. (f.same_b x y).0) c name.of_names.members t) in
      let e : None ≡ Some w.0 = sym at ∙ w.1 in cc)

  -- ---- candidates that their hall fits

  -- where the hall of a member is read by indices
  pub seat_index : (q : Plan C H) (c : C) (i : ℕ) → name.candidate_index c ≡ Some i
      → by_index q i ≡ option_and_then name.hall_index (q c)
  seat_index q c i at =
      let is : name.candidate i ≡ c = (r.named c i at).0 in
      indexed_member name r q i (ap name.candidate_index is ∙ at) ∙ ap (λ t. option_and_then name.hall_index (q t)) is

  where_fitting-named : (c : C) (i : ℕ) → name.candidate_index c ≡ Some i → (o : Option H)
      → where_fitting name.of_names c o
      ≡ option_map name.hall (where_fitting name.of_indices i (option_and_then name.hall_index o))
  where_fitting-named c i at None = refl
  where_fitting-named c i at (Some h) = outer (name.hall_index h) refl
    where
      in_b : is_member name.of_names c ≡ true
      in_b = member_listed name.of_names (λ x y. (f.same_b x y).1) c (r.named c i at).2

      in_a : is_member name.of_indices i ≡ true
      in_a = member_listed name.of_indices (λ x y. (f.same_a x y).1) i (r.named c i at).1

      left : where_fitting name.of_names c (Some h) ≡ cond (name.of_names.fits c h) (Some h) None
      left = ap (λ t. cond (t && name.of_names.fits c h) (Some h) None) in_b

      inner : (j : ℕ) → name.hall j ≡ h → (t : Bool)
          → cond t (Some h) None ≡ option_map name.hall (cond t (Some j) None)
      inner j is true = ap Some (sym is)
      inner j is false = refl

      outer : (o : Option ℕ) → name.hall_index h ≡ o
          → where_fitting name.of_names c (Some h)
          ≡ option_map name.hall (where_fitting name.of_indices i (name.hall_index h))
      outer None e =
          left ∙ ap (λ t. cond t (Some h) None)
          (false_from_ne_true (name.of_names.fits c h)
          (λ t. let z : IsSome (name.hall_index h) = r.known_fit c h t in let y : false ≡ true =
          sym (ap (λ u. is_some u) e) ∙ z in cc))
          ∙ sym (ap (λ t. option_map name.hall (where_fitting name.of_indices i t)) e)
      outer (Some j) e =
          left ∙ ap (λ t. cond t (Some h) None) (r.fits c h i j at e)
          ∙ inner j (r.halls h j e) (name.of_indices.fits i j)
          ∙ sym (ap (λ t. option_map name.hall (cond (t && name.of_indices.fits i j) (Some j) None)) in_a)
          ∙ sym (ap (λ t. option_map name.hall (where_fitting name.of_indices i t)) e)

  where_outside : (c : C) → name.candidate_index c ≡ None → (o : Option H) → where_fitting name.of_names c o ≡ None
  where_outside c at None = refl
  where_outside c at (Some h) = ap (λ t. cond (t && name.of_names.fits c h) (Some h) None) (outside c at)

  fitting_part-named : (q : Plan C H)
      → SamePlan (fitting_part name.of_names q) (by_name (fitting_part name.of_indices (by_index q)))
  fitting_part-named q c = outer (name.candidate_index c) refl
    where
      outer : (o : Option ℕ) → name.candidate_index c ≡ o
          → fitting_part name.of_names q c ≡ by_name (fitting_part name.of_indices (by_index q)) c
      outer None at = where_outside c at (q c)
          ∙ sym (ap (option_and_then (λ i. option_map name.hall (fitting_part name.of_indices (by_index q) i))) at)
      outer (Some i) at =
          where_fitting-named c i at (q c)
          ∙ ap (λ t. option_map name.hall (where_fitting name.of_indices i t)) (sym (seat_index q c i at))
          ∙ sym (named_member name r (fitting_part name.of_indices (by_index q)) c i at)

  -- who is left by that sits in a hall that fits
  fitting_part-fits : (p : Plan ℕ ℕ) (i : ℕ)
      → IfSome (fitting_part name.of_indices p i) (λ j. IsTrue (name.of_indices.fits i j))
  fitting_part-fits p i = outer (p i)
    where
      inner : (j : ℕ) (m t : Bool) → name.of_indices.fits i j ≡ t
          → IfSome (cond (m && t) (Some j) None) (λ j. IsTrue (name.of_indices.fits i j))
      inner j true true e = e
      inner j true false e = tt
      inner j false t e = tt

      outer : (o : Option ℕ) → IfSome (where_fitting name.of_indices i o) (λ j. IsTrue (name.of_indices.fits i j))
      outer None = tt
      outer (Some j) = inner j (is_member name.of_indices i) (name.of_indices.fits i j) refl

  fitting_part-known : (p : Plan ℕ ℕ) → Known (fitting_part name.of_indices p)
  fitting_part-known p i = IfSome_then (fitting_part name.of_indices p i) (fitting_part-fits p i) (r.known_hall i)

  -- ---- candidates that have a desk

  lesser-named : (p : Plan ℕ ℕ) → Known p → (i k : ℕ) → Contains name.of_indices.members i
      → name.hall_index (name.hall k) ≡ Some k
      → lesser_occupants name.of_names (by_name p) (name.candidate i) (name.hall k)
      ≡ lesser_occupants name.of_indices p i k
  lesser-named p known i k m at =
      ap (count_by (λ d. is_lt (name.of_names.candidate_cmp d (name.candidate i))
      && is_hall name.of_names (name.hall k) (by_name p d))) r.members
      ∙ sum_same (λ d. cond
      (is_lt (name.of_names.candidate_cmp d (name.candidate i))
      && is_hall name.of_names (name.hall k) (by_name p d)) 1 0)
      (λ d. cond (is_lt (name.of_indices.candidate_cmp d i) && is_hall name.of_indices k (p d)) 1 0) name.candidate
      name.of_indices.members
      (of_members _ name.of_indices.members (λ d n. λ t. cond (is_lt (f.candidates d i n m t) && both d n t) 1 0))
    where
      both : (d : ℕ) → Contains name.of_indices.members d
          → is_hall name.of_names (name.hall k) (by_name p (name.candidate d)) ≡ is_hall name.of_indices k (p d)
      both d n = ap (is_hall name.of_names (name.hall k)) (named_member name r p (name.candidate d) d (r.known d n))
          ∙ is_hall-known name r (name.hall k) k (p d) at (known d)

  where_room-named : (p : Plan ℕ ℕ) → Known p → (i : ℕ) → Contains name.of_indices.members i → (o : Option ℕ)
      → IfSome o (λ j. name.hall_index (name.hall j) ≡ Some j)
      → where_room name.of_names (by_name p) (name.candidate i) (option_map name.hall o)
      ≡ option_map name.hall (where_room name.of_indices p i o)
  where_room-named p known i m None at = refl
  where_room-named p known i m (Some k) at =
      (λ t. cond (nat_lt (lesser-named p known i k m at t) (r.desks (name.hall k) k at t)) (Some (name.hall k)) None)
      ∙ inner (nat_lt (lesser_occupants name.of_indices p i k) (name.of_indices.desks k))
    where
      inner : (t : Bool) → cond t (Some (name.hall k)) None ≡ option_map name.hall (cond t (Some k) None)
      inner true = refl
      inner false = refl

  room_part-named : (p : Plan ℕ ℕ) → Known p
      → SamePlan (room_part name.of_names (by_name p)) (by_name (room_part name.of_indices p))
  room_part-named p known c = outer (name.candidate_index c) refl
    where
      outer : (o : Option ℕ) → name.candidate_index c ≡ o
          → room_part name.of_names (by_name p) c ≡ by_name (room_part name.of_indices p) c
      outer None at =
          ap (where_room name.of_names (by_name p) c) (ap (option_and_then (λ i. option_map name.hall (p i))) at)
          ∙ sym (ap (option_and_then (λ i. option_map name.hall (room_part name.of_indices p i))) at)
      outer (Some i) at =
          ap (where_room name.of_names (by_name p) c) (named_member name r p c i at)
          ∙ ap (λ d. where_room name.of_names (by_name p) d (option_map name.hall (p i))) (sym (r.named c i at).0)
          ∙ where_room-named p known i (r.named c i at).1 (p i) (known i)
          ∙ sym (named_member name r (room_part name.of_indices p) c i at)

  -- ---- what stays

  pub kept_part-named : (q : Plan C H)
      → SamePlan (kept_part name.of_names q) (by_name (kept_part name.of_indices (by_index q)))
  kept_part-named q c =
      ap (λ (p : Plan C H). room_part name.of_names p c) (fun_ext (fitting_part-named q))
      ∙ room_part-named (fitting_part name.of_indices (by_index q)) (fitting_part-known (by_index q)) c

  room_part-keeps : (P : ℕ → ℕ → Type 0) (p : Plan ℕ ℕ) (i : ℕ) → IfSome (p i) (P i)
      → IfSome (room_part name.of_indices p i) (P i)
  room_part-keeps P p i = outer (p i)
    where
      inner : (j : ℕ) (t : Bool) → P i j → IfSome (cond t (Some j) None) (P i)
      inner j true w = w
      inner j false w = tt

      outer : (o : Option ℕ) → IfSome o (P i) → IfSome (where_room name.of_indices p i o) (P i)
      outer None w = tt
      outer (Some j) w = inner j (nat_lt (lesser_occupants name.of_indices p i j) (name.of_indices.desks j)) w

  kept_part-fits : (p : Plan ℕ ℕ) (i : ℕ)
      → IfSome (kept_part name.of_indices p i) (λ j. IsTrue (name.of_indices.fits i j))
  kept_part-fits p i =
      room_part-keeps (λ i j. IsTrue (name.of_indices.fits i j)) (fitting_part name.of_indices p) i
      (fitting_part-fits p i)

  kept_part-known : (p : Plan ℕ ℕ) → Known (kept_part name.of_indices p)
  kept_part-known p i = IfSome_then (kept_part name.of_indices p i) (kept_part-fits p i) (r.known_hall i)

  -- a plan by indices that seats where it fits, named and read by indices again, is the same
  pub index_of_name : (p : Plan ℕ ℕ) → ((i : ℕ) → IfSome (p i) (λ j. IsTrue (name.of_indices.fits i j)))
      → SamePlan (by_index (by_name p)) p
  index_of_name p fitting i = outer (name.candidate_index (name.candidate i)) refl
    where
      here : (o : Option ℕ) → IfSome o (λ j. IsTrue (name.of_indices.fits i j))
          → option_and_then name.hall_index (option_map name.hall o) ≡ o
      here None fit = refl
      here (Some j) fit = r.known_hall i j fit

      nowhere : (o : Option ℕ) → IfSome o (λ j. IsTrue (name.of_indices.fits i j))
          → (Contains name.of_indices.members i → ⊥) → o ≡ None
      nowhere None fit out = refl
      nowhere (Some j) fit out = absurd (out (f.fit_members i j fit))

      inner : (k : ℕ) (t : Bool) → nat_eq k i ≡ t → name.candidate_index (name.candidate i) ≡ Some k
          → cond t (option_and_then name.hall_index (by_name p (name.candidate i))) None ≡ p i
      inner k true e at =
          let at_i : name.candidate_index (name.candidate i) ≡ Some i = at ∙ ap Some (exact_unsigned_eq k i e) in
          ap (option_and_then name.hall_index) (named_member name r p (name.candidate i) i at_i)
          ∙ here (p i) (fitting i)
      inner k false e at = sym (nowhere (p i) (fitting i) (λ m.
          let s : Some k ≡ Some i = sym at ∙ r.known i m in
          let is : k ≡ i = cc in
          let z : false ≡ true = sym e ∙ eq-eqb k i is in cc))

      outer : (o : Option ℕ) → name.candidate_index (name.candidate i) ≡ o → by_index (by_name p) i ≡ p i
      outer None at =
          ap (option_and_then (at_index name (by_name p) i)) at
          ∙ sym (nowhere (p i) (fitting i) (λ m. let z : None ≡ Some i = sym at ∙ r.known i m in cc))
      outer (Some k) at = ap (option_and_then (at_index name (by_name p) i)) at ∙ inner k (nat_eq k i) refl at

  -- a lawful plan by names, read by indices and named again, is the same
  pub name_of_index : (q : Plan C H) → IsLawful name.of_names q → SamePlan (by_name (by_index q)) q
  name_of_index q lawful c = outer (name.candidate_index c) refl
    where
      inner : (h : H) (o : Option ℕ) → name.hall_index h ≡ o → IsSome o → option_map name.hall o ≡ Some h
      inner h None e there = absurd (let z : false ≡ true = there in cc)
      inner h (Some j) e there = ap Some (r.halls h j e)

      here : (o : Option H) → IfSome o (λ h. IsTrue (name.of_names.fits c h))
          → option_map name.hall (option_and_then name.hall_index o) ≡ o
      here None fit = refl
      here (Some h) fit = inner h (name.hall_index h) refl (r.known_fit c h fit)

      nowhere : (o : Option H) → q c ≡ o → name.candidate_index c ≡ None → o ≡ None
      nowhere None e at = refl
      nowhere (Some h) e at = absurd (
          let w = member_index name r c (lawful.members c (ap is_some e)) in
          let z : None ≡ Some w.0 = sym at ∙ w.1 in cc)

      outer : (o : Option ℕ) → name.candidate_index c ≡ o → by_name (by_index q) c ≡ q c
      outer None at = ap (option_and_then (λ i. option_map name.hall (by_index q i))) at ∙ sym (nowhere (q c) refl at)
      outer (Some i) at = named_member name r (by_index q) c i at ∙ ap (option_map name.hall) (seat_index q c i at)
          ∙ here (q c) (lawful.fitting c)

  -- ---- repairs

  pub IsRepair-named : (first : Option C) (q : Plan C H) (after : Plan ℕ ℕ)
      → IsRepair name.of_indices (option_and_then name.candidate_index first) (by_index q) after
      → IsRepair name.of_names first q (by_name after)
  IsRepair-named first q after repaired =
      subst (λ (p : Plan C H). IsSweep name.of_names first p (by_name after)) (sym (fun_ext (kept_part-named q)))
      (IsSweep-named name r f first (kept_part name.of_indices (by_index q)) after
      (kept_part-known (by_index q)) repaired)

  pub IsRepair-indexed : (first : Option C) (q after : Plan C H) → IsRepair name.of_names first q after
      → (then : Plan ℕ ℕ) × IsRepair name.of_indices (option_and_then name.candidate_index first) (by_index q) then
      × SamePlan after (by_name then)
  IsRepair-indexed first q after repaired =
      IsSweep-indexed name r f first (kept_part name.of_indices (by_index q)) after (kept_part-known (by_index q))
      (subst (λ (p : Plan C H). IsSweep name.of_names first p after) (fun_ext (kept_part-named q)) repaired)
