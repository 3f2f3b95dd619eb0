-- A plan by indices, read by names, is lawful and best where it was so by indices.
use Rattle.exam_plan.proofs.Words.{option_map, option_and_then, length-filter, cases_eq, false_from_ne_true}
use Rattle.exam_plan.proofs.Words.{IfSome_then, same_Some, Naming, named_plan, indexed_plan, Plan, IsLawful, IsBest}
use Rattle.exam_plan.proofs.Words.{is_hall, occupants, size}
use Rattle.std.proofs.Common.{◌≡◌, ℕ, ◌+◌, ◌≤◌, ◌↔◌, Bool, true, false, cond, IsTrue, length, map, count_by, Contains}
use Rattle.std.proofs.Common.{Option, None, Some, IsSome, IfSome, is_some, nat_eq, eq-eqb, ◌⊎◌, inl, inr, refl, sym, ap}
use Rattle.std.proofs.Common.{subst, ◌∙◌, arith, map-id}
use Rattle.std.specs.Cmp.{both_ways}
use Rattle.std.proofs.lemmas.List.Folds.{fold_stays}
use Rattle.std.proofs.lemmas.Map.Views.{exact_unsigned_eq}
use Rattle.exam_plan.specs.Naming.{at_index}
use Rattle.exam_plan.proofs.Small.{of_members, count_same}

-- candidates and halls of a have names in b, and positions back
pub record Renames {C H : Type 0} (name : Naming C H) : Type 0 where
  pub members : name.of_names.members ≡ map name.candidate name.of_indices.members
  pub known : (i : ℕ) → Contains name.of_indices.members i → name.candidate_index (name.candidate i) ≡ Some i
  pub named : (c : C) (i : ℕ) → name.candidate_index c ≡ Some i
      → (name.candidate i ≡ c) × Contains name.of_indices.members i × Contains name.of_names.members c
  pub halls : (h : H) (j : ℕ) → name.hall_index h ≡ Some j → name.hall j ≡ h
  pub known_hall : (i j : ℕ) → IsTrue (name.of_indices.fits i j) → name.hall_index (name.hall j) ≡ Some j
  pub fits : (c : C) (h : H) (i j : ℕ) → name.candidate_index c ≡ Some i → name.hall_index h ≡ Some j
      → name.of_names.fits c h ≡ name.of_indices.fits i j
  pub known_fit : (c : C) (h : H) → IsTrue (name.of_names.fits c h) → IsSome (name.hall_index h)
  pub desks : (h : H) (j : ℕ) → name.hall_index h ≡ Some j → name.of_names.desks h ≡ name.of_indices.desks j
  pub same_a : (j k : ℕ) → (name.of_indices.same_hall j k ≡ true) ↔ (j ≡ k)
  pub same_b : (h k : H) → (name.of_names.same_hall h k ≡ true) ↔ (h ≡ k)

is_some-map : {A B : Type 0} (f : A → B) (o : Option A) → is_some (option_map f o) ≡ is_some o
is_some-map f None = refl
is_some-map f (Some x) = refl

module _ {C H : Type 0} (name : Naming C H) (r : Renames name) where
  pub named_member : (p : Plan ℕ ℕ) (c : C) (i : ℕ) → name.candidate_index c ≡ Some i
      → named_plan name p c ≡ option_map name.hall (p i)
  named_member p c i e = ap (option_and_then (λ k. option_map name.hall (p k))) e

  pub size-named : (p : Plan ℕ ℕ) → size name.of_names (named_plan name p) ≡ size name.of_indices p
  size-named p = ap (count_by (λ c. is_some (named_plan name p c))) r.members
      ∙ count_same (λ c. is_some (named_plan name p c)) (λ i. is_some (p i)) name.candidate name.of_indices.members
      (of_members _ name.of_indices.members
      (λ i h. ap is_some (named_member p (name.candidate i) i (r.known i h)) ∙ is_some-map name.hall (p i)))

  -- names agree on a hall exactly if indices do
  same_hall-known : (g h : H) (j k : ℕ) → name.hall_index g ≡ Some j → name.hall_index h ≡ Some k
      → name.of_names.same_hall g h ≡ name.of_indices.same_hall j k
  same_hall-known g h j k at at' = both_ways _ _
      (λ t. (r.same_a j k).1 (same_Some j k (sym at ∙ ap name.hall_index ((r.same_b g h).0 t) ∙ at')))
      (λ t. (r.same_b g h).1 (sym (r.halls g j at) ∙ ap name.hall ((r.same_a j k).0 t) ∙ r.halls h k at'))

  pub is_hall-known : (h : H) (j : ℕ) (o : Option ℕ) → name.hall_index h ≡ Some j
      → IfSome o (λ k. name.hall_index (name.hall k) ≡ Some k)
      → is_hall name.of_names h (option_map name.hall o) ≡ is_hall name.of_indices j o
  is_hall-known h j None at known = refl
  is_hall-known h j (Some k) at known = same_hall-known h (name.hall k) j k at known

  -- nobody sits in a hall without an index
  is_hall-unknown : (h : H) (i : ℕ) (o : Option ℕ) → name.hall_index h ≡ None
      → IfSome o (λ k. IsTrue (name.of_indices.fits i k)) → is_hall name.of_names h (option_map name.hall o) ≡ false
  is_hall-unknown h i None at fit = refl
  is_hall-unknown h i (Some k) at fit =
      false_from_ne_true _
      (λ t. let e : None ≡ Some k = sym at ∙ ap name.hall_index ((r.same_b h (name.hall k)).0 t)
      ∙ r.known_hall i k fit in cc)

  occupied : (p : Plan ℕ ℕ) (l : IsLawful name.of_indices p) (h : H) (o : Option ℕ) → name.hall_index h ≡ o
      → count_by (λ c. is_hall name.of_names h (named_plan name p c)) name.of_names.members ≤ name.of_names.desks h
  occupied p l h (Some j) at =
      let e : count_by (λ c. is_hall name.of_names h (named_plan name p c)) name.of_names.members
      ≡ count_by (λ i. is_hall name.of_indices j (p i)) name.of_indices.members =
      ap (count_by (λ c. is_hall name.of_names h (named_plan name p c))) r.members
      ∙ count_same _ (λ i. is_hall name.of_indices j (p i)) name.candidate name.of_indices.members
      (of_members _ name.of_indices.members
      (λ i m. ap (is_hall name.of_names h) (named_member p (name.candidate i) i (r.known i m))
      ∙ is_hall-known h j (p i) at (IfSome_then (p i) (l.fitting i) (r.known_hall i)))) in
      let d : name.of_names.desks h ≡ name.of_indices.desks j = r.desks h j at in
      let f : length (occupants name.of_indices p j)
      ≡ count_by (λ i. is_hall name.of_indices j (p i)) name.of_indices.members =
      length-filter (λ i. is_hall name.of_indices j (p i)) name.of_indices.members in
      let w : length (occupants name.of_indices p j) ≤ name.of_indices.desks j = l.within_desks j in
      omega arith
  occupied p l h None at =
      let e : count_by (λ c. is_hall name.of_names h (named_plan name p c)) name.of_names.members
      ≡ count_by (λ (i : ℕ). false) name.of_indices.members =
      ap (count_by (λ c. is_hall name.of_names h (named_plan name p c))) r.members
      ∙ count_same _ (λ (i : ℕ). false) name.candidate name.of_indices.members
      (of_members _ name.of_indices.members
      (λ i m. ap (is_hall name.of_names h) (named_member p (name.candidate i) i (r.known i m))
      ∙ is_hall-unknown h i (p i) at (l.fitting i))) in
      let z : count_by (λ (i : ℕ). false) name.of_indices.members ≡ 0 =
      fold_stays (λ (m i : ℕ). m + 0) 0 (λ i. refl) name.of_indices.members in
      omega arith

  fitting-named : (p : Plan ℕ ℕ) (l : IsLawful name.of_indices p) (c : C) (o : Option ℕ) → name.candidate_index c ≡ o
      → IfSome (option_and_then (λ i. option_map name.hall (p i)) o) (λ h. IsTrue (name.of_names.fits c h))
  fitting-named p l c None at = tt
  fitting-named p l c (Some i) at = inner (p i) (l.fitting i)
    where
      inner : (o : Option ℕ) → IfSome o (λ k. IsTrue (name.of_indices.fits i k))
          → IfSome (option_map name.hall o) (λ h. IsTrue (name.of_names.fits c h))
      inner None fit = tt
      inner (Some k) fit = r.fits c (name.hall k) i k at (r.known_hall i k fit) ∙ fit

  members-named : (p : Plan ℕ ℕ) (c : C) (o : Option ℕ) → name.candidate_index c ≡ o
      → IsSome (option_and_then (λ i. option_map name.hall (p i)) o) → Contains name.of_names.members c
  members-named p c None at seated = absurd (let e : false ≡ true = seated in cc)
  members-named p c (Some i) at seated = (r.named c i at).2

  pub IsLawful-named : (p : Plan ℕ ℕ) → IsLawful name.of_indices p → IsLawful name.of_names (named_plan name p)
  IsLawful-named p l = record {
    members = λ c. members-named p c (name.candidate_index c) refl;
    fitting = λ c. fitting-named p l c (name.candidate_index c) refl;
    within_desks = λ h. let f : length (occupants name.of_names (named_plan name p) h)
        ≡ count_by (λ c. is_hall name.of_names h (named_plan name p c)) name.of_names.members =
        length-filter (λ c. is_hall name.of_names h (named_plan name p c)) name.of_names.members in
        let o = occupied p l h (name.hall_index h) refl in omega arith;
  }

  -- ---- a plan by names, read by indices

  pub indexed_member : (q : Plan C H) (i : ℕ) → name.candidate_index (name.candidate i) ≡ Some i
      → indexed_plan name q i ≡ option_and_then name.hall_index (q (name.candidate i))
  indexed_member q i e =
      ap (option_and_then (at_index name q i)) e
      ∙ ap (λ t. cond t (option_and_then name.hall_index (q (name.candidate i))) None) (eq-eqb i i refl)

  -- what is seated by an index is a member, and sits where the name sits
  indexed_from : (q : Plan C H) (i : ℕ) (o : Option ℕ) → name.candidate_index (name.candidate i) ≡ o
      → IsSome (option_and_then (at_index name q i) o) → Contains name.of_indices.members i
  indexed_from q i None at seated = absurd (let e : false ≡ true = seated in cc)
  indexed_from q i (Some k) at seated = inner (nat_eq k i) refl
    where
      inner : (t : Bool) → nat_eq k i ≡ t → Contains name.of_indices.members i
      inner true e = subst (Contains name.of_indices.members) (exact_unsigned_eq k i e)
          (r.named (name.candidate i) k at).1
      inner false e = absurd
          (let z : is_some (at_index name q i k) ≡ false =
          ap (λ t. is_some (cond t (option_and_then name.hall_index (q (name.candidate i))) None)) e in
          let y : false ≡ true = sym z ∙ seated in cc)

  is_some-index : (c : C) (o : Option H) → IfSome o (λ h. IsTrue (name.of_names.fits c h))
      → is_some (option_and_then name.hall_index o) ≡ is_some o
  is_some-index c None fit = refl
  is_some-index c (Some h) fit = r.known_fit c h fit

  pub size-indexed : (q : Plan C H) → IsLawful name.of_names q
      → size name.of_indices (indexed_plan name q) ≡ size name.of_names q
  size-indexed q l = sym (ap (count_by (λ c. is_some (q c))) r.members
      ∙ count_same (λ c. is_some (q c)) (λ i. is_some (indexed_plan name q i)) name.candidate name.of_indices.members
      (of_members _ name.of_indices.members
      (λ i m. sym (ap is_some (indexed_member q i (r.known i m))
      ∙ is_some-index (name.candidate i) (q (name.candidate i)) (l.fitting (name.candidate i))))))

  is_hall-index : (j : ℕ) → name.hall_index (name.hall j) ≡ Some j → (o : Option H)
      → is_hall name.of_names (name.hall j) o ≡ is_hall name.of_indices j (option_and_then name.hall_index o)
  is_hall-index j at None = refl
  is_hall-index j at (Some h) = inner (name.hall_index h) refl
    where
      inner : (o : Option ℕ) → name.hall_index h ≡ o
          → name.of_names.same_hall (name.hall j) h ≡ is_hall name.of_indices j o
      inner None e = false_from_ne_true _
          (λ t. let z : None ≡ Some j = sym e ∙ ap name.hall_index (sym ((r.same_b (name.hall j) h).0 t)) ∙ at in cc)
      inner (Some k) e = same_hall-known (name.hall j) h j k at e

  is_hall-nowhere : (j : ℕ) → (name.hall_index (name.hall j) ≡ Some j → ⊥) → (o : Option H)
      → is_hall name.of_indices j (option_and_then name.hall_index o) ≡ false
  is_hall-nowhere j away None = refl
  is_hall-nowhere j away (Some h) = inner (name.hall_index h) refl
    where
      inner : (o : Option ℕ) → name.hall_index h ≡ o → is_hall name.of_indices j o ≡ false
      inner None e = refl
      inner (Some k) e = false_from_ne_true _
          (λ t. away (ap name.hall_index (ap name.hall ((r.same_a j k).0 t) ∙ r.halls h k e) ∙ e
          ∙ ap Some (sym ((r.same_a j k).0 t))))

  -- whether j is the index of a hall
  is_index : (j : ℕ) → (name.hall_index (name.hall j) ≡ Some j) ⊎ (name.hall_index (name.hall j) ≡ Some j → ⊥)
  is_index j = inner (name.hall_index (name.hall j))
    where
      inner : (o : Option ℕ) → (o ≡ Some j) ⊎ (o ≡ Some j → ⊥)
      inner None = inr (λ e. cc)
      inner (Some k) = elim (cases_eq k j) [ inl e ↦ inl (ap Some e) | inr n ↦ inr (λ e. n (same_Some k j e)) ]

  occupied-index : (q : Plan C H) → IsLawful name.of_names q → (j : ℕ)
      → (name.hall_index (name.hall j) ≡ Some j) ⊎ (name.hall_index (name.hall j) ≡ Some j → ⊥)
      → count_by (λ i. is_hall name.of_indices j (indexed_plan name q i)) name.of_indices.members ≤
      name.of_indices.desks j
  occupied-index q l j (inl at) =
      let e : count_by (λ c. is_hall name.of_names (name.hall j) (q c)) name.of_names.members
      ≡ count_by (λ i. is_hall name.of_indices j (indexed_plan name q i)) name.of_indices.members =
      ap (count_by (λ c. is_hall name.of_names (name.hall j) (q c))) r.members
      ∙ count_same _ (λ i. is_hall name.of_indices j (indexed_plan name q i)) name.candidate name.of_indices.members
      (of_members _ name.of_indices.members
      (λ i m. is_hall-index j at (q (name.candidate i))
      ∙ sym (ap (is_hall name.of_indices j) (indexed_member q i (r.known i m))))) in
      let d : name.of_names.desks (name.hall j) ≡ name.of_indices.desks j = r.desks (name.hall j) j at in
      let f : length (occupants name.of_names q (name.hall j))
      ≡ count_by (λ c. is_hall name.of_names (name.hall j) (q c)) name.of_names.members =
      length-filter (λ c. is_hall name.of_names (name.hall j) (q c)) name.of_names.members in
      let w : length (occupants name.of_names q (name.hall j)) ≤ name.of_names.desks (name.hall j) =
      l.within_desks (name.hall j) in
      omega arith
  occupied-index q l j (inr away) =
      let e : count_by (λ i. is_hall name.of_indices j (indexed_plan name q i))
      (map (λ (i : ℕ). i) name.of_indices.members) ≡ count_by (λ (i : ℕ). false) name.of_indices.members =
      count_same (λ i. is_hall name.of_indices j (indexed_plan name q i)) (λ (i : ℕ). false)
      (λ (i : ℕ). i) name.of_indices.members
      (of_members _ name.of_indices.members
      (λ i m. ap (is_hall name.of_indices j) (indexed_member q i (r.known i m))
      ∙ is_hall-nowhere j away (q (name.candidate i)))) in
      let z : count_by (λ (i : ℕ). false) name.of_indices.members ≡ 0 =
      fold_stays (λ (m i : ℕ). m + 0) 0 (λ i. refl) name.of_indices.members in
      let y : count_by (λ i. is_hall name.of_indices j (indexed_plan name q i))
      (map (λ (i : ℕ). i) name.of_indices.members)
      ≡ count_by (λ i. is_hall name.of_indices j (indexed_plan name q i)) name.of_indices.members =
      ap (count_by (λ i. is_hall name.of_indices j (indexed_plan name q i))) (map-id name.of_indices.members) in
      omega arith

  fitting-index : (q : Plan C H) → IsLawful name.of_names q → (i : ℕ) → (o : Option ℕ)
      → name.candidate_index (name.candidate i) ≡ o
      → IfSome (option_and_then (at_index name q i) o) (λ j. IsTrue (name.of_indices.fits i j))
  fitting-index q l i None at = tt
  fitting-index q l i (Some k) at = outer (nat_eq k i) refl
    where
      inmost : (h : H) (o : Option ℕ) → name.hall_index h ≡ o → name.candidate_index (name.candidate i) ≡ Some i
          → IsTrue (name.of_names.fits (name.candidate i) h) → IfSome o (λ j. IsTrue (name.of_indices.fits i j))
      inmost h None e m fit = tt
      inmost h (Some j) e m fit = sym (r.fits (name.candidate i) h i j m e) ∙ fit

      inner : (o : Option H) → name.candidate_index (name.candidate i) ≡ Some i
          → IfSome o (λ h. IsTrue (name.of_names.fits (name.candidate i) h))
          → IfSome (option_and_then name.hall_index o) (λ j. IsTrue (name.of_indices.fits i j))
      inner None m fit = tt
      inner (Some h) m fit = inmost h (name.hall_index h) refl m fit

      outer : (t : Bool) → nat_eq k i ≡ t
          → IfSome (cond (nat_eq k i) (option_and_then name.hall_index (q (name.candidate i))) None)
          (λ j. IsTrue (name.of_indices.fits i j))
      outer true e = rw e (inner (q (name.candidate i)) (at ∙ ap Some (exact_unsigned_eq k i e))
          (l.fitting (name.candidate i)))
      outer false e = rw e tt

  pub IsLawful-indexed : (q : Plan C H) → IsLawful name.of_names q → IsLawful name.of_indices (indexed_plan name q)
  IsLawful-indexed q l = record {
    members = λ i. indexed_from q i (name.candidate_index (name.candidate i)) refl;
    fitting = λ i. fitting-index q l i (name.candidate_index (name.candidate i)) refl;
    within_desks = λ j. let f : length (occupants name.of_indices (indexed_plan name q) j)
        ≡ count_by (λ i. is_hall name.of_indices j (indexed_plan name q i)) name.of_indices.members =
        length-filter (λ i. is_hall name.of_indices j (indexed_plan name q i)) name.of_indices.members in
        let o = occupied-index q l j (is_index j) in omega arith;
  }

  -- the best plan by indices is the best one by names
  pub IsBest-named : (p : Plan ℕ ℕ) → IsBest name.of_indices p → IsBest name.of_names (named_plan name p)
  IsBest-named p best = record {
    lawful = IsLawful-named p best.lawful;
    greatest = λ other l.
        let e : size name.of_names (named_plan name p) ≡ size name.of_indices p = size-named p in
        let f : size name.of_indices (indexed_plan name other) ≡ size name.of_names other = size-indexed other l in
        let g : size name.of_indices (indexed_plan name other) ≤ size name.of_indices p =
        best.greatest (indexed_plan name other) (IsLawful-indexed other l) in
        omega arith;
  }
