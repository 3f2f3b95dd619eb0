-- The places of halls, kept as sets.
use Rattle.exam_rules.proofs.Words.{ne_eqb, holds, halls_below, sets_of, positions}
use Rattle.std.proofs.Common.{◌≡◌, ℕ, zero, suc, ◌+◌, ◌<◌, ◌≤◌, Bool, true, false, cond, ◌||◌, List, [], ◌∷◌, ◌++◌}
use Rattle.std.proofs.Common.{length, map, get_or, drop, drop-cons, append_assoc, append-nil, add-one, nat_eq, refl}
use Rattle.std.proofs.Common.{sym, ap, subst, ◌∙◌, inl, inr, arith}
use Rattle.std.specs.Prelude.{All, filter}
use Rattle.std.specs.List.{range_with_len}
use Rattle.std.proofs.lemmas.Bool.{cases_Bool, or_cases, eq-eqb, eqb-true, or_left}
use Rattle.std.proofs.lemmas.List.{drop_all, map-append}
use Rattle.std.proofs.lemmas.List.Elements.{All-push}
use Rattle.exam_plan.specs.HallSets.{set_of_mask}
use Rattle.exam_plan.proofs.Rising.{next_filter}
use Rattle.exam_plan.proofs.Small.{none_kept}
use Rattle.exam_rules.proofs.Ranking.{map_step, map_end}

-- numbers below a bound that pass either of two tests that agree below it
same_below : (P Q : ℕ → Bool) (n : ℕ) → ((h : ℕ) → h < n → P h ≡ Q h)
    → filter P (range_with_len 0 n) ≡ filter Q (range_with_len 0 n)
same_below P Q zero same = refl
same_below P Q (suc n) same =
    next_filter P n (Q n) (same n (omega arith))
    ∙ ap (λ t. t ++ cond (Q n) (n ∷ []) []) (same_below P Q n (λ h l. same h (omega arith)))
    ∙ sym (next_filter Q n (Q n) refl)

-- no place is in a set of none
pub no_places : (n mask : ℕ) → ((h : ℕ) → holds mask h ≡ false) → halls_below n mask ≡ []
no_places n mask none = none_kept (holds mask) (range_with_len 0 n) none

module _ {A : Type 0} (p : A → Bool) where
  -- the places so far, which make the whole with what is left
  pub record ArePlaces (xs : List A) (n mask : ℕ) : Type 0 where
    pub whole : halls_below n mask ++ positions p n (drop n xs) ≡ positions p 0 xs
    pub within : (h : ℕ) → holds mask h ≡ true → h < n
    pub short : n ≤ length xs

  pub places_begin : (xs : List A) (mask : ℕ) → ((h : ℕ) → holds mask h ≡ false) → ArePlaces xs 0 mask
  places_begin xs mask none =
      record {
        whole = refl;
        within = λ h held. absurd (let z : false ≡ true = sym (none h) ∙ held in cc);
        short = omega arith;
      }

  step : (xs : List A) (n : ℕ) (d : A) (mask more : ℕ) (b : Bool) → n < length xs → p (get_or xs n d) ≡ b
      → ArePlaces xs n mask
      → halls_below (suc n) more ≡ halls_below n mask ++ cond b (n ∷ []) []
      → ((h : ℕ) → holds more h ≡ true → h < suc n) → ArePlaces xs (suc n) more
  step xs n d mask more b below e so_far here within = record {
    whole = ap (λ t. t ++ positions p (suc n) (drop (suc n) xs)) here ∙ rest b e;
    within = within;
    short = omega arith;
  }
    where
      rest : (b : Bool) → p (get_or xs n d) ≡ b
          → (halls_below n mask ++ cond b (n ∷ []) []) ++ positions p (suc n) (drop (suc n) xs) ≡ positions p 0 xs
      rest b e = append_assoc (halls_below n mask) (cond b (n ∷ []) []) (positions p (suc n) (drop (suc n) xs))
          ∙ ap (λ t. halls_below n mask ++ t) (next b e ∙ ap (positions p n) (sym (drop-cons xs n d below)))
          ∙ so_far.whole
        where
          next : (b : Bool) → p (get_or xs n d) ≡ b
              → cond b (n ∷ []) []
              ++ positions p (suc n) (drop (suc n) xs) ≡ positions p n (get_or xs n d ∷ drop (suc n) xs)
          next true e = rw (e, add-one) refl
          next false e = rw (e, add-one) refl

  -- one more place, which passes
  pub places_more : (xs : List A) (n : ℕ) (d : A) (mask more : ℕ) → n < length xs → p (get_or xs n d) ≡ true
      → ((h : ℕ) → holds more h ≡ nat_eq h n || holds mask h) → ArePlaces xs n mask
      → ArePlaces xs (suc n) more
  places_more xs n d mask more below e tests so_far =
      step xs n d mask more true below e so_far
      (next_filter (holds more) n true (tests n ∙ or_left (nat_eq n n) (holds mask n) (eq-eqb n n refl))
      ∙ ap (λ t. t ++ n ∷ [])
      (same_below (holds more) (holds mask) n
      (λ h l. tests h ∙ ap (λ t. t || holds mask h) (ne_eqb h n (λ s. omega arith)))))
      (λ h held. elim (or_cases (nat_eq h n) (holds mask h) (sym (tests h) ∙ held)) [
        | inl s ↦ (let same : h ≡ n = eqb-true h n s in omega arith)
        | inr m ↦ (let l = so_far.within h m in omega (arith, l))
      ])

  -- one more place, which does not
  pub places_same : (xs : List A) (n : ℕ) (d : A) (mask : ℕ) → n < length xs → p (get_or xs n d) ≡ false
      → ArePlaces xs n mask → ArePlaces xs (suc n) mask
  places_same xs n d mask below e so_far =
      step xs n d mask mask false below e so_far
      (next_filter (holds mask) n false
      (elim (cases_Bool (holds mask n))
      [ inl t ↦ absurd (let l = so_far.within n t in omega (arith, l)) | inr f ↦ f ]))
      (λ h held. let l = so_far.within h held in omega (arith, l))

  -- at the end of such a loop
  pub places_end : (xs : List A) (n mask : ℕ) → length xs ≤ n → ArePlaces xs n mask
      → (halls_below (length xs) mask ≡ positions p 0 xs) × ((h : ℕ) → holds mask h ≡ true → h < length xs)
  places_end xs n mask over are =
      let same : n ≡ length xs = omega (arith, are.short) in
      let none : positions p n (drop n xs) ≡ [] = ap (positions p n) (drop_all n xs over) in (
        ap (λ t. halls_below t mask) (sym same) ∙ sym (append-nil (halls_below n mask))
            ∙ ap (λ t. halls_below n mask ++ t) (sym none) ∙ are.whole,
        (λ h held. let l = are.within h held in omega (arith, l, same)),
      )

-- ---- a mask of each

-- the masks so far, of rows that a function gives
pub record AreMasksOf {A : Type 0} (n : ℕ) (f : A → List ℕ) (xs : List A) (i : ℕ) (masks : List (List ℕ)) : Type 0 where
  pub whole : map (halls_below n) (sets_of masks) ++ map f (drop i xs) ≡ map f xs
  pub within : All (λ set. (h : ℕ) → holds set h ≡ true → h < n) (sets_of masks)

module _ {A : Type 0} (n : ℕ) (f : A → List ℕ) (xs : List A) where
  pub masks_begin : AreMasksOf n f xs 0 []
  masks_begin = record { whole = refl; within = λ i d l. absurd (omega arith) }

  pub masks_more : (i : ℕ) (d : A) (masks : List (List ℕ)) (mask : List ℕ) → i < length xs
      → halls_below n (set_of_mask mask) ≡ f (get_or xs i d)
      → ((h : ℕ) → holds (set_of_mask mask) h ≡ true → h < n) → AreMasksOf n f xs i masks
      → AreMasksOf n f xs (i + 1) (masks ++ mask ∷ [])
  masks_more i d masks mask below row within are =
      let more : sets_of (masks ++ mask ∷ []) ≡ sets_of masks ++ set_of_mask mask ∷ [] =
      map-append set_of_mask masks (mask ∷ []) in
      record {
        whole = map_step f xs i d (map (halls_below n) (sets_of masks))
            (map (halls_below n) (sets_of (masks ++ mask ∷ []))) (map f xs) below
            (ap (map (halls_below n)) more ∙ map-append (halls_below n) (sets_of masks) (set_of_mask mask ∷ [])
            ∙ ap (λ t. map (halls_below n) (sets_of masks) ++ t ∷ []) row) are.whole;
        within = subst (All (λ set. (h : ℕ) → holds set h ≡ true → h < n)) (sym more)
            (All-push (λ set. (h : ℕ) → holds set h ≡ true → h < n) (sets_of masks)
            (set_of_mask mask) are.within within);
      }

  -- at the end of such a loop
  pub masks_end : (i : ℕ) (masks : List (List ℕ)) → length xs ≤ i → AreMasksOf n f xs i masks
      → map (halls_below n) (sets_of masks) ≡ map f xs
  masks_end i masks over are = map_end f xs i (map (halls_below n) (sets_of masks)) over are.whole
