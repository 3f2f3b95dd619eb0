-- The steps of the search forwards from the unseated candidates.
use Rattle.exam_plan.proofs.Words.{range_with_len, cases_lt, or_cases, or_left, or_right, length-append, length-filter}
use Rattle.exam_plan.proofs.Words.{length-range_with_len, holds, Plan, Problem, IsProblem, plan_at, seating_of}
use Rattle.exam_plan.proofs.Words.{IsMarked, MarksAll, Draws, is_drawn}
use Rattle.std.proofs.Common.{◌≡◌, ℕ, zero, suc, ◌+◌, ◌<◌, ◌≤◌, ◌↔◌, Bool, true, false, not, ◌||◌, cond, IsTrue, List}
use Rattle.std.proofs.Common.{[], ◌∷◌, ◌++◌, length, get_or, Option, None, Some, is_some, is_none, ◌⊎◌, refl, sym, ap}
use Rattle.std.proofs.Common.{◌∙◌, inl, inr, subst, arith, append-nil}
use Rattle.std.specs.Prelude.{filter}
use Rattle.std.proofs.lemmas.List.Elements.{filter-append}
use Rattle.std.proofs.lemmas.List.Sums.{count_by-le-length}
use Rattle.exam_plan.proofs.Counting.{bit, range_next}
use Rattle.exam_plan.proofs.Seatings.{fits_member, fits_below}
use Rattle.exam_plan.proofs.Steps.{plan_at-get_or}

module _ (p : Problem) (m : List (Option ℕ)) (marks : ℕ → Bool) where
  -- what is marked after so many candidates
  abbrev pub IsSpread : (ℕ → Bool) → ℕ → Type 0
  IsSpread next i = (h : ℕ)
      → IsMarked next h ↔ (IsMarked marks h
      ⊎ ((c : ℕ) × (c < i) × IsTrue (is_drawn marks (plan_at m c)) × IsTrue ((seating_of p).fits c h)))

  at_place : (i : ℕ) (b : Bool) → b ≡ is_drawn marks (get_or m i None) → is_drawn marks (plan_at m i) ≡ b
  at_place i b told = ap (is_drawn marks) (plan_at-get_or m i) ∙ sym told

  pub spread_more : (next after : ℕ → Bool) (i : ℕ) (b : Bool) → IsSpread next i → b ≡ is_drawn marks (get_or m i None)
      → b ≡ true
      → MarksAll after (λ h. IsMarked next h ⊎ IsTrue ((seating_of p).fits i h)) → IsSpread after (i + 1)
  spread_more next after i b w told holds row h = (
    (λ t. elim ((row h).0 t) [
      | inl a ↦ elim ((w h).0 a) [ inl k ↦ inl k | inr c ↦ inr (c.0, (let l : c.0 < i = c.1 in omega arith), c.2, c.3) ]
      | inr f ↦ inr (i, omega arith, at_place i b told ∙ holds, f)
    ]),
    (λ s. (row h).1 (elim s [
      | inl a ↦ inl ((w h).1 (inl a))
      | inr c ↦ elim (cases_lt c.0 i) [
        | inl l ↦ inl ((w h).1 (inr (c.0, l, c.2, c.3)))
        | inr g ↦ inr (let l : c.0 < i + 1 = c.1 in let e : c.0 ≡ i = omega arith in
            subst (λ (z : ℕ). IsTrue ((seating_of p).fits z h)) e c.3)
      ]
    ])),
  )

  pub spread_skip : (next : ℕ → Bool) (i : ℕ) (b : Bool) → IsSpread next i → b ≡ is_drawn marks (get_or m i None)
      → b ≡ false → IsSpread next (i + 1)
  spread_skip next i b w told fails h = (
    (λ t. elim ((w h).0 t) [ inl k ↦ inl k | inr c ↦ inr (c.0, (let l : c.0 < i = c.1 in omega arith), c.2, c.3) ]),
    (λ s. (w h).1 (elim s [
      | inl a ↦ inl a
      | inr c ↦ elim (cases_lt c.0 i) [
        | inl l ↦ inr (c.0, l, c.2, c.3)
        | inr g ↦ absurd (let l : c.0 < i + 1 = c.1 in let e : i ≡ c.0 = omega arith in let z : true ≡ false =
            sym c.2 ∙ ap (λ k. is_drawn marks (plan_at m k)) (sym e) ∙ at_place i b told ∙ fails in cc)
      ]
    ])),
  )

-- a candidate past the last row is fitted by no hall
pub spread_all : (p : Problem) (m : List (Option ℕ)) (marks next : ℕ → Bool) (n : ℕ) → length p.fit ≤ n
    → IsSpread p m marks next n
    → MarksAll next (λ h. IsMarked marks h
    ⊎ ((c : ℕ) × IsTrue (is_drawn marks (plan_at m c)) × IsTrue ((seating_of p).fits c h)))
spread_all p m marks next n all w h = (
  (λ t. elim ((w h).0 t) [ inl a ↦ inl a | inr c ↦ inr (c.0, c.2, c.3) ]),
  (λ s. (w h).1 (elim s
      [ inl a ↦ inl a | inr c ↦ inr (c.0, (let l = fits_member p c.0 h c.2 in omega arith), c.1, c.2) ])),
)

-- the halls of a set, and those of a row
pub union_marks : (p : Problem) (c next row after : ℕ) → ((h : ℕ) → holds row h ≡ (seating_of p).fits c h)
    → ((h : ℕ) → holds after h ≡ holds next h || holds row h)
    → MarksAll (holds after) (λ h. IsMarked (holds next) h ⊎ IsTrue ((seating_of p).fits c h))
union_marks p c next row after fits union h = (
  (λ t. elim (or_cases (holds next h) (holds row h) (sym (union h) ∙ t))
      [ inl a ↦ inl a | inr r ↦ inr (sym (fits h) ∙ r) ]),
  (λ s. union h ∙ elim s
      [ inl a ↦ or_left (holds next h) (holds row h) a | inr f ↦ or_right (holds next h) (holds row h) (fits h ∙ f) ]),
)

module _ (p : Problem) (q : Plan ℕ ℕ) where
  pub draws_below : IsProblem p → (j h : ℕ) → Draws p q j h → h < length p.desk_counts
  draws_below good zero h d = absurd d
  draws_below good (suc j) h d = fits_below p good d.0 h d.2

  pub draws_more : (marks next : ℕ → Bool) → ((h : ℕ) → IsMarked marks h → (j : ℕ) × Draws p q j h)
      → MarksAll next (λ h. IsMarked marks h
      ⊎ ((c : ℕ) × IsTrue (is_drawn marks (q c)) × IsTrue ((seating_of p).fits c h))) → (h : ℕ) → IsMarked next h
      → (j : ℕ) × Draws p q j h
  draws_more marks next drawn wide h t = elim ((wide h).0 t) [ inl a ↦ drawn h a | inr c ↦ at c.0 (q c.0) refl c.1 c.2 ]
    where
      at : (c : ℕ) (o : Option ℕ) → q c ≡ o → IsTrue (is_drawn marks (q c)) → IsTrue ((seating_of p).fits c h)
          → (j : ℕ) × Draws p q j h
      at c None e d f = (suc 0, (c, inl e, f))
      at c (Some k) e d f = let r = drawn k (sym (ap (is_drawn marks) e) ∙ d) in (suc r.0, (c, inr (k, e, r.1), f))

  pub closed_after : (marks next : ℕ → Bool) → ((h : ℕ) → next h ≡ true → marks h ≡ true)
      → MarksAll next (λ h. IsMarked marks h
      ⊎ ((c : ℕ) × IsTrue (is_drawn marks (q c)) × IsTrue ((seating_of p).fits c h)))
      → (c h : ℕ) → IsTrue (is_drawn marks (q c)) → IsTrue ((seating_of p).fits c h) → IsMarked marks h
  closed_after marks next same wide c h d f = same h ((wide h).1 (inr (c, d, f)))

-- ---- lists of the indices that pass

pub filter_next : (P : ℕ → Bool) (i : ℕ) (b : Bool) → P i ≡ b
    → filter P (range_with_len 0 (i + 1)) ≡ filter P (range_with_len 0 i) ++ cond b (i ∷ []) []
filter_next P i b e =
    ap (filter P) (range_next i) ∙ filter-append P (range_with_len 0 i) (i ∷ [])
    ∙ ap (λ t. filter P (range_with_len 0 i) ++ cond t (i ∷ []) []) e

pub filter_takes : (P : ℕ → Bool) (i : ℕ) (xs : List ℕ) → xs ≡ filter P (range_with_len 0 i) → P i ≡ true
    → xs ++ i ∷ [] ≡ filter P (range_with_len 0 (i + 1))
filter_takes P i xs so_far e = ap (λ ys. ys ++ i ∷ []) so_far ∙ sym (filter_next P i true e)

pub filter_leaves : (P : ℕ → Bool) (i : ℕ) (xs : List ℕ) → xs ≡ filter P (range_with_len 0 i) → P i ≡ false
    → xs ≡ filter P (range_with_len 0 (i + 1))
filter_leaves P i xs so_far e =
    so_far ∙ sym (append-nil (filter P (range_with_len 0 i))) ∙ sym (filter_next P i false e)

pub length_next : (P : ℕ → Bool) (i n : ℕ) (b : Bool) → n ≡ length (filter P (range_with_len 0 i)) → P i ≡ b
    → n + bit b ≡ length (filter P (range_with_len 0 (i + 1)))
length_next P i n true counted e =
    (let a : length (filter P (range_with_len 0 (i + 1))) ≡ length (filter P (range_with_len 0 i) ++ i ∷ []) =
    ap length (filter_next P i true e) in
    let l : length (filter P (range_with_len 0 i) ++ i ∷ [])
    ≡ length (filter P (range_with_len 0 i)) + length (i ∷ []) =
    length-append (filter P (range_with_len 0 i)) (i ∷ []) in let one : length (i ∷ []) ≡ 1 =
    refl in omega (arith, a, l, one, counted))
length_next P i n false counted e =
    (let a : length (filter P (range_with_len 0 (i + 1))) ≡ length (filter P (range_with_len 0 i) ++ []) =
    ap length (filter_next P i false e) in
    let l : length (filter P (range_with_len 0 i) ++ []) ≡ length (filter P (range_with_len 0 i)) =
    ap length (append-nil (filter P (range_with_len 0 i))) in omega (arith, a, l, counted))

pub length_below : (P : ℕ → Bool) (n : ℕ) → length (filter P (range_with_len 0 n)) ≤ n
length_below P n = omega
    (arith, length-filter P (range_with_len 0 n), count_by-le-length P (range_with_len 0 n), length-range_with_len 0 n)

pub none_test : (m : List (Option ℕ)) (i : ℕ) (b : Bool) → is_some (get_or m i None) ≡ not b → is_none (plan_at m i) ≡ b
none_test m i b told = ap is_none (plan_at-get_or m i) ∙ at (get_or m i None) b told
  where
    at : (o : Option ℕ) (b : Bool) → is_some o ≡ not b → is_none o ≡ b
    at None true e = refl
    at None false e = let z : false ≡ true = e in cc
    at (Some k) true e = let z : true ≡ false = e in cc
    at (Some k) false e = refl
