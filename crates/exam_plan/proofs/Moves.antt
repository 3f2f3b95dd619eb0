-- What a move along a chain leaves: one more in the last hall, and as many as before in each other hall.
use Rattle.exam_plan.proofs.Words.{cases_eq, eq-eqb, ne_eqb, same_Some, Plan, occupants, size, IsLawful, Leads}
use Rattle.exam_plan.proofs.Words.{HasFreeDesk, augmented, Problem, seating_of}
use Rattle.std.proofs.Common.{◌≡◌, ◌≢◌, ℕ, ◌+◌, ◌<◌, ◌≤◌, Bool, cond, IsTrue, List, [], ◌∷◌, length, get_or, Option}
use Rattle.std.proofs.Common.{None, Some, IsSome, IfSome, is_some, nat_eq, ◌⊎◌, refl, sym, ap, ◌∙◌, inl, inr, subst}
use Rattle.std.proofs.Common.{arith}
use Rattle.exam_plan.proofs.Counting.{bit, count_below, count_below-point, sits_at}
use Rattle.exam_plan.proofs.Seatings.{length-occupants, size-count, below-member, fits_member}

-- the candidate is none of those who move on
abbrev pub IsFresh : ℕ → List (ℕ × ℕ) → Type 0
IsFresh c [] = Unit {0}
IsFresh c (hop ∷ hops) = (hop.1 ≢ c) × IsFresh c hops

-- the hall is none of the chain's
abbrev pub Avoids : ℕ → List (ℕ × ℕ) → ℕ → Type 0
Avoids h [] last = h ≢ last
Avoids h (hop ∷ hops) last = (h ≢ hop.0) × Avoids h hops last

-- the halls of the chain are distinct
abbrev pub AreDistinct : List (ℕ × ℕ) → ℕ → Type 0
AreDistinct [] last = Unit {0}
AreDistinct (hop ∷ hops) last = Avoids hop.0 hops last × AreDistinct hops last

-- each move of the chain meets T
abbrev pub AllMoves : (ℕ → ℕ → Type 0) → ℕ → List (ℕ × ℕ) → ℕ → Type 0
AllMoves T c [] last = T c last
AllMoves T c (hop ∷ hops) last = T c hop.0 × AllMoves T hop.1 hops last

module _ (p : Problem) (q : Plan ℕ ℕ) where
  -- the movers are candidates, each once, and sit in the halls that they leave
  abbrev pub IsPath : ℕ → List (ℕ × ℕ) → Type 0
  IsPath c [] = c < length p.fit
  IsPath c (hop ∷ hops) = (c < length p.fit) × (q hop.1 ≡ Some hop.0) × IsFresh c (hop ∷ hops) × IsPath hop.1 hops

  abbrev pub moved : ℕ → List (ℕ × ℕ) → ℕ → Plan ℕ ℕ
  moved c hops last = augmented (seating_of p) q c hops last

  pub moved-fresh : (c : ℕ) (hops : List (ℕ × ℕ)) (last d : ℕ) → c ≢ d → IsFresh d hops → moved c hops last d ≡ q d
  moved-fresh c [] last d away fresh = ap (λ t. cond t (Some last) (q d)) (ne_eqb c d away)
  moved-fresh c (hop ∷ hops) last d away fresh =
      ap (λ t. cond t (Some hop.0) (moved hop.1 hops last d)) (ne_eqb c d away)
      ∙ moved-fresh hop.1 hops last d fresh.0 fresh.1

  -- a test counted after the move and before
  pub exchange : (P : Option ℕ → Bool) (c : ℕ) (hops : List (ℕ × ℕ)) (last : ℕ) → IsPath c hops
      → count_below (λ d. P (moved c hops last d)) (length p.fit) + bit (P (q c))
      ≡ count_below (λ d. P (q d)) (length p.fit) + bit (P (Some last))
  exchange P c [] last path =
      let e = count_below-point (λ d. P (moved c [] last d)) (λ d. P (q d)) (length p.fit) c path
      (λ k l away. ap (λ t. bit (P (cond t (Some last) (q k)))) (ne_eqb c k (λ z. away (sym z)))) in
      let s : bit (P (cond (nat_eq c c) (Some last) (q c))) ≡ bit (P (Some last)) =
      ap (λ t. bit (P (cond t (Some last) (q c)))) (eq-eqb c c refl) in
      omega (arith, e, s)
  exchange P c (hop ∷ hops) last path =
      let ih = exchange P hop.1 hops last path.3 in
      let m : bit (P (q hop.1)) ≡ bit (P (Some hop.0)) = ap (λ t. bit (P t)) path.1 in
      let e = count_below-point (λ d. P (moved c (hop ∷ hops) last d)) (λ d. P (moved hop.1 hops last d))
      (length p.fit) c path.0
      (λ k l away. ap (λ t. bit (P (cond t (Some hop.0) (moved hop.1 hops last k)))) (ne_eqb c k (λ z. away (sym z))))
      in
      let s : bit (P (cond (nat_eq c c) (Some hop.0) (moved hop.1 hops last c))) ≡ bit (P (Some hop.0)) =
      ap (λ t. bit (P (cond t (Some hop.0) (moved hop.1 hops last c)))) (eq-eqb c c refl) in
      let f : bit (P (moved hop.1 hops last c)) ≡ bit (P (q c)) =
      ap (λ t. bit (P t)) (moved-fresh hop.1 hops last c path.2.0 path.2.1) in
      omega (arith, ih, m, e, s, f)

  -- who moved, and where to
  pub moved_cases : (T : ℕ → ℕ → Type 0) (c : ℕ) (hops : List (ℕ × ℕ)) (last : ℕ) → AllMoves T c hops last
      → (d : ℕ) → (moved c hops last d ≡ q d) ⊎ ((k : ℕ) × (moved c hops last d ≡ Some k) × T d k)
  moved_cases T c [] last all d = elim (cases_eq c d) [
    | inl e ↦ inr (last, ap (λ t. cond t (Some last) (q d)) (eq-eqb c d e), subst (λ (z : ℕ). T z last) e all)
    | inr n ↦ inl (ap (λ t. cond t (Some last) (q d)) (ne_eqb c d n))
  ]
  moved_cases T c (hop ∷ hops) last all d = elim (cases_eq c d) [
    | inl e ↦ inr (
      hop.0,
      ap (λ t. cond t (Some hop.0) (moved hop.1 hops last d)) (eq-eqb c d e),
      subst (λ (z : ℕ). T z hop.0) e all.0,
    )
    | inr n ↦ (let s : moved c (hop ∷ hops) last d ≡ moved hop.1 hops last d =
        ap (λ t. cond t (Some hop.0) (moved hop.1 hops last d)) (ne_eqb c d n) in
        elim (moved_cases T hop.1 hops last all.1 d) [ inl e ↦ inl (s ∙ e) | inr w ↦ inr (w.0, s ∙ w.1, w.2) ])
  ]

  pub moved_keeps : (c : ℕ) (hops : List (ℕ × ℕ)) (last d : ℕ) → IsSome (q d) → IsSome (moved c hops last d)
  moved_keeps c hops last d was = elim (moved_cases (λ _ _. Unit {0}) c hops last (anything c hops last) d) [
    | inl e ↦ ap is_some e ∙ was
    | inr w ↦ ap is_some w.1
  ]
    where
      anything : (c : ℕ) (hops : List (ℕ × ℕ)) (last : ℕ) → AllMoves (λ _ _. Unit {0}) c hops last
      anything c [] last = tt
      anything c (hop ∷ hops) last = (tt, anything hop.1 hops last)

  -- ---- the moves of a chain

  pub ends_free : (c : ℕ) (hops : List (ℕ × ℕ)) (last : ℕ) → Leads (seating_of p) q c hops last
      → HasFreeDesk (seating_of p) q last
  ends_free c [] last leads = leads.1
  ends_free c (hop ∷ hops) last leads = ends_free hop.1 hops last leads.3

  -- the moves of a path: each fits, and each mover sits where the chain says
  abbrev pub IsRoute : ℕ → List (ℕ × ℕ) → ℕ → Type 0
  IsRoute c [] last = IsTrue ((seating_of p).fits c last)
  IsRoute c (hop ∷ hops) last = IsTrue ((seating_of p).fits c hop.0) × (q hop.1 ≡ Some hop.0) × IsRoute hop.1 hops last

  pub route_of : (c : ℕ) (hops : List (ℕ × ℕ)) (last : ℕ) → Leads (seating_of p) q c hops last → IsRoute c hops last
  route_of c [] last leads = leads.0
  route_of c (hop ∷ hops) last leads = (leads.0, leads.2, route_of hop.1 hops last leads.3)

  pub route_fits : (c : ℕ) (hops : List (ℕ × ℕ)) (last : ℕ) → IsRoute c hops last
      → AllMoves (λ d k. IsTrue ((seating_of p).fits d k)) c hops last
  route_fits c [] last route = route
  route_fits c (hop ∷ hops) last route = (route.0, route_fits hop.1 hops last route.2)

  -- who sits in none of the chain's halls moves on from none
  pub fresh_from : (c d : ℕ) (hops : List (ℕ × ℕ)) (last : ℕ) → IsRoute d hops last
      → ((h : ℕ) → q c ≡ Some h → Avoids h hops last) → IsFresh c hops
  fresh_from c d [] last route away = tt
  fresh_from c d (hop ∷ hops) last route away =
      ((λ e. (away hop.0 (ap q (sym e) ∙ route.1)).0 refl), fresh_from c hop.1 hops last route.2 (λ h s. (away h s).1))

  pub path_of : (c : ℕ) (hops : List (ℕ × ℕ)) (last : ℕ) → IsRoute c hops last → AreDistinct hops last
      → ((h : ℕ) → q c ≡ Some h → Avoids h hops last) → IsPath c hops
  path_of c [] last route distinct away = fits_member p c last route
  path_of c (hop ∷ hops) last route distinct away = (
    fits_member p c hop.0 route.0,
    route.1,
    fresh_from c c (hop ∷ hops) last route away,
    path_of hop.1 hops last route.2 distinct.1
        (λ h s. subst (λ (z : ℕ). Avoids z hops last) (same_Some hop.0 h (sym route.1 ∙ s)) distinct.0),
  )

  -- ---- a chain from an unseated candidate to a free desk gives a lawful plan that seats one more

  module _ (lawful : IsLawful (seating_of p) q) (c : ℕ) (unseated : q c ≡ None) (hops : List (ℕ × ℕ)) (last : ℕ)
      (route : IsRoute c hops last) (distinct : AreDistinct hops last) where
    start : IsPath c hops
    start = path_of c hops last route distinct (λ h s. absurd (let e : None ≡ Some h = sym unseated ∙ s in cc))

    pub occupants-moved : (h : ℕ)
        → length (occupants (seating_of p) (moved c hops last) h)
        ≡ length (occupants (seating_of p) q h) + bit (nat_eq h last)
    occupants-moved h =
        let e = exchange (sits_at h) c hops last start in
        let z : bit (sits_at h (q c)) ≡ 0 = ap (λ t. bit (sits_at h t)) unseated in
        omega (arith, e, z, length-occupants p q h, length-occupants p (moved c hops last) h)

    pub size-moved : size (seating_of p) (moved c hops last) ≡ size (seating_of p) q + 1
    size-moved =
        let e = exchange is_some c hops last start in
        let z : bit (is_some (q c)) ≡ 0 = ap (λ t. bit (is_some t)) unseated in
        omega (arith, e, z, size-count p q, size-count p (moved c hops last))

    pub lawful-moved : HasFreeDesk (seating_of p) q last → IsLawful (seating_of p) (moved c hops last)
    lawful-moved free = record {
      members = λ d s. elim
          (moved_cases (λ d k. IsTrue ((seating_of p).fits d k)) c hops last (route_fits c hops last route) d) [
            | inl e ↦ lawful.members d (sym (ap is_some e) ∙ s)
            | inr w ↦ below-member (length p.fit) d (fits_member p d w.0 w.2)
          ];
      fitting = λ d. elim (moved_cases (λ d k. IsTrue ((seating_of p).fits d k)) c hops last
          (route_fits c hops last route) d) [
            | inl e ↦ subst (λ (o : Option ℕ). IfSome o (λ h. IsTrue ((seating_of p).fits d h))) (sym e)
                (lawful.fitting d)
            | inr w ↦ subst (λ (o : Option ℕ). IfSome o (λ h. IsTrue ((seating_of p).fits d h))) (sym w.1) w.2
          ];
      within_desks = λ h. elim (cases_eq h last) [
        | inl e ↦ (let o = occupants-moved h in let b : bit (nat_eq h last) ≡ 1 = ap bit (eq-eqb h last e) in
            let f : length (occupants (seating_of p) q h) < get_or p.desk_counts h 0 =
            subst (λ (z : ℕ). length (occupants (seating_of p) q z) < get_or p.desk_counts z 0) (sym e) free in
            omega (arith, o, b, f))
        | inr n ↦ (let o = occupants-moved h in let b : bit (nat_eq h last) ≡ 0 = ap bit (ne_eqb h last n) in
            let w : length (occupants (seating_of p) q h) ≤ get_or p.desk_counts h 0 =
            lawful.within_desks h in omega (arith, o, b, w))
      ];
    }
