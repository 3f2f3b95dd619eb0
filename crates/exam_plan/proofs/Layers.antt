-- The chain that takes the least hall and the least occupant each time is the least chain.
use Rattle.exam_plan.proofs.Words.{Ordering, Less, Equal, Greater, nat_cmp, ordering_then, nat_cmp_is, cases_order}
use Rattle.exam_plan.proofs.Words.{cases_lt, Plan, Leads, IsChain, IsLeastChain, Problem, seating_of, Reaches, CanReach}
use Rattle.std.proofs.Common.{◌≡◌, ◌≢◌, ℕ, zero, suc, ◌<◌, ◌≤◌, IsTrue, List, [], ◌∷◌, ◌++◌, map, length, Some, ◌⊎◌}
use Rattle.std.proofs.Common.{refl, sym, ap, ◌∙◌, inl, inr, subst, arith}
use Rattle.std.specs.Prelude.{All, AllPairs}
use Rattle.std.specs.Cmp.Lexicographic.{slice_cmp}
use Rattle.std.proofs.lemmas.List.Elements.{All-nil, All-cons}
use Rattle.std.proofs.lemmas.List.Kept.{AllPairs-cons}
use Rattle.exam_plan.specs.Searches.{TakesLeast}
use Rattle.exam_plan.proofs.Moves.{Avoids, AreDistinct}

-- ---- distinct halls, as the definitions say it

all_avoid : (h : ℕ) (hops : List (ℕ × ℕ)) (last : ℕ) → Avoids h hops last
    → All (λ k. h ≢ k) (map (λ (hop : ℕ × ℕ). hop.0) hops ++ last ∷ [])
all_avoid h [] last a = All-cons (λ k. h ≢ k) last [] a (All-nil (λ k. h ≢ k))
all_avoid h (hop ∷ hops) last a =
    All-cons (λ k. h ≢ k) hop.0 (map (λ (hop : ℕ × ℕ). hop.0) hops ++ last ∷ []) a.0 (all_avoid h hops last a.1)

no_pairs : AllPairs (λ (h k : ℕ). h ≢ k) []
no_pairs i j d l m = absurd (omega arith)

pub pairs_distinct : (hops : List (ℕ × ℕ)) (last : ℕ) → AreDistinct hops last
    → AllPairs (λ (h k : ℕ). h ≢ k) (map (λ (hop : ℕ × ℕ). hop.0) hops ++ last ∷ [])
pairs_distinct [] last a = AllPairs-cons (λ h k. h ≢ k) last [] (All-nil (λ k. last ≢ k)) no_pairs
pairs_distinct (hop ∷ hops) last a =
    AllPairs-cons (λ h k. h ≢ k) hop.0 (map (λ (hop : ℕ × ℕ). hop.0) hops ++ last ∷ []) (all_avoid hop.0 hops last a.0)
    (pairs_distinct hops last a.1)

-- ---- orders

less_is : (x y : ℕ) → x < y → nat_cmp x y ≡ Less
less_is x y l = sym (nat_cmp_is x y Less l)

equal_is : (x y : ℕ) → x ≡ y → nat_cmp x y ≡ Equal
equal_is x y e = sym (nat_cmp_is x y Equal e)

module _ (p : Problem) (q : Plan ℕ ℕ) where
  -- a chain reaches a free desk over as many halls as it has hops
  pub leads_reach : (c : ℕ) (hops : List (ℕ × ℕ)) (last : ℕ) → Leads (seating_of p) q c hops last
      → CanReach p q (length hops) c
  leads_reach c [] last leads = (last, leads.0, leads.1)
  leads_reach c (hop ∷ hops) last leads = (hop.0, leads.0, inr (hop.1, leads.2, leads_reach hop.1 hops last leads.3))

  -- ---- it is a chain

  -- the candidate does not reach a free desk over fewer halls
  abbrev pub IsNoNearer : ℕ → ℕ → Type 0
  IsNoNearer j c = (i : ℕ) → i < j → CanReach p q i c → ⊥

  no_nearer_mover : (j c h d : ℕ) → IsTrue ((seating_of p).fits c h) → q d ≡ Some h → IsNoNearer (suc j) c
      → IsNoNearer j d
  no_nearer_mover j c h d fit sits far i l r = far (suc i) (omega arith) (h, fit, inr (d, sits, r))

  pub least_leads : (j c : ℕ) (hops : List (ℕ × ℕ)) (last : ℕ) → TakesLeast p q j c hops last → IsNoNearer j c
      → Leads (seating_of p) q c hops last
  least_leads zero c [] last least far = (least.0, least.1)
  least_leads zero c (hop ∷ hops) last least far = absurd least
  least_leads (suc j) c [] last least far = absurd least
  least_leads (suc j) c (hop ∷ hops) last least far = (
    least.0.0,
    (λ free. far 0 (omega arith) (hop.0, least.0.0, free)),
    least.1.0,
    least_leads j hop.1 hops last least.2 (no_nearer_mover j c hop.0 hop.1 least.0.0 least.1.0 far),
  )

  far_avoids : (j c : ℕ) (hops : List (ℕ × ℕ)) (last h : ℕ) → TakesLeast p q j c hops last → (Reaches p q j h → ⊥)
      → Avoids h hops last
  far_avoids zero c [] last h least far = λ e. far (subst (λ (k : ℕ). Reaches p q zero k) (sym e) least.1)
  far_avoids zero c (hop ∷ hops) last h least far = absurd least
  far_avoids (suc j) c [] last h least far = absurd least
  far_avoids (suc j) c (hop ∷ hops) last h least far = (
    (λ e. far (subst (λ (k : ℕ). Reaches p q (suc j) k) (sym e) least.0.1)),
    far_avoids j hop.1 hops last h least.2 (λ r. far (inl r)),
  )

  pub least_distinct : (j c : ℕ) (hops : List (ℕ × ℕ)) (last : ℕ) → TakesLeast p q j c hops last → IsNoNearer j c
      → AreDistinct hops last
  least_distinct zero c [] last least far = tt
  least_distinct zero c (hop ∷ hops) last least far = absurd least
  least_distinct (suc j) c [] last least far = absurd least
  least_distinct (suc j) c (hop ∷ hops) last least far = (
    far_avoids j hop.1 hops last hop.0 least.2 (λ r. far j (omega arith) (hop.0, least.0.0, r)),
    least_distinct j hop.1 hops last least.2 (no_nearer_mover j c hop.0 hop.1 least.0.0 least.1.0 far),
  )

  -- ---- it is the least

  abbrev rest_cmp : List (ℕ × ℕ) → ℕ → List (ℕ × ℕ) → ℕ → Ordering
  rest_cmp hops last hops' last' =
      ordering_then (slice_cmp (λ (x y : ℕ × ℕ). ordering_then (nat_cmp x.0 y.0) (nat_cmp x.1 y.1)) hops hops')
      (nat_cmp last last')

  -- the first hop decides, or the rest does
  hop_first : (h d k e : ℕ) (o s : Ordering)
      → (h < k) ⊎ ((h ≡ k) × ((d < e) ⊎ ((d ≡ e) × (ordering_then o s ≢ Greater))))
      → ordering_then (ordering_then (ordering_then (nat_cmp h k) (nat_cmp d e)) o) s ≢ Greater
  hop_first h d k e o s (inl l) = rw (less_is h k l) (λ z. cc)
  hop_first h d k e o s (inr (same, inl l)) = rw (equal_is h k same, less_is d e l) (λ z. cc)
  hop_first h d k e o s (inr (same, inr (also, rest))) = rw (equal_is h k same, equal_is d e also) rest

  last_first : (h k : ℕ) → h ≤ k → nat_cmp h k ≢ Greater
  last_first h k l = elim (cases_order h k) [
    | inl e ↦ rw (equal_is h k e) (λ z. cc)
    | inr s ↦ elim s [ inl m ↦ rw (less_is h k m) (λ z. cc) | inr m ↦ absurd (omega arith) ]
  ]

  rest_least : (j c : ℕ) (hops : List (ℕ × ℕ)) (last : ℕ) (hops' : List (ℕ × ℕ)) (last' : ℕ)
      → TakesLeast p q j c hops last → Leads (seating_of p) q c hops' last' → length hops' ≡ j
      → rest_cmp hops last hops' last' ≢ Greater
  rest_least zero c [] last [] last' least leads e = last_first last last' (least.2 last' leads.0 leads.1)
  rest_least zero c [] last (hop' ∷ hops') last' least leads e = absurd (omega arith)
  rest_least zero c (hop ∷ hops) last hops' last' least leads e = absurd least
  rest_least (suc j) c [] last hops' last' least leads e = absurd least
  rest_least (suc j) c (hop ∷ hops) last [] last' least leads e = absurd (omega arith)
  rest_least (suc j) c (hop ∷ hops) last (hop' ∷ hops') last' least leads e =
      let long : length hops' ≡ j = omega arith in
      let reach : CanReach p q j hop'.1 =
      subst (λ (m : ℕ). CanReach p q m hop'.1) long (leads_reach hop'.1 hops' last' leads.3) in
      let first : hop.0 ≤ hop'.0 = least.0.2 hop'.0 leads.0 (inr (hop'.1, leads.2, reach)) in
      hop_first hop.0 hop.1 hop'.0 hop'.1
      (slice_cmp (λ (x y : ℕ × ℕ). ordering_then (nat_cmp x.0 y.0) (nat_cmp x.1 y.1)) hops hops')
      (nat_cmp last last')
      (elim (cases_order hop.0 hop'.0) [
        | inl same ↦ inr (
          same,
          (let second : hop.1 ≤ hop'.1 = least.1.2 hop'.1 (leads.2 ∙ ap Some (sym same)) reach in
              elim (cases_order hop.1 hop'.1) [
                | inl also ↦ inr (
                  also,
                  rest_least j hop.1 hops last hops' last' least.2
                      (subst (λ (d : ℕ). Leads (seating_of p) q d hops' last') (sym also) leads.3) long,
                )
                | inr s ↦ elim s [ inl l ↦ inl l | inr l ↦ absurd (omega arith) ]
              ]),
        )
        | inr s ↦ elim s [ inl l ↦ inl l | inr l ↦ absurd (omega arith) ]
      ])

  hops_many : (j c : ℕ) (hops : List (ℕ × ℕ)) (last : ℕ) → TakesLeast p q j c hops last → length hops ≡ j
  hops_many zero c [] last least = refl
  hops_many zero c (hop ∷ hops) last least = absurd least
  hops_many (suc j) c [] last least = absurd least
  hops_many (suc j) c (hop ∷ hops) last least = let e = hops_many j hop.1 hops last least.2 in omega arith

  long_first : (m n : ℕ) (o : Ordering) → m ≤ n → (m ≡ n → o ≢ Greater) → ordering_then (nat_cmp m n) o ≢ Greater
  long_first m n o l f = elim (cases_order m n) [
    | inl e ↦ rw (equal_is m n e) (f e)
    | inr s ↦ elim s [ inl k ↦ rw (less_is m n k) (λ z. cc) | inr k ↦ absurd (omega arith) ]
  ]

  pub least_is_chain : (j c : ℕ) (hops : List (ℕ × ℕ)) (last : ℕ) → TakesLeast p q j c hops last → IsNoNearer j c
      → IsChain (seating_of p) q c (record { hops = hops; last = last })
  least_is_chain j c hops last least far = record {
    leads = least_leads j c hops last least far;
    distinct = pairs_distinct hops last (least_distinct j c hops last least far);
  }

  pub least_is_least : (j c : ℕ) (hops : List (ℕ × ℕ)) (last : ℕ) → TakesLeast p q j c hops last → IsNoNearer j c
      → IsLeastChain (seating_of p) q c (record { hops = hops; last = last })
  least_is_least j c hops last least far = record {
    is_chain = least_is_chain j c hops last least far;
    least = λ other is.
        let many : length hops ≡ j = hops_many j c hops last least in
        let reach : CanReach p q (length other.hops) c = leads_reach c other.hops other.last is.leads in
        let long : j ≤ length other.hops =
        elim (cases_lt (length other.hops) j) [ inl l ↦ absurd (far (length other.hops) l reach) | inr l ↦ l ] in
        long_first (length hops) (length other.hops) _ (omega arith)
        (λ same. rest_least j c hops last other.hops other.last least is.leads (omega arith));
  }
