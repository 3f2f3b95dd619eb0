-- What one turn of the sweep keeps.
use Rattle.exam_plan.proofs.Words.{cases_eq, cases_lt, eq-eqb, ne_eqb, eqb-true, ltb-true, lt-ltb, or_cases, or_left}
use Rattle.exam_plan.proofs.Words.{or_right, and_from, and_parts, get_or_default, same_Some, IsStrictlySortedBy}
use Rattle.exam_plan.proofs.Words.{nat_cmp, holds, halls_below, Plan, occupants, IsLawful, Chain, HasFreeDesk, Leads}
use Rattle.exam_plan.proofs.Words.{IsChain, augmented, LeadsTo, ListsDead, Turn, TurnFrom, Problem, seating_of, plan_at}
use Rattle.exam_plan.proofs.Words.{IsMarked, MarksAll, CanReach, IsSettled, count_at}
use Rattle.std.proofs.Common.{append-nil, ◌++◌, ◌≡◌, ◌⊎◌, ℕ, zero, suc, ◌+◌, ◌<◌, ◌||◌, ◌&&◌, not, Bool, true}
use Rattle.std.proofs.Common.{false, cond, IsTrue, List, [], ◌∷◌, length, get_or, set, nat_eq, nat_lt, Option, None}
use Rattle.std.proofs.Common.{Some, IsSome, is_some, refl, sym, ap, ◌∙◌, inl, inr, subst, arith}
use Rattle.std.proofs.Math.Bool.{not-not}
use Rattle.std.specs.Prelude.{Contains, ◌↔◌}
use Rattle.exam_plan.specs.Repair.{AreNewlyDead, ListsDeadFrom}
use Rattle.exam_plan.specs.Searches.{IsWithin, IsTraced, IsAdvanced, AreClosed, TakesLeast}
use Rattle.exam_plan.proofs.Counting.{bit}
use Rattle.exam_plan.proofs.Rising.{passing, passes_in, filter_sorted}
use Rattle.exam_plan.proofs.Seatings.{length-occupants}
use Rattle.exam_plan.proofs.Layers.{least_leads, least_distinct, least_is_least}
use Rattle.exam_plan.proofs.Moves.{AllMoves, AreDistinct, moved_cases, moved_keeps, IsRoute, route_of, ends_free}
use Rattle.exam_plan.proofs.Moves.{occupants-moved, lawful-moved}
use Rattle.exam_plan.proofs.Steps.{plan_at-get_or, count_at-below, one_counted}

none_sorted : IsStrictlySortedBy nat_cmp []
unfolding IsStrictlySortedBy
none_sorted = tt

-- all that a turn owes that moves along a chain to the last hall
pub record IsTurned (p : Problem) (q : Plan ℕ ℕ) (dead : ℕ → Bool) (c last : ℕ) (after : Plan ℕ ℕ) : Type 0 where
  pub lawful : IsLawful (seating_of p) after
  pub kept : (d : ℕ) → IsSome (q d) → IsSome (after d)
  pub turn : Turn (seating_of p) q c after
  pub chain : (chain : Chain ℕ ℕ) × IsChain (seating_of p) q c chain
  pub closed : AreClosed p after dead
  pub traced : (h : ℕ) → IsTraced p q dead h → IsTraced p after dead h
  pub settled : IsSettled p after dead c
  pub others : (d : ℕ) → IsSettled p q dead d → IsSettled p after dead d
  pub occupied : (h : ℕ)
      → length (occupants (seating_of p) after h) ≡ length (occupants (seating_of p) q h) + bit (nat_eq h last)
  pub was_free : HasFreeDesk (seating_of p) q last

module _ (p : Problem) (q : Plan ℕ ℕ) (dead : ℕ → Bool) (closed : AreClosed p q dead) where
  -- where a move may lead to, who may make it, and from where
  abbrev pub IsLiveMove : ℕ → ℕ → Type 0
  IsLiveMove d h = (IsMarked dead h → ⊥) × (IsWithin p dead d → ⊥) × ((g : ℕ) → q d ≡ Some g → IsMarked dead g → ⊥)

  -- no hall of a route to a free desk is dead
  pub live_route : (c : ℕ) (hops : List (ℕ × ℕ)) (last : ℕ) → IsRoute p q c hops last
      → HasFreeDesk (seating_of p) q last → ((g : ℕ) → q c ≡ Some g → IsMarked dead g → ⊥)
      → AllMoves IsLiveMove c hops last × (IsWithin p dead c → ⊥)
  live_route c [] last route free from =
      let live : IsMarked dead last → ⊥ = λ m. closed.full last m free in
      let out : IsWithin p dead c → ⊥ = λ w. live (w last route) in
      ((live, out, from), out)
  live_route c (hop ∷ hops) last route free from =
      let away : IsMarked dead hop.0 → ⊥ = λ m. beyond hop.0 hop.1 hops route.1 route.2 m in
      let rest = live_route hop.1 hops last route.2 free
      (λ g e m. away (subst (λ (z : ℕ). IsMarked dead z) (same_Some g hop.0 (sym e ∙ route.1)) m)) in
      let out : IsWithin p dead c → ⊥ = λ w. away (w hop.0 route.0) in
      (((away, out, from), rest.0), out)
    where
      beyond : (h d : ℕ) (hops : List (ℕ × ℕ)) → q d ≡ Some h → IsRoute p q d hops last → IsMarked dead h → ⊥
      beyond h d [] sits route m = closed.full last (closed.stays d h last sits m route) free
      beyond h d (hop ∷ hops) sits route m =
          beyond hop.0 hop.1 hops route.1 route.2 (closed.stays d h hop.0 sits m route.0)

  pub no_chain : (c : ℕ) → q c ≡ None → IsWithin p dead c → (chain : Chain ℕ ℕ) → IsChain (seating_of p) q c chain → ⊥
  no_chain c unseated within chain is =
      (live_route c chain.hops chain.last (route_of p q c chain.hops chain.last is.leads)
      (ends_free p q c chain.hops chain.last is.leads)
      (λ g e m. absurd (let z : None ≡ Some g = sym unseated ∙ e in cc))).1 within

  -- who is settled has no turn to take
  pub stays_put : (c : ℕ) → IsSettled p q dead c → Turn (seating_of p) q c q
  stays_put c settled = at (q c) refl
    where
      at : (o : Option ℕ) → q c ≡ o → TurnFrom (seating_of p) q c (q c) q
      at (Some h) e = subst (λ (o : Option ℕ). TurnFrom (seating_of p) q c o q) (sym e) (λ d. refl)
      at None e = subst (λ (o : Option ℕ). TurnFrom (seating_of p) q c o q) (sym e) (inr (
        no_chain c e
            (elim settled [ inl s ↦ absurd (let z : false ≡ true = sym (ap is_some e) ∙ s in cc) | inr a ↦ a ]),
        λ d. refl,
      ))

  -- who fits dead halls alone leads to dead halls alone
  pub leads_dead : (c : ℕ) → IsWithin p dead c → (j h : ℕ) → LeadsTo (seating_of p) q c j h → IsMarked dead h
  leads_dead c within zero h fit = within h fit
  leads_dead c within (suc j) h (k, lead, d) = closed.stays d.0 k h d.1 (leads_dead c within j k lead) d.2

  -- the turn of one who is settled adds no hall to the dead ones
  pub settled_deaths : (c : ℕ) → IsSettled p q dead c → (listed : List ℕ)
      → ((h : ℕ) → Contains listed h ↔ IsMarked dead h) → ListsDead (seating_of p) q c listed listed
  settled_deaths c settled listed are = at (q c) refl
    where
      none_new : IsWithin p dead c → AreNewlyDead (seating_of p) q c listed []
      none_new within = record {
        rising = none_sorted;
        exact = λ h. (
          (λ m. absurd (let l : m.0 < 0 = m.1 in omega arith)),
          (λ w. absurd (w.1 ((are h).1 (leads_dead c within w.0.0 h w.0.1)))),
        );
      }

      at : (o : Option ℕ) → q c ≡ o → ListsDeadFrom (seating_of p) q c (q c) listed listed
      at (Some h) e = subst (λ (o : Option ℕ). ListsDeadFrom (seating_of p) q c o listed listed) (sym e) refl
      at None e =
          let within : IsWithin p dead c =
          elim settled [ inl s ↦ absurd (let z : false ≡ true = sym (ap is_some e) ∙ s in cc) | inr a ↦ a ] in
          subst (λ (o : Option ℕ). ListsDeadFrom (seating_of p) q c o listed listed) (sym e)
          (inr (no_chain c e within, ([], none_new within, sym (append-nil listed))))

  module _ (lawful : IsLawful (seating_of p) q) (c : ℕ) (unseated : q c ≡ None) (hops : List (ℕ × ℕ)) (last n : ℕ)
      (least : TakesLeast p q n c hops last) (far : (i : ℕ) → i < n → CanReach p q i c → ⊥) where
    leads : Leads (seating_of p) q c hops last
    leads = least_leads p q n c hops last least far

    route : IsRoute p q c hops last
    route = route_of p q c hops last leads

    free : HasFreeDesk (seating_of p) q last
    free = ends_free p q c hops last leads

    distinct : AreDistinct hops last
    distinct = least_distinct p q n c hops last least far

    abbrev arranged : Plan ℕ ℕ
    arranged = augmented (seating_of p) q c hops last

    moves : AllMoves IsLiveMove c hops last
    moves = (live_route c hops last route free (λ g e m. absurd (let z : None ≡ Some g = sym unseated ∙ e in cc))).0

    one_more : (h : ℕ) → length (occupants (seating_of p) arranged h)
        ≡ length (occupants (seating_of p) q h) + bit (nat_eq h last)
    one_more h = occupants-moved p q lawful c unseated hops last route distinct h

    still_closed : AreClosed p arranged dead
    still_closed = record {
      full = λ h m f. closed.full h m (let o = one_more h in
          let less : length (occupants (seating_of p) arranged h) < get_or p.desk_counts h 0 =
          f in omega (arith, o, less));
      stays = λ d h k sits m fit. elim (moved_cases p q IsLiveMove c hops last moves d) [
        | inl e ↦ closed.stays d h k (sym e ∙ sits) m fit
        | inr w ↦ absurd (w.2.0 (subst (λ (z : ℕ). IsMarked dead z) (same_Some h w.0 (sym sits ∙ w.1)) m))
      ];
    }

    lead_again : (e : ℕ) → IsWithin p dead e → (j h : ℕ) → LeadsTo (seating_of p) q e j h
        → LeadsTo (seating_of p) arranged e j h
    lead_again e within zero h fit = fit
    lead_again e within (suc j) h (k, lead, d) = (k, lead_again e within j k lead, (d.0, sits, d.2))
      where
        sits : arranged d.0 ≡ Some k
        sits = elim (moved_cases p q IsLiveMove c hops last moves d.0)
            [ inl s ↦ s ∙ d.1 | inr w ↦ absurd (w.2.2 k d.1 (leads_dead e within j k lead)) ]

    still_traced : (h : ℕ) → IsTraced p q dead h → IsTraced p arranged dead h
    still_traced h (e, j, none, within, lead) = (
      e,
      j,
      elim (moved_cases p q IsLiveMove c hops last moves e)
          [ inl s ↦ s ∙ none | inr w ↦ absurd (w.2.1 within) ],
      within,
      lead_again e within j h lead,
    )

    arrives : (hops : List (ℕ × ℕ)) → IsSome (augmented (seating_of p) q c hops last c)
    arrives [] = ap (λ t. is_some (cond t (Some last) (q c))) (eq-eqb c c refl)
    arrives (hop ∷ hops) =
        ap (λ t. is_some (cond t (Some hop.0) (augmented (seating_of p) q hop.1 hops last c))) (eq-eqb c c refl)

    augmented_turn : IsTurned p q dead c last arranged
    augmented_turn = record {
      lawful = lawful-moved p q lawful c unseated hops last route distinct free;
      kept = λ d was. moved_keeps p q c hops last d was;
      turn = subst (λ (o : Option ℕ). TurnFrom (seating_of p) q c o arranged) (sym unseated)
          (inl (record { hops = hops; last = last }, least_is_least p q n c hops last least far, λ d. refl));
      chain = (record { hops = hops; last = last }, (least_is_least p q n c hops last least far).is_chain);
      closed = still_closed;
      traced = still_traced;
      settled = inl (arrives hops);
      others = λ d s. elim s [ inl was ↦ inl (moved_keeps p q c hops last d was) | inr away ↦ inr away ];
      occupied = one_more;
      was_free = free;
    }

  pub turned : IsLawful (seating_of p) q → (c : ℕ) → q c ≡ None → (n last : ℕ) (after : Plan ℕ ℕ)
      → IsAdvanced p q n c last after → ((i : ℕ) → i < n → CanReach p q i c → ⊥) → IsTurned p q dead c last after
  turned lawful c unseated n last after moved far =
      let same : augmented (seating_of p) q c moved.0 last ≡ after = λ i d. (sym (moved.2 d)) i in
      subst (λ (a : Plan ℕ ℕ). IsTurned p q dead c last a) same
      (augmented_turn lawful c unseated moved.0 last n moved.1 far)

-- a turn along a chain adds no hall to the dead ones
pub chain_deaths : (p : Problem) (q : Plan ℕ ℕ) (dead : ℕ → Bool) (c last : ℕ) (after : Plan ℕ ℕ)
    → IsTurned p q dead c last after → q c ≡ None → (listed : List ℕ) → ListsDead (seating_of p) q c listed listed
chain_deaths p q dead c last after turned unseated listed =
    subst (λ (o : Option ℕ). ListsDeadFrom (seating_of p) q c o listed listed) (sym unseated) (inl (turned.chain, refl))

-- ---- the halls with a free desk

pub count_is : (p : Problem) (r : Plan ℕ ℕ) (h : ℕ)
    → count_at r h (length p.fit) ≡ length (occupants (seating_of p) r h)
count_is p r h = count_at-below r h (length p.fit) ∙ sym (length-occupants p r h)

pub marks_with : (P : ℕ → Type 0) (set new i : ℕ) → MarksAll (holds set) (λ h. (h < i) × P h)
    → ((h : ℕ) → holds new h ≡ nat_eq h i || holds set h) → P i → MarksAll (holds new) (λ h. (h < i + 1) × P h)
marks_with P set new i marks is here h = (
  (λ t. elim (or_cases (nat_eq h i) (holds set h) (sym (is h) ∙ t)) [
    | inl e ↦ (let s : h ≡ i = eqb-true h i e in (omega arith, subst P (sym s) here))
    | inr m ↦ (let w = (marks h).0 m in ((let l : h < i = w.0 in omega arith), w.1))
  ]),
  (λ w. is h ∙ elim (cases_lt h i) [
    | inl l ↦ or_right (nat_eq h i) (holds set h) ((marks h).1 (l, w.1))
    | inr g ↦ (let l : h < i + 1 = w.0 in or_left (nat_eq h i) (holds set h) (eq-eqb h i (omega arith)))
  ]),
)

pub marks_skip : (P : ℕ → Type 0) (set i : ℕ) → MarksAll (holds set) (λ h. (h < i) × P h) → (P i → ⊥)
    → MarksAll (holds set) (λ h. (h < i + 1) × P h)
marks_skip P set i marks away h = (
  (λ t. let w = (marks h).0 t in ((let l : h < i = w.0 in omega arith), w.1)),
  (λ w. (marks h).1 (
    (let l : h < i + 1 = w.0 in
        elim (cases_lt h i) [ inl k ↦ k | inr g ↦ absurd (let e : h ≡ i = omega arith in away (subst P e w.1)) ]),
    w.1,
  )),
)

-- no hall is dead at the start
pub none_closed : (p : Problem) (q : Plan ℕ ℕ) (set : ℕ) → ((h : ℕ) → holds set h ≡ false) → AreClosed p q (holds set)
none_closed p q set none = record {
  full = λ h m. let z : false ≡ true = sym (none h) ∙ m in cc;
  stays = λ d h k sits m. let z : false ≡ true = sym (none h) ∙ m in cc;
}

-- ---- the desks after a chain to the last hall

module _ (p : Problem) (q after : Plan ℕ ℕ) (last : ℕ)
    (occupied : (h : ℕ) → length (occupants (seating_of p) after h)
    ≡ length (occupants (seating_of p) q h) + bit (nat_eq h last)) where
  pub counts_after : (counts : List ℕ) (x : ℕ) → length counts ≡ length p.desk_counts → last < length p.desk_counts
      → ((h : ℕ) → h < length p.desk_counts → get_or counts h 0 ≡ count_at q h (length p.fit))
      → x ≡ get_or counts last x
      → (h : ℕ) → h < length p.desk_counts → get_or (set counts last (x + 1)) h 0 ≡ count_at after h (length p.fit)
  counts_after counts x long inside counted read h below =
      one_counted (length p.desk_counts) last x counts (λ g. count_at q g (length p.fit))
      (λ g. count_at after g (length p.fit)) (omega arith) counted
      (λ g. let a = count_is p q g in let b = count_is p after g in let o = occupied g in omega (arith, a, b, o)) read
      h below

  free_elsewhere : (h : ℕ) → (h ≡ last → ⊥)
      → (HasFreeDesk (seating_of p) after h → HasFreeDesk (seating_of p) q h)
      × (HasFreeDesk (seating_of p) q h → HasFreeDesk (seating_of p) after h)
  free_elsewhere h away =
      let o = occupied h in let none : bit (nat_eq h last) ≡ 0 = ap bit (ne_eqb h last away) in (
        (λ f. let l : length (occupants (seating_of p) after h) < get_or p.desk_counts h 0 = f in
            omega (arith, o, none, l)),
        (λ f. let l : length (occupants (seating_of p) q h) < get_or p.desk_counts h 0 = f in
            omega (arith, o, none, l)),
      )

  -- the last hall is taken out where it is full now
  pub free_after : (free rest n d : ℕ) → MarksAll (holds free) (HasFreeDesk (seating_of p) q)
      → HasFreeDesk (seating_of p) q last → n ≡ count_at after last (length p.fit) → d ≡ get_or p.desk_counts last 0
      → ((h : ℕ) → holds rest h ≡ holds free h && not (nat_eq h last && not (nat_lt n d)))
      → MarksAll (holds rest) (HasFreeDesk (seating_of p) after)
  free_after free rest n d marks was counted desks is h = elim (cases_eq h last) [
    | inl e ↦ (
        let b = count_is p after last in
        let same : holds rest h ≡ holds free h && not (not (nat_lt n d)) =
        is h ∙ ap (λ t. holds free h && not (t && not (nat_lt n d))) (eq-eqb h last e) in (
          (λ m. let parts = and_parts (holds free h) (not (not (nat_lt n d))) (sym same ∙ m) in
              let l : n < d = ltb-true n d (sym (not-not (nat_lt n d)) ∙ parts.1) in
              let f : length (occupants (seating_of p) after last) < get_or p.desk_counts last 0 =
              omega (arith, b, l, counted, desks) in
              subst (λ (z : ℕ). HasFreeDesk (seating_of p) after z) (sym e) f),
          (λ f. let l : length (occupants (seating_of p) after last) < get_or p.desk_counts last 0 =
              subst (λ (z : ℕ). HasFreeDesk (seating_of p) after z) e f in
              same ∙ and_from (holds free h) (not (not (nat_lt n d)))
              (subst (λ (z : ℕ). IsMarked (holds free) z) (sym e) ((marks last).1 was))
              (ap (λ t. not (not t)) (lt-ltb n d (omega (arith, b, l, counted, desks))))),
        ))
    | inr away ↦ (
        let same : holds rest h ≡ holds free h && true =
        is h ∙ ap (λ t. holds free h && not (t && not (nat_lt n d))) (ne_eqb h last away) in (
          (λ m. (free_elsewhere h away).1 ((marks h).0 (and_parts (holds free h) true (sym same ∙ m)).0)),
          (λ f. same ∙ and_from (holds free h) true ((marks h).1 ((free_elsewhere h away).0 f)) refl),
        ))
  ]

-- ---- the dead halls after a failed search

module _ (p : Problem) (q : Plan ℕ ℕ) (c : ℕ) (unseated : q c ≡ None) (dead led both : ℕ)
    (is : (h : ℕ) → holds both h ≡ holds dead h || holds led h)
    (nowhere : (j h : ℕ) → LeadsTo (seating_of p) q c j h → HasFreeDesk (seating_of p) q h → ⊥)
    (leads : (h : ℕ) → IsMarked (holds led) h → (j : ℕ) × LeadsTo (seating_of p) q c j h)
    (fitting : (h : ℕ) → IsTrue ((seating_of p).fits c h) → IsMarked (holds led) h ⊎ IsMarked (holds dead) h)
    (led_closed : (d h k : ℕ) → q d ≡ Some h → IsMarked (holds led) h → IsTrue ((seating_of p).fits d k)
    → IsMarked (holds led) k ⊎ IsMarked (holds dead) k)
    (closed : AreClosed p q (holds dead)) where
  dead_in : (h : ℕ) → IsMarked (holds dead) h → IsMarked (holds both) h
  dead_in h m = is h ∙ or_left (holds dead h) (holds led h) m

  led_in : (h : ℕ) → IsMarked (holds led) h → IsMarked (holds both) h
  led_in h m = is h ∙ or_right (holds dead h) (holds led h) m

  either_in : (h : ℕ) → IsMarked (holds led) h ⊎ IsMarked (holds dead) h → IsMarked (holds both) h
  either_in h (inl m) = led_in h m
  either_in h (inr m) = dead_in h m

  in_either : (h : ℕ) → IsMarked (holds both) h → IsMarked (holds dead) h ⊎ IsMarked (holds led) h
  in_either h m = or_cases (holds dead h) (holds led h) (sym (is h) ∙ m)

  pub both_closed : AreClosed p q (holds both)
  both_closed = record {
    full = λ h m f. elim
        (in_either h m) [ inl d ↦ closed.full h d f | inr l ↦ (let r = leads h l in nowhere r.0 h r.1 f) ];
    stays = λ d h k sits m fit. elim
        (in_either h m) [
          | inl e ↦ dead_in k (closed.stays d h k sits e fit)
          | inr l ↦ either_in k
              (led_closed d h k sits l fit)
        ];
  }

  pub both_within : IsWithin p (holds both) c
  both_within k fit = either_in k (fitting k fit)

  pub both_traced : ((h : ℕ) → IsMarked (holds dead) h → IsTraced p q (holds dead) h) → (h : ℕ)
      → IsMarked (holds both) h → IsTraced p q (holds both) h
  both_traced traced h m = elim (in_either h m) [
    | inl d ↦ (let t = traced h d in (t.0, t.1, t.2, (λ k fit. dead_in k (t.3 k fit)), t.4))
    | inr l ↦ (let r = leads h l in (c, r.0, unseated, both_within, r.1))
  ]

  -- a failed search appends the halls of its set
  pub both_deaths : (n : ℕ) → ((h : ℕ) → IsMarked (holds led) h → h < n)
      → ((h : ℕ) → IsMarked (holds led) h → IsMarked (holds dead) h → ⊥) → (listed after : List ℕ)
      → ((h : ℕ) → Contains listed h ↔ IsMarked (holds dead) h)
      → after ≡ listed ++ halls_below n led → ListsDead (seating_of p) q c listed after
  both_deaths n within apart listed after are grown =
      subst (λ (o : Option ℕ). ListsDeadFrom (seating_of p) q c o listed after) (sym unseated)
      (inr (no_chain p q (holds both) both_closed c unseated both_within, (halls_below n led, newly, grown)))
    where
      newly : AreNewlyDead (seating_of p) q c listed (halls_below n led)
      newly = record {
        rising = filter_sorted (holds led) n;
        exact = λ h. (
          (λ m. let l = (passing (holds led) n h m).1 in (leads h l, λ d. apart h l ((are h).0 d))),
          (λ w. elim (in_either h (leads_dead p q (holds both) both_closed c both_within w.0.0 h w.0.1)) [
            | inl d ↦ absurd (w.1 ((are h).1 d))
            | inr l ↦ passes_in (holds led) n h (within h l) l
          ]),
        );
      }

  pub both_settled : (d : ℕ) → IsSettled p q (holds dead) d → IsSettled p q (holds both) d
  both_settled d (inl s) = inl s
  both_settled d (inr w) = inr (λ k fit. dead_in k (w k fit))

pub seated_at : (m : List (Option ℕ)) (c : ℕ) (o : Option ℕ) → c < length m → o ≡ get_or m c o → plan_at m c ≡ o
seated_at m c o below read = plan_at-get_or m c ∙ get_or_default m c None o below ∙ sym read

pub none_of : (o : Option ℕ) (b : Bool) → b ≡ is_some o → b ≡ false → o ≡ None
none_of None b told fails = refl
none_of (Some h) b told fails = let z : true ≡ false = sym told ∙ fails in cc
