-- A sweep so far, and at its end.
use Rattle.exam_plan.proofs.Words.{range_with_len, cases_eq, cases_lt, eq-eqb, ne_eqb, eqb-true, same_Some, IfSome_then}
use Rattle.exam_plan.proofs.Words.{Seating, Plan, occupants, IsLawful, IsBest, IsContested, IsSweep, ListsDead, Sweeps}
use Rattle.exam_plan.proofs.Words.{Turn, Problem, IsProblem, seating_of, LeadsTo, IsMarked, IsSettled, Draws, is_drawn}
use Rattle.std.proofs.Common.{◌≡◌, ℕ, zero, suc, ◌+◌, ◌<◌, ◌≤◌, Bool, true, false, not, cond, IsTrue, List, [], ◌∷◌}
use Rattle.std.proofs.Common.{◌++◌, length, get_or, Option, None, Some, IsSome, IfSome, is_some, nat_eq, refl, sym, ap}
use Rattle.std.proofs.Common.{◌∙◌, inl, inr, subst, arith, append-nil, append_assoc}
use Rattle.std.specs.Prelude.{filter, Contains, ◌↔◌}
use Rattle.std.specs.Option.{option_eq}
use Rattle.exam_plan.specs.Repair.{IsDeadList, SweepsDead}
use Rattle.exam_plan.specs.Searches.{AreClosed, IsTraced}
use Rattle.exam_plan.proofs.Counting.{range_next}
use Rattle.exam_plan.proofs.Seatings.{fits_member, fits_below}
use Rattle.exam_plan.proofs.Optimality.{drawn_in, closed_is_greatest}
use Rattle.exam_plan.proofs.Rising.{next_filter, passing, passes_in}
use Rattle.exam_plan.proofs.ShortOfDesks.{is_certificate, exactly_contested}
use Rattle.exam_plan.proofs.DrawLemmas.{filter_next}

-- the candidates who have had their turn: the first, and all others below i
abbrev pub done : Problem → Option ℕ → ℕ → List ℕ
done p None i = range_with_len 0 i
done p (Some c) i = filter (nat_eq c) (range_with_len 0 (length p.fit))
    ++ filter (λ d. not (nat_eq c d)) (range_with_len 0 i)

pub record IsSwept (p : Problem) (first : Option ℕ) (before q : Plan ℕ ℕ) (dead : ℕ → Bool) (i : ℕ) : Type 0 where
  pub lawful : IsLawful (seating_of p) q
  pub closed : AreClosed p q dead
  pub kept : (d : ℕ) → IsSome (before d) → IsSome (q d)
  pub firstly : IfSome first (λ c. IsSettled p q dead c)
  pub settled : (d : ℕ) → d < i → IsSettled p q dead d
  pub turns : Sweeps (seating_of p) before (done p first i) q

none_below : (c n : ℕ) → n ≤ c → filter (nat_eq c) (range_with_len 0 n) ≡ []
none_below c zero l = refl
none_below c (suc n) l =
    next_filter (nat_eq c) n false (ne_eqb c n (λ e. absurd (omega arith)))
    ∙ ap (λ xs. xs ++ []) (none_below c n (omega arith))

one_of : (c n : ℕ) → c < n → filter (nat_eq c) (range_with_len 0 n) ≡ c ∷ []
one_of c zero l = absurd (omega arith)
one_of c (suc n) l = elim (cases_eq c n) [
  | inl e ↦ next_filter (nat_eq c) n true (eq-eqb c n e) ∙ ap (λ xs. xs ++ n ∷ []) (none_below c n (omega arith))
      ∙ ap (λ k. k ∷ []) (sym e)
  | inr m ↦ next_filter (nat_eq c) n false (ne_eqb c n m) ∙ ap (λ xs. xs ++ []) (one_of c n (omega arith))
]

-- the first one's turn comes first
pub first_done : (p : Problem) (c : ℕ) → c < length p.fit → done p (Some c) 0 ≡ c ∷ []
first_done p c below = append-nil (filter (nat_eq c) (range_with_len 0 (length p.fit))) ∙ one_of c (length p.fit) below

module _ (g : Seating ℕ ℕ) where
  -- one more turn
  pub Sweeps-push : (before : Plan ℕ ℕ) (cs : List ℕ) (mid : Plan ℕ ℕ) (c : ℕ) (after : Plan ℕ ℕ)
      → Sweeps g before cs mid → Turn g mid c after → Sweeps g before (cs ++ c ∷ []) after
  Sweeps-push before [] mid c after same turn =
      (after, subst (λ (b : Plan ℕ ℕ). Turn g b c after) (λ i d. same d i) turn, λ d. refl)
  Sweeps-push before (x ∷ cs) mid c after s turn = (s.0, s.1, Sweeps-push s.0 cs mid c after s.2 turn)

  pub SweepsDead-push : (before : Plan ℕ ℕ) (dead cs : List ℕ) (mid : Plan ℕ ℕ) (so_far : List ℕ) (c : ℕ)
      (after : Plan ℕ ℕ) (listed : List ℕ) → SweepsDead g before dead cs mid so_far → Turn g mid c after
      → ListsDead g mid c so_far listed → SweepsDead g before dead (cs ++ c ∷ []) after listed
  SweepsDead-push before dead [] mid so_far c after listed s turn deaths = (
    after,
    listed,
    subst (λ (b : Plan ℕ ℕ). Turn g b c after) (λ i d. s.0 d i) turn,
    subst (λ (xs : List ℕ). ListsDead g before c xs listed) s.1
        (subst (λ (b : Plan ℕ ℕ). ListsDead g b c so_far listed) (λ i d. s.0 d i) deaths),
    ((λ d. refl), refl),
  )
  SweepsDead-push before dead (x ∷ cs) mid so_far c after listed s turn deaths =
      (s.0, s.1, s.2, s.3, SweepsDead-push s.0 s.1 cs mid so_far c after listed s.4 turn deaths)

module _ (p : Problem) (before : Plan ℕ ℕ) (dead : ℕ → Bool) where
  pub swept_none : IsLawful (seating_of p) before → AreClosed p before dead → IsSwept p None before before dead 0
  swept_none lawful closed = record {
    lawful = lawful;
    closed = closed;
    kept = λ d s. s;
    firstly = tt;
    settled = λ d l. absurd (omega arith);
    turns = λ d. refl;
  }

  pub swept_first : (c : ℕ) (q : Plan ℕ ℕ) → c < length p.fit → IsLawful (seating_of p) q → AreClosed p q dead
      → ((d : ℕ) → IsSome (before d) → IsSome (q d))
      → IsSettled p q dead c → Turn (seating_of p) before c q → IsSwept p (Some c) before q dead 0
  swept_first c q below lawful closed kept settled turn = record {
    lawful = lawful;
    closed = closed;
    kept = kept;
    firstly = settled;
    settled = λ d l. absurd (omega arith);
    turns = subst (λ (cs : List ℕ). Sweeps (seating_of p) before cs q) (sym (first_done p c below))
        (q, turn, λ d. refl);
  }

module _ (p : Problem) (first : Option ℕ) (before q : Plan ℕ ℕ) (dead : ℕ → Bool) (i : ℕ)
    (swept : IsSwept p first before q dead i) where
  -- those before i, and i itself
  settled_more : (r : Plan ℕ ℕ) (deaths : ℕ → Bool) → ((d : ℕ) → d < i → IsSettled p r deaths d)
      → IsSettled p r deaths i → (d : ℕ) → d < i + 1 → IsSettled p r deaths d
  settled_more r deaths below here d l = elim (cases_lt d i) [
    | inl k ↦ below d k
    | inr k ↦ (let e : i ≡ d = omega arith in subst (λ (z : ℕ). IsSettled p r deaths z) e here)
  ]

  done_next : (c : ℕ) (b : Bool) → nat_eq c i ≡ b
      → done p (Some c) (i + 1) ≡ filter (nat_eq c) (range_with_len 0 (length p.fit))
      ++ (filter (λ d. not (nat_eq c d)) (range_with_len 0 i) ++ cond (not b) (i ∷ []) [])
  done_next c b e = ap (λ xs. filter (nat_eq c) (range_with_len 0 (length p.fit)) ++ xs)
      (filter_next (λ d. not (nat_eq c d)) i (not b) (ap not e))

  pub done_more : (o : Option ℕ) → (o ≡ Some i → ⊥) → done p o (i + 1) ≡ done p o i ++ i ∷ []
  done_more None away = range_next i
  done_more (Some c) away = done_next c false (ne_eqb c i (λ e. away (ap Some e)))
      ∙ sym (append_assoc (filter (nat_eq c) (range_with_len 0 (length p.fit)))
      (filter (λ d. not (nat_eq c d)) (range_with_len 0 i)) (i ∷ []))

  pub done_same : (o : Option ℕ) → o ≡ Some i → done p o (i + 1) ≡ done p o i
  done_same None e = cc
  done_same (Some c) e = done_next c true (eq-eqb c i (same_Some c i e))
      ∙ ap (λ xs. filter (nat_eq c) (range_with_len 0 (length p.fit)) ++ xs)
      (append-nil (filter (λ d. not (nat_eq c d)) (range_with_len 0 i)))

  pub swept_more : (r : Plan ℕ ℕ) (deaths : ℕ → Bool) → (first ≡ Some i → ⊥) → IsLawful (seating_of p) r
      → AreClosed p r deaths → ((d : ℕ) → IsSome (q d) → IsSome (r d))
      → IsSettled p r deaths i → ((d : ℕ) → IsSettled p q dead d → IsSettled p r deaths d) → Turn (seating_of p) q i r
      → IsSwept p first before r deaths (i + 1)
  swept_more r deaths away lawful closed kept settled others turn = record {
    lawful = lawful;
    closed = closed;
    kept = λ d s. kept d (swept.kept d s);
    firstly = IfSome_then first swept.firstly others;
    settled = settled_more r deaths (λ d l. others d (swept.settled d l)) settled;
    turns = subst (λ (cs : List ℕ). Sweeps (seating_of p) before cs r) (sym (done_more first away))
        (Sweeps-push (seating_of p) before (done p first i) q i r swept.turns turn);
  }

  pub swept_skip : first ≡ Some i → IsSwept p first before q dead (i + 1)
  swept_skip same = record {
    lawful = swept.lawful;
    closed = swept.closed;
    kept = swept.kept;
    firstly = swept.firstly;
    settled = settled_more q dead swept.settled
        (let P : Option ℕ → Type 0 = λ o. IfSome o (λ c. IsSettled p q dead c) in subst P same swept.firstly);
    turns = subst (λ (cs : List ℕ). Sweeps (seating_of p) before cs q) (sym (done_same first same)) swept.turns;
  }

module _ (p : Problem) (good : IsProblem p) (first : Option ℕ) (before q : Plan ℕ ℕ) (dead : ℕ → Bool) (n : ℕ)
    (all : n ≡ length p.fit) (swept : IsSwept p first before q dead n) where
  drawn_dead : (c k : ℕ) (o : Option ℕ) → q c ≡ o → is_drawn dead (q c) ≡ true → IsTrue ((seating_of p).fits c k)
      → IsMarked dead k
  drawn_dead c k None e drawn fit = elim (swept.settled c (let l = fits_member p c k fit in omega arith)) [
    | inl s ↦ absurd (let z : false ≡ true = sym (ap is_some e) ∙ s in cc)
    | inr within ↦ within k fit
  ]
  drawn_dead c k (Some h) e drawn fit = swept.closed.stays c h k e (sym (ap (is_drawn dead) e) ∙ drawn) fit

  same_test : (o : Option ℕ) → drawn_in dead o ≡ is_drawn dead o
  same_test None = refl
  same_test (Some h) = refl

  -- who is unseated or sits in a dead hall fits dead halls alone
  pub swept_closed : (c k : ℕ) → IsTrue (is_drawn dead (q c)) → IsTrue ((seating_of p).fits c k) → IsMarked dead k
  swept_closed c k drawn fit = drawn_dead c k (q c) refl drawn fit

  pub swept_best : IsBest (seating_of p) q
  swept_best = record {
    lawful = swept.lawful;
    greatest = λ other also. closed_is_greatest p good q swept.lawful dead (record {
      full = λ h l t. elim (cases_lt (length (occupants (seating_of p) q h)) (get_or p.desk_counts h 0)) [
        | inl free ↦ absurd (swept.closed.full h t free)
        | inr k ↦ k
      ];
      stays = λ c k drawn fit. swept_closed c k (sym (same_test (q c)) ∙ drawn) fit;
    }) other also;
  }

  -- ---- the dead halls are those that fit a contested candidate

  traced_draws : (c : ℕ) → q c ≡ None → (j h : ℕ) → LeadsTo (seating_of p) q c j h → Draws p q (suc j) h
  traced_draws c none zero h fit = (c, inl none, fit)
  traced_draws c none (suc j) h (k, lead, d) = (d.0, inr (k, d.1, traced_draws c none j k lead), d.2)

  pub swept_drawn : ((h : ℕ) → IsMarked dead h → IsTraced p q dead h) → (h : ℕ) → IsMarked dead h
      → (j : ℕ) × Draws p q j h
  swept_drawn traced h m = let t = traced h m in (suc t.1, traced_draws t.0 t.2 t.1 h t.4)

  pub swept_dead : ((h : ℕ) → IsMarked dead h → IsTraced p q dead h) → (listed : List ℕ)
      → ((h : ℕ) → Contains listed h ↔ IsMarked dead h)
      → (h : ℕ) → Contains listed h ↔ ((c : ℕ) × IsContested (seating_of p) c × IsTrue ((seating_of p).fits c h))
  swept_dead traced listed is h =
      let drawn = swept_drawn traced in
      let cert = is_certificate p good q swept_best dead drawn swept_closed xs hs refl refl in
      let exact = exactly_contested p good q swept_best dead drawn swept_closed xs hs refl refl in (
        (λ m. let d = (is h).0 m in
            let w = (cert.halls_of h).0 (passes_in dead (length p.desk_counts) h (exists h d (drawn h d)) d) in
            (w.0, (exact w.0).0 w.1, w.2)),
        (λ w. (is h).1 (passing dead (length p.desk_counts) h ((cert.halls_of h).1 (w.0, (exact w.0).1 w.1, w.2))).1),
      )
    where
      xs : List ℕ
      xs = filter (λ c. is_drawn dead (q c)) (range_with_len 0 (length p.fit))

      hs : List ℕ
      hs = filter dead (range_with_len 0 (length p.desk_counts))

      exists : (h : ℕ) → IsMarked dead h → ((j : ℕ) × Draws p q j h) → h < length p.desk_counts
      exists h m (zero, d) = absurd d
      exists h m (suc j, d) = fits_below p good d.0 h d.2

  pub swept_turns : IsSweep (seating_of p) first before q
  swept_turns = order first (subst (λ (m : ℕ). Sweeps (seating_of p) before (done p first m) q) all swept.turns)
    where
      order : (o : Option ℕ) → Sweeps (seating_of p) before (done p o (length p.fit)) q
          → IsSweep (seating_of p) o before q
      order None s = s
      order (Some c) s = s

pub listed_in_order : (p : Problem) (o : Option ℕ) (before after : Plan ℕ ℕ) (listed : List ℕ) (n : ℕ)
    → n ≡ length p.fit → SweepsDead (seating_of p) before [] (done p o n) after listed
    → IsDeadList (seating_of p) o before after listed
listed_in_order p o before after listed n all s =
    order o (subst (λ (m : ℕ). SweepsDead (seating_of p) before [] (done p o m) after listed) all s)
  where
    order : (o : Option ℕ) → SweepsDead (seating_of p) before [] (done p o (length p.fit)) after listed
        → IsDeadList (seating_of p) o before after listed
    order None s = s
    order (Some c) s = s

pub not_first : (o : Option ℕ) (i : ℕ) (b : Bool) → b ≡ not (option_eq nat_eq o (Some i)) → b ≡ true → o ≡ Some i → ⊥
not_first o i b told shown is = let z : b ≡ false =
    told ∙ ap (λ t. not (option_eq nat_eq t (Some i))) is ∙ ap not (eq-eqb i i refl) in let y : false ≡ true =
    sym z ∙ shown in cc

pub is_first : (o : Option ℕ) (i : ℕ) (b : Bool) → b ≡ not (option_eq nat_eq o (Some i)) → b ≡ false → o ≡ Some i
is_first None i b told no' = let z : true ≡ false = sym told ∙ no' in cc
is_first (Some k) i b told no' = ap Some (same_if (nat_eq k i) refl)
  where
    same_if : (t : Bool) → nat_eq k i ≡ t → k ≡ i
    same_if true e = eqb-true k i e
    same_if false e = absurd (let z : true ≡ false = sym (told ∙ ap not e) ∙ no' in cc)
