-- The closed set of a best plan: a deficiency certificate, and exactly the contested candidates.
use Rattle.exam_plan.proofs.Words.{range_with_len, IsStrictlySortedBy, nat_cmp, cases_eq, cases_lt, cases_Bool, eq-eqb}
use Rattle.exam_plan.proofs.Words.{ne_eqb, length-filter, same_Some, Plan, occupants, unseated, size, IsLawful, IsBest}
use Rattle.exam_plan.proofs.Words.{IsCertificate, IsContested, HasFreeDesk, augmented, Problem, IsProblem, seating_of}
use Rattle.exam_plan.proofs.Words.{IsMarked, Draws, is_drawn}
use Rattle.std.proofs.Common.{◌≡◌, ◌≢◌, ℕ, zero, suc, ◌+◌, ◌<◌, ◌≤◌, ◌↔◌, Bool, true, false, cond, IsTrue, List, []}
use Rattle.std.proofs.Common.{◌∷◌, ◌++◌, length, get_or, Option, None, Some, IsSome, IfSome, is_some, is_none, nat_eq}
use Rattle.std.proofs.Common.{◌⊎◌, refl, sym, ap, ◌∙◌, inl, inr, subst, arith, zero-add}
use Rattle.std.specs.Prelude.{Contains, filter, sum_by}
use Rattle.std.proofs.lemmas.List.Elements.{All-contains_itself}
use Rattle.std.proofs.lemmas.List.Sums.{sum_by-append}
use Rattle.exam_plan.proofs.Counting.{bit, count_below, count_below-add, count_below-point, count_by-range, sum_below}
use Rattle.exam_plan.proofs.Counting.{sits_within, sits_at}
use Rattle.exam_plan.proofs.Rising.{next_filter, passing, passes_in, filter_sorted}
use Rattle.exam_plan.proofs.Seatings.{length-occupants, length-unseated, size-count, member-below, below-member}
use Rattle.exam_plan.proofs.Seatings.{fits_member, fits_below}
use Rattle.exam_plan.proofs.Optimality.{IsClosedSet, drawn_in, set_desks, closed_is_greater}
use Rattle.exam_plan.proofs.Moves.{IsFresh, Avoids, AreDistinct, IsPath, IsRoute, path_of, moved-fresh, exchange}
use Rattle.exam_plan.proofs.Moves.{moved_cases, route_fits, lawful-moved, size-moved}

pub sum_by-passing : (f : ℕ → ℕ) (D : ℕ → Bool) (n : ℕ) → sum_by f (filter D (range_with_len 0 n)) ≡ sum_below f D n
sum_by-passing f D zero = refl
sum_by-passing f D (suc n) =
    ap (sum_by f) (next_filter D n (D n) refl)
    ∙ sum_by-append f (filter D (range_with_len 0 n)) (cond (D n) (n ∷ []) []) ∙ at (D n) (sum_by-passing f D n)
  where
    at : (b : Bool) → sum_by f (filter D (range_with_len 0 n)) ≡ sum_below f D n
        → sum_by f (filter D (range_with_len 0 n)) + sum_by f (cond b (n ∷ []) []) ≡ sum_below f D n + cond b (f n) 0
    at true e = let z : sum_by f (n ∷ []) ≡ 0 + f n = refl in omega (arith, e, z)
    at false e = let z : sum_by f [] ≡ 0 = refl in omega (arith, e, z)

-- ---- routes with distinct halls

module _ (p : Problem) (q : Plan ℕ ℕ) where
  -- a route ends at a hall before it meets the hall again
  cut : (c : ℕ) (hops : List (ℕ × ℕ)) (last h : ℕ) → IsRoute p q c hops last → AreDistinct hops last
      → Avoids h hops last
      ⊎ ((hops' : List (ℕ × ℕ)) × IsRoute p q c hops' h × AreDistinct hops' h
      × ((k : ℕ) → Avoids k hops last → Avoids k hops' h))
  cut c [] last h route distinct = elim (cases_eq h last) [
    | inl e ↦ inr ([], subst (λ (z : ℕ). IsTrue ((seating_of p).fits c z)) (sym e) route, tt, λ k a z. a (z ∙ e))
    | inr n ↦ inl n
  ]
  cut c (hop ∷ hops) last h route distinct = elim (cases_eq h hop.0) [
    | inl e ↦ inr ([], subst (λ (z : ℕ). IsTrue ((seating_of p).fits c z)) (sym e) route.0, tt, λ k a z. a.0 (z ∙ e))
    | inr n ↦ elim (cut hop.1 hops last h route.2 distinct.1) [
      | inl a ↦ inl (n, a)
      | inr w ↦ inr (hop ∷ w.0, (route.0, route.1, w.1), (w.3 hop.0 distinct.0, w.2), λ k a. (a.0, w.3 k a.1))
    ]
  ]

  avoids_longer : (m : ℕ) (hops : List (ℕ × ℕ)) (k d h : ℕ) → Avoids m hops k → m ≢ h → Avoids m (hops ++ (k, d) ∷ []) h
  avoids_longer m [] k d h a n = (a, n)
  avoids_longer m (hop ∷ hops) k d h a n = (a.0, avoids_longer m hops k d h a.1 n)

  -- a route goes one hall further
  longer : (c : ℕ) (hops : List (ℕ × ℕ)) (k d h : ℕ) → IsRoute p q c hops k → q d ≡ Some k
      → IsTrue ((seating_of p).fits d h) → AreDistinct hops k → Avoids h hops k
      → IsRoute p q c (hops ++ (k, d) ∷ []) h × AreDistinct (hops ++ (k, d) ∷ []) h
  longer c [] k d h route sits fit distinct away = ((route, sits, fit), ((λ e. away (sym e)), tt))
  longer c (hop ∷ hops) k d h route sits fit distinct away =
      let rest = longer hop.1 hops k d h route.2 sits fit distinct.1 away.1 in
      ((route.0, route.1, rest.0), (avoids_longer hop.0 hops k d h distinct.0 (λ e. away.0 (sym e)), rest.1))

  -- an unseated candidate, and a route with distinct halls to the hall
  abbrev pub IsRouted : ℕ → Type 0
  IsRouted h = (c : ℕ) × (hops : List (ℕ × ℕ)) × (q c ≡ None) × IsRoute p q c hops h × AreDistinct hops h

  pub routed : (j h : ℕ) → Draws p q j h → IsRouted h
  routed zero h d = absurd d
  routed (suc j) h (c, inl e, fit) = (c, [], e, fit, tt)
  routed (suc j) h (c, inr (k, sits, d), fit) =
      let r = routed j k d in
      elim (cut r.0 r.1 k h r.3 r.4) [
        | inl away ↦ (let l = longer r.0 r.1 k c h r.3 sits fit r.4 away in (r.0, r.1 ++ (k, c) ∷ [], r.2, l.0, l.1))
        | inr w ↦ (r.0, w.0, r.2, w.1, w.2)
      ]

  avoids_last : (h : ℕ) (hops : List (ℕ × ℕ)) (last : ℕ) → Avoids h hops last → h ≢ last
  avoids_last h [] last a = a
  avoids_last h (hop ∷ hops) last a = avoids_last h hops last a.1

  -- an occupant of the last hall is none of those who move
  stays_fresh : (c x : ℕ) (hops : List (ℕ × ℕ)) (last : ℕ) → IsRoute p q c hops last → AreDistinct hops last
      → q x ≡ Some last → IsFresh x hops
  stays_fresh c x [] last route distinct sits = tt
  stays_fresh c x (hop ∷ hops) last route distinct sits = (
    (λ e. avoids_last hop.0 hops last distinct.0 (same_Some hop.0 last (sym route.1 ∙ ap q e ∙ sits))),
    stays_fresh hop.1 x hops last route.2 distinct.1 sits,
  )

  -- ---- everybody moves along the route, and an occupant of its last hall leaves

  abbrev left_out : ℕ → Plan ℕ ℕ → Plan ℕ ℕ
  left_out x r d = cond (nat_eq x d) None (r d)

  module _ (lawful : IsLawful (seating_of p) q) (c : ℕ) (none : q c ≡ None) (hops : List (ℕ × ℕ)) (last : ℕ)
      (route : IsRoute p q c hops last) (distinct : AreDistinct hops last)
      (x : ℕ) (sits : q x ≡ Some last) (member : x < length p.fit) where
    start : IsPath p q c hops
    start = path_of p q c hops last route distinct (λ h s. absurd (let e : None ≡ Some h = sym none ∙ s in cc))

    apart : c ≢ x
    apart e = let z : None ≡ Some last = sym none ∙ ap q e ∙ sits in cc

    still : augmented (seating_of p) q c hops last x ≡ Some last
    still = moved-fresh p q c hops last x apart (stays_fresh c x hops last route distinct sits) ∙ sits

    same_count : (P : Option ℕ → Bool) → P None ≡ false
        → count_below (λ d. P (left_out x (augmented (seating_of p) q c hops last) d)) (length p.fit)
        ≡ count_below (λ d. P (q d)) (length p.fit)
    same_count P none' =
        let e = exchange p q P c hops last start in
        let z : bit (P (q c)) ≡ 0 = ap (λ o. bit (P o)) none ∙ ap bit none' in
        let o = count_below-point (λ d. P (left_out x (augmented (seating_of p) q c hops last) d))
        (λ d. P (augmented (seating_of p) q c hops last d)) (length p.fit) x member
        (λ k l away. ap (λ t. bit (P (cond t None (augmented (seating_of p) q c hops last k))))
        (ne_eqb x k (λ s. away (sym s)))) in
        let s : bit (P (augmented (seating_of p) q c hops last x)) ≡ bit (P (Some last)) = ap (λ t. bit (P t)) still in
        let y : bit (P (left_out x (augmented (seating_of p) q c hops last) x)) ≡ 0 =
        ap (λ t. bit (P (cond t None (augmented (seating_of p) q c hops last x)))) (eq-eqb x x refl)
        ∙ ap bit none' in
        omega (arith, e, z, o, s, y)

    cases : (d : ℕ) → (left_out x (augmented (seating_of p) q c hops last) d ≡ None)
        ⊎ (left_out x (augmented (seating_of p) q c hops last) d ≡ augmented (seating_of p) q c hops last d)
    cases d = elim (cases_eq x d) [
      | inl e ↦ inl (ap (λ t. cond t None (augmented (seating_of p) q c hops last d)) (eq-eqb x d e))
      | inr n ↦ inr (ap (λ t. cond t None (augmented (seating_of p) q c hops last d)) (ne_eqb x d n))
    ]

    fits_moved : (d : ℕ) (o : Option ℕ) → augmented (seating_of p) q c hops last d ≡ o
        → IfSome o (λ h. IsTrue ((seating_of p).fits d h))
    fits_moved d o e = elim
        (moved_cases p q (λ d k. IsTrue ((seating_of p).fits d k)) c hops last (route_fits p q c hops last route) d) [
          | inl s ↦ subst (λ (o : Option ℕ). IfSome o (λ h. IsTrue ((seating_of p).fits d h))) (sym s ∙ e)
              (lawful.fitting d)
          | inr w ↦ subst (λ (o : Option ℕ). IfSome o (λ h. IsTrue ((seating_of p).fits d h))) (sym w.1 ∙ e) w.2
        ]

    some_fits : (d : ℕ) (o : Option ℕ) → augmented (seating_of p) q c hops last d ≡ o → IsSome o → d < length p.fit
    some_fits d None e s = absurd (let z : false ≡ true = s in cc)
    some_fits d (Some h) e s = fits_member p d h (fits_moved d (Some h) e)

    lawful-left : IsLawful (seating_of p) (left_out x (augmented (seating_of p) q c hops last))
    lawful-left = record {
      members = λ d s. elim (cases d) [
        | inl e ↦ absurd (let z : false ≡ true = sym (ap is_some e) ∙ s in cc)
        | inr e ↦ below-member (length p.fit) d
            (some_fits d (augmented (seating_of p) q c hops last d) refl (sym (ap is_some e) ∙ s))
      ];
      fitting = λ d. elim (cases d) [
        | inl e ↦ subst (λ (o : Option ℕ). IfSome o (λ h. IsTrue ((seating_of p).fits d h))) (sym e) tt
        | inr e ↦ subst (λ (o : Option ℕ). IfSome o (λ h. IsTrue ((seating_of p).fits d h))) (sym e)
            (fits_moved d (augmented (seating_of p) q c hops last d) refl)
      ];
      within_desks = λ h. (let a = length-occupants p (left_out x (augmented (seating_of p) q c hops last)) h in
          let b = length-occupants p q h in
          let e = same_count (sits_at h) refl in
          let w : length (occupants (seating_of p) q h) ≤ get_or p.desk_counts h 0 =
          lawful.within_desks h in omega (arith, a, b, e, w));
    }

    size-left : size (seating_of p) (left_out x (augmented (seating_of p) q c hops last)) ≡ size (seating_of p) q
    size-left = size-count p (left_out x (augmented (seating_of p) q c hops last)) ∙ same_count is_some refl
        ∙ sym (size-count p q)

    pub contested_by_route : IsBest (seating_of p) q → (r : Plan ℕ ℕ) × IsBest (seating_of p) r × (r x ≡ None)
    contested_by_route best = (
      left_out x (augmented (seating_of p) q c hops last),
      record {
        lawful = lawful-left;
        greatest = λ other l. (let g = best.greatest other l in let e = size-left in omega (arith, g, e));
      },
      ap (λ t. cond t None (augmented (seating_of p) q c hops last x)) (eq-eqb x x refl),
    )

-- ---- the search's closed set

module _ (p : Problem) (good : IsProblem p) (q : Plan ℕ ℕ) (best : IsBest (seating_of p) q) (marks : ℕ → Bool)
    (drawn : (h : ℕ) → IsMarked marks h → (j : ℕ) × Draws p q j h)
    (closed : (c h : ℕ) → IsTrue (is_drawn marks (q c)) → IsTrue ((seating_of p).fits c h) → IsMarked marks h) where
  marked_full : (h : ℕ) → IsMarked marks h → HasFreeDesk (seating_of p) q h → ⊥
  marked_full h m free =
      let d = drawn h m in
      let r = routed p q d.0 h d.1 in
      let l = lawful-moved p q best.lawful r.0 r.2 r.1 h r.3 r.4 free in
      let s = size-moved p q best.lawful r.0 r.2 r.1 h r.3 r.4 in
      let g = best.greatest (augmented (seating_of p) q r.0 r.1 h) l in omega (arith, s, g)

  same_drawn : (o : Option ℕ) → is_drawn marks o ≡ drawn_in marks o
  same_drawn None = refl
  same_drawn (Some h) = refl

  pub closed_set : IsClosedSet p q marks
  closed_set = record {
    full = λ h l t. elim (cases_lt (length (occupants (seating_of p) q h)) (get_or p.desk_counts h 0)) [
      | inl free ↦ absurd (marked_full h t free)
      | inr k ↦ k
    ];
    stays = λ c k t fit. closed c k (same_drawn (q c) ∙ t) fit;
  }

  draws_marked : (j h : ℕ) → Draws p q j h → IsMarked marks h
  draws_marked zero h d = absurd d
  draws_marked (suc j) h (c, inl e, fit) = closed c h (ap (is_drawn marks) e) fit
  draws_marked (suc j) h (c, inr (k, sits, d), fit) = closed c h (ap (is_drawn marks) sits ∙ draws_marked j k d) fit

  fitted : (h : ℕ) → IsMarked marks h → (c : ℕ) × IsTrue (is_drawn marks (q c)) × IsTrue ((seating_of p).fits c h)
  fitted h m = let d = drawn h m in at d.0 d.1
    where
      at : (j : ℕ) → Draws p q j h → (c : ℕ) × IsTrue (is_drawn marks (q c)) × IsTrue ((seating_of p).fits c h)
      at zero d = absurd d
      at (suc j) (c, inl e, fit) = (c, ap (is_drawn marks) e, fit)
      at (suc j) (c, inr (k, sits, d), fit) = (c, ap (is_drawn marks) sits ∙ draws_marked j k d, fit)

  drawn_bits : (o : Option ℕ) → bit (is_none o) + bit (sits_within marks o) ≡ bit (is_drawn marks o)
  drawn_bits None = refl
  drawn_bits (Some h) = zero-add (bit (marks h))

  module _ (xs hs : List ℕ) (xs_is : xs ≡ filter (λ c. is_drawn marks (q c)) (range_with_len 0 (length p.fit)))
      (hs_is : hs ≡ filter marks (range_with_len 0 (length p.desk_counts))) where
    in_xs : (c : ℕ) → Contains xs c → (c < length p.fit) × IsTrue (is_drawn marks (q c))
    in_xs c m = passing (λ d. is_drawn marks (q d)) (length p.fit) c (subst (λ (ys : List ℕ). Contains ys c) xs_is m)

    xs_has : (c : ℕ) → c < length p.fit → IsTrue (is_drawn marks (q c)) → Contains xs c
    xs_has c l d = subst (λ (ys : List ℕ). Contains ys c) (sym xs_is)
        (passes_in (λ d. is_drawn marks (q d)) (length p.fit) c l d)

    xs_excess : length xs ≡ sum_by (seating_of p).desks hs + length (unseated (seating_of p) q)
    xs_excess =
        let a : length xs ≡ count_below (λ c. is_drawn marks (q c)) (length p.fit) =
        ap length xs_is ∙ length-filter (λ c. is_drawn marks (q c)) (range_with_len 0 (length p.fit))
        ∙ count_by-range (λ c. is_drawn marks (q c)) (length p.fit) in
        let b = count_below-add (λ c. is_none (q c)) (λ c. sits_within marks (q c)) (λ c. is_drawn marks (q c))
        (length p.fit) (λ c l. drawn_bits (q c)) in
        let s = set_desks p good q best.lawful marks closed_set in
        let f : sum_by (seating_of p).desks hs
        ≡ sum_below (λ h. get_or p.desk_counts h 0) marks (length p.desk_counts) =
        ap (sum_by (seating_of p).desks) hs_is
        ∙ sum_by-passing (λ h. get_or p.desk_counts h 0) marks (length p.desk_counts) in
        let u = length-unseated p q in
        omega (arith, a, b, s, f, u)

    pub is_certificate : IsCertificate (seating_of p) q xs hs
    is_certificate = record {
      members = λ k d l. below-member (length p.fit) (get_or xs k d)
          (in_xs (get_or xs k d) (All-contains_itself xs k d l)).0;
      rising = subst (IsStrictlySortedBy nat_cmp) (sym xs_is)
          (filter_sorted (λ c. is_drawn marks (q c)) (length p.fit));
      halls_rising = subst (IsStrictlySortedBy nat_cmp) (sym hs_is) (filter_sorted marks (length p.desk_counts));
      halls_of = λ h. (
        (λ m. let r = passing marks (length p.desk_counts) h (subst (λ (ys : List ℕ). Contains ys h) hs_is m) in
            let w = fitted h r.1 in
            (w.0, xs_has w.0 (fits_member p w.0 h w.2) w.1, w.2)),
        (λ w. subst (λ (ys : List ℕ). Contains ys h) (sym hs_is)
            (passes_in marks (length p.desk_counts) h (fits_below p good w.0 h w.2)
            (closed w.0 h (in_xs w.0 w.1).1 w.2))),
      );
      excess = xs_excess;
    }

    pub exactly_contested : (c : ℕ) → Contains xs c ↔ IsContested (seating_of p) c
    exactly_contested c = (
      (λ m. let r = in_xs c m in (below-member (length p.fit) c r.0, leaves c r.0 (q c) refl r.1)),
      (λ w. let l = member-below (length p.fit) c w.0 in elim (cases_Bool (is_drawn marks (q c))) [
        | inl t ↦ xs_has c l t
        | inr f ↦ absurd (let other = w.1.0 in let ob : IsBest (seating_of p) other = w.1.1 in
            let less = closed_is_greater p good q best.lawful marks closed_set other ob.lawful c l
            (sym (same_drawn (q c)) ∙ f) w.1.2 in
            let more = ob.greatest q best.lawful in omega (arith, less, more))
      ]),
    )
      where
        leaves : (c : ℕ) → c < length p.fit → (o : Option ℕ) → q c ≡ o → IsTrue (is_drawn marks (q c))
            → (r : Plan ℕ ℕ) × IsBest (seating_of p) r × (r c ≡ None)
        leaves c l None e t = (q, best, e)
        leaves c l (Some k) e t =
            let d = drawn k (sym (ap (is_drawn marks) e) ∙ t) in
            let r = routed p q d.0 k d.1 in
            contested_by_route p q best.lawful r.0 r.2 r.1 k r.3 r.4 c e l best
