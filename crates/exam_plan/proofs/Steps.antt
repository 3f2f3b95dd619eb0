-- The steps of the searches' loops.
use Rattle.exam_plan.proofs.Words.{All-get_or, cases_eq, cases_lt, cases_Bool, or_cases, or_left, or_right, and_parts}
use Rattle.exam_plan.proofs.Words.{and_from, eq-eqb, ne_eqb, get_or-set_same, get_or-set_other, get_or_past}
use Rattle.exam_plan.proofs.Words.{length-append, get_or_default, holds, Plan, occupants, HasFreeDesk, LeadsTo, Problem}
use Rattle.exam_plan.proofs.Words.{IsProblem, IsPlan, plan_at, seating_of, IsMarked, MarksAll, Reaches, CanReach}
use Rattle.exam_plan.proofs.Words.{AreInward, AreOnward, count_at}
use Rattle.std.proofs.Common.{◌≡◌, ◌≢◌, ℕ, zero, suc, ◌+◌, ◌<◌, ◌≤◌, ◌↔◌, Bool, true, false, not, ◌&&◌, ◌||◌, cond}
use Rattle.std.proofs.Common.{IsTrue, List, [], ◌∷◌, ◌++◌, length, get_or, set, Option, None, Some, IfSome, is_some}
use Rattle.std.proofs.Common.{nat_eq, ◌⊎◌, refl, sym, ap, ◌∙◌, inl, inr, subst, arith}
use Rattle.std.specs.Prelude.{All, MatchOption}
use Rattle.std.proofs.lemmas.List.Elements.{All-set}
use Rattle.std.specs.Option.{option_map_or}
use Rattle.exam_plan.specs.Searches.{IsTouching, AreLayers, IsLeastHall, IsLeastMover, IsAdvanced}
use Rattle.exam_plan.proofs.Counting.{bit, count_below, count_below-same, count_by-range, count_below-more}
use Rattle.exam_plan.proofs.Counting.{count_below-lt, count_below-le-bound, sits_at, bit_le}
use Rattle.exam_plan.proofs.Seatings.{fits_below}

-- ---- reading a plan

pub plan_at-get_or : (m : List (Option ℕ)) (c : ℕ) → plan_at m c ≡ get_or m c None
plan_at-get_or [] c = refl
plan_at-get_or (o ∷ m) zero = refl
plan_at-get_or (o ∷ m) (suc c) = plan_at-get_or m c

pub plan_at-set : (m : List (Option ℕ)) (c d : ℕ) (o : Option ℕ) → c < length m
    → plan_at (set m c o) d ≡ cond (nat_eq c d) o (plan_at m d)
plan_at-set m c d o below = plan_at-get_or (set m c o) d ∙ elim (cases_eq c d) [
  | inl e ↦ ap (λ t. get_or (set m c o) t None) (sym e) ∙ get_or-set_same m c o None below
      ∙ sym (ap (λ t. cond t o (plan_at m d)) (eq-eqb c d e))
  | inr n ↦ (let away : d ≢ c = λ z. n (sym z) in
      let e : get_or (set m c o) d None ≡ get_or m d None = rw get_or-set_other refl in
      e ∙ sym (plan_at-get_or m d) ∙ sym (ap (λ t. cond t o (plan_at m d)) (ne_eqb c d n)))
]

-- ---- counts

sits_same : (h : ℕ) (o : Option ℕ) → bit (option_map_or (nat_eq h) o false) ≡ bit (sits_at h o)
sits_same h None = refl
sits_same h (Some k) = refl

pub count_at-below : (q : Plan ℕ ℕ) (h n : ℕ) → count_at q h n ≡ count_below (λ c. sits_at h (q c)) n
count_at-below q h n =
    count_by-range (λ c. option_map_or (nat_eq h) (q c) false) n
    ∙ count_below-same _ (λ c. sits_at h (q c)) n (λ c l. sits_same h (q c))

pub count_at-le : (q : Plan ℕ ℕ) (h n : ℕ) → count_at q h n ≤ n
count_at-le q h n = let e = count_at-below q h n in let f =
    count_below-le-bound (λ c. sits_at h (q c)) n in omega (arith, e, f)

pub count_at-more : (q : Plan ℕ ℕ) (h n : ℕ) → count_at q h (n + 1) ≡ count_at q h n + bit (sits_at h (q n))
count_at-more q h n = let a = count_at-below q h (n + 1) in let b = count_at-below q h n in let e =
    count_below-more (λ c. sits_at h (q c)) n in omega (arith, a, b, e)

-- a count a hall, once one more is counted in the hall k
pub one_counted : (halls k x : ℕ) (counts : List ℕ) (before after : ℕ → ℕ) → halls ≤ length counts
    → ((h : ℕ) → h < halls → get_or counts h 0 ≡ before h)
    → ((h : ℕ) → after h ≡ before h + bit (nat_eq h k)) → x ≡ get_or counts k x → (h : ℕ) → h < halls
    → get_or (set counts k (x + 1)) h 0 ≡ after h
one_counted halls k x counts before after long counted more read h below =
    let step = more h in
    let was = counted h below in
    elim (cases_eq h k) [
      | inl e ↦ (let inside : k < length counts = omega arith in
          let new : get_or (set counts k (x + 1)) h 0 ≡ x + 1 =
          ap (λ t. get_or (set counts k (x + 1)) t 0) e ∙ get_or-set_same counts k (x + 1) 0 inside in
          let one : bit (nat_eq h k) ≡ 1 = ap bit (eq-eqb h k e) in
          let old : get_or counts h 0 ≡ x =
          ap (λ t. get_or counts t 0) e ∙ get_or_default counts k 0 x inside ∙ sym read in
          omega (arith, step, was, new, one, old))
      | inr n ↦ (let new : get_or (set counts k (x + 1)) h 0 ≡ get_or counts h 0 = rw get_or-set_other refl in
          let none : bit (nat_eq h k) ≡ 0 = ap bit (ne_eqb h k n) in
          omega (arith, step, was, new, none))
    ]

-- a count a hall of the candidates met so far, and one more of them who sits somewhere, or nowhere
module _ (q : Plan ℕ ℕ) (halls i : ℕ) (counts : List ℕ)
    (counted : (h : ℕ) → h < halls → get_or counts h 0 ≡ count_at q h i) where
  pub met_some : (k x : ℕ) → halls ≤ length counts → q i ≡ Some k → x ≡ get_or counts k x → (h : ℕ) → h < halls
      → get_or (set counts k (x + 1)) h 0 ≡ count_at q h (i + 1)
  met_some k x long sits = one_counted halls k x counts (λ h. count_at q h i) (λ h. count_at q h (i + 1)) long counted
      (λ h. count_at-more q h i ∙ ap (λ o. count_at q h i + bit (sits_at h o)) sits)

  pub met_none : q i ≡ None → (h : ℕ) → h < halls → get_or counts h 0 ≡ count_at q h (i + 1)
  met_none sits h below =
      let more = count_at-more q h i in
      let b : bit (sits_at h (q i)) ≡ 0 = ap (λ o. bit (sits_at h o)) sits in
      omega (arith, more, b, counted h below)

-- ---- places

pub place_below : (m : List (Option ℕ)) (n i k : ℕ) → All (λ place. IfSome place (λ h. h < n)) m → i < length m
    → get_or m i None ≡ Some k → k < n
place_below m n i k all below here =
    subst (λ (o : Option ℕ). IfSome o (λ h. h < n)) here
    (All-get_or (λ (o : Option ℕ). IfSome o (λ h. h < n)) m i None below all)

pub length_push : {X : Type 0} (xs : List X) (x : X) (i : ℕ) → length xs ≡ i → length (xs ++ x ∷ []) ≡ i + 1
length_push xs x i e = let long : length (xs ++ x ∷ []) ≡ length xs + length (x ∷ []) =
    length-append xs (x ∷ []) in let one : length (x ∷ []) ≡ 1 = refl in omega (arith, long, one, e)

pub places_set : (m : List (Option ℕ)) (n c h : ℕ) → All (λ place. IfSome place (λ k. k < n)) m → h < n
    → All (λ place. IfSome place (λ k. k < n)) (set m c (Some h))
places_set m n c h all below = All-set (λ (o : Option ℕ). IfSome o (λ k. k < n)) m c (Some h) below all

-- who sits, sits in a hall that exists
pub sits_below : (p : Problem) (m : List (Option ℕ)) → IsPlan p m → (d h : ℕ) → plan_at m d ≡ Some h
    → h < length p.desk_counts
sits_below p m plan d h sits = elim (cases_lt d (length m)) [
  | inl l ↦ place_below m (length p.desk_counts) d h plan.exist l (sym (plan_at-get_or m d) ∙ sits)
  | inr g ↦ absurd (let z : None ≡ Some h = sym (get_or_past m d None g) ∙ sym (plan_at-get_or m d) ∙ sits in cc)
]

-- what was found, or that nothing was
pub first_none : (o : Option ℕ) (N : Type 0) (S : ℕ → Type 0) → MatchOption o N S → is_some o ≡ false → N
first_none None N S m e = m
first_none (Some h) N S m e = cc

pub first_some : (o : Option ℕ) (N : Type 0) (S : ℕ → Type 0) → MatchOption o N S → is_some o ≡ true → (h : ℕ) × S h
first_some None N S m e = cc
first_some (Some h) N S m e = (h, m)

-- ---- sets

-- where a set holds no hall that another lacks, it is within the other
pub within_other : (a b rest : ℕ) → ((h : ℕ) → holds rest h ≡ holds a h && not (holds b h))
    → ((h : ℕ) → holds rest h ≡ false) → (h : ℕ) → holds a h ≡ true → holds b h ≡ true
within_other a b rest is none h held = at (holds b h) refl
  where
    at : (t : Bool) → holds b h ≡ t → holds b h ≡ true
    at true e = e
    at false e = let z : true ≡ false = sym (ap (λ s. s && not (holds b h)) held ∙ ap not e) ∙ sym (is h) ∙ none h in cc

-- a hall of what one set has beyond another
pub beyond : (a b rest h : ℕ) → holds rest h ≡ holds a h && not (holds b h) → holds rest h ≡ true
    → (holds a h ≡ true) × (holds b h ≡ false)
beyond a b rest h is held = at (holds a h) (holds b h) (sym is ∙ held)
  where
    at : (x y : Bool) → x && not y ≡ true → (x ≡ true) × (y ≡ false)
    at true false e = (refl, refl)
    at true true e = cc
    at false y e = cc

-- a set that has all halls of another and one more has more of them
pub holds_more : (a b n k : ℕ) → ((h : ℕ) → holds a h ≡ true → holds b h ≡ true) → k < n → holds b k ≡ true
    → holds a k ≡ false → count_below (holds a) n < count_below (holds b) n
holds_more a b n k wider below held away =
    let one : bit (holds b k) ≡ 1 = ap bit held in
    let none : bit (holds a k) ≡ 0 = ap bit away in
    count_below-lt (holds a) (holds b) n k (λ h l. bit_le (holds a h) (holds b h) (wider h)) below (omega arith)

-- ---- a candidate's row

module _ (p : Problem) (c row : ℕ) (fits : (h : ℕ) → holds row h ≡ (seating_of p).fits c h) where
  pub touch_test : (marked : ℕ) (r : Bool) → ((r ≡ true) ↔ ((h : ℕ) × (holds row h ≡ true) × (holds marked h ≡ true)))
      → (r ≡ true) ↔ IsTouching p (holds marked) c
  touch_test marked r told = (
    (λ t. let w = told.0 t in (w.0, sym (fits w.0) ∙ w.1, w.2)),
    (λ w. told.1 (w.0, fits w.0 ∙ w.1, w.2)),
  )

-- ---- steps over the halls

-- a set without one of its halls
module _ (rest k less : ℕ) (is : (h : ℕ) → holds less h ≡ cond (nat_eq h k) false (holds rest h)) where
  pub one_gone : holds less k ≡ false
  one_gone = is k ∙ ap (λ t. cond t false (holds rest k)) (eq-eqb k k refl)

  pub others_stay : (h : ℕ) → h ≢ k → holds less h ≡ holds rest h
  others_stay h away = is h ∙ ap (λ t. cond t false (holds rest h)) (ne_eqb h k away)

  pub less_within : (h : ℕ) → holds less h ≡ true → holds rest h ≡ true
  less_within h t = elim (cases_eq h k) [
    | inl e ↦ absurd (let z : false ≡ true = sym one_gone ∙ ap (holds less) (sym e) ∙ t in cc)
    | inr away ↦ sym (others_stay h away) ∙ t
  ]

  pub one_fewer : (n : ℕ) → k < n → holds rest k ≡ true → count_below (holds less) n < count_below (holds rest) n
  one_fewer n below held = holds_more less rest n k less_within below held one_gone

-- the halls that a set has, and those of the sets of the fresh halls that are no longer to come
abbrev pub IsUnited : List ℕ → ℕ → ℕ → ℕ → ℕ → Type 0
IsUnited sets marked fresh rest next = (h : ℕ)
    → IsMarked (holds next) h ↔
    (IsMarked (holds marked) h
    ⊎ ((k : ℕ) × IsMarked (holds fresh) k × (holds rest k ≡ false) × IsMarked (holds (get_or sets k 0)) h))

pub united_more : (sets : List ℕ) (marked fresh rest next k one more less : ℕ) → IsUnited sets marked fresh rest next
    → IsMarked (holds fresh) k → one ≡ get_or sets k 0 → ((h : ℕ) → holds more h ≡ holds next h || holds one h)
    → ((h : ℕ) → holds less h ≡ cond (nat_eq h k) false (holds rest h)) → IsUnited sets marked fresh less more
united_more sets marked fresh rest next k one more less w held read union gone h = (
  (λ t. elim (or_cases (holds next h) (holds one h) (sym (union h) ∙ t)) [
    | inl n ↦ elim ((w h).0 n) [
      | inl a ↦ inl a
      | inr d ↦ inr (d.0, d.1, still_gone d.0 d.2, d.3)
    ]
    | inr o ↦ inr (k, held, one_gone rest k less gone, ap (λ s. holds s h) (sym read) ∙ o)
  ]),
  (λ s. union h ∙ elim s [
    | inl a ↦ or_left (holds next h) (holds one h) ((w h).1 (inl a))
    | inr d ↦ elim (cases_eq d.0 k) [
      | inl e ↦ or_right (holds next h) (holds one h)
          (ap (λ s. holds s h) read ∙ ap (λ j. holds (get_or sets j 0) h) (sym e) ∙ d.3)
      | inr away ↦ or_left (holds next h) (holds one h)
          ((w h).1 (inr (d.0, d.1, sym (others_stay rest k less gone d.0 away) ∙ d.2, d.3)))
    ]
  ]),
)
  where
    still_gone : (j : ℕ) → holds rest j ≡ false → holds less j ≡ false
    still_gone j f = elim (cases_eq j k) [
      | inl e ↦ ap (holds less) e ∙ one_gone rest k less gone
      | inr away ↦ others_stay rest k less gone j away ∙ f
    ]

pub united_none : (sets : List ℕ) (marked fresh : ℕ) → IsUnited sets marked fresh fresh marked
united_none sets marked fresh h = (
  (λ t. inl t),
  (λ s. elim s [ inl a ↦ a | inr d ↦ absurd (let z : true ≡ false = sym d.1 ∙ d.2 in cc) ]),
)

pub united_all : (sets : List ℕ) (marked fresh rest next : ℕ) → ((h : ℕ) → holds rest h ≡ false)
    → IsUnited sets marked fresh rest next
    → (h : ℕ) → IsMarked (holds next) h ↔
    (IsMarked (holds marked) h ⊎ ((k : ℕ) × IsMarked (holds fresh) k × IsMarked (holds (get_or sets k 0)) h))
united_all sets marked fresh rest next none w h = (
  (λ t. elim ((w h).0 t) [ inl a ↦ inl a | inr d ↦ inr (d.0, d.1, d.3) ]),
  (λ s. (w h).1 (elim s [ inl a ↦ inl a | inr d ↦ inr (d.0, d.1, none d.0, d.2) ])),
)

-- the halls that a set has, and those of the sets of its fresh halls
abbrev pub IsWidened : List ℕ → ℕ → ℕ → ℕ → Type 0
IsWidened sets marked fresh next = (h : ℕ)
    → IsMarked (holds next) h ↔
    (IsMarked (holds marked) h ⊎ ((k : ℕ) × IsMarked (holds fresh) k × IsMarked (holds (get_or sets k 0)) h))

-- fresh halls are of the set, and what the sets of its other halls have is in it
pub record IsFresh (sets : List ℕ) (marked fresh : ℕ) : Type 0 where
  pub within : (k : ℕ) → IsMarked (holds fresh) k → IsMarked (holds marked) k
  pub settled : (k h : ℕ) → IsMarked (holds marked) k → holds fresh k ≡ false → IsMarked (holds (get_or sets k 0)) h
      → IsMarked (holds marked) h

pub next_fresh : (sets : List ℕ) (marked fresh next after : ℕ) → IsFresh sets marked fresh
    → IsWidened sets marked fresh next → ((h : ℕ) → holds after h ≡ holds next h && not (holds marked h))
    → IsFresh sets next after
next_fresh sets marked fresh next after was wide is = record {
  within = λ k t. (beyond next marked after k (is k) t).0;
  settled = λ k h t f m. elim (cases_Bool (holds marked k)) [
    | inl a ↦ elim (cases_Bool (holds fresh k)) [
      | inl b ↦ (wide h).1 (inr (k, b, m))
      | inr b ↦ (wide h).1 (inl (was.settled k h a b m))
    ]
    | inr a ↦ absurd (let z : true ≡ false = sym (is k ∙ and_from (holds next k) (not (holds marked k)) t (ap not a))
        ∙ f in cc)
  ];
}

-- ---- layers

module _ (p : Problem) (q : Plan ℕ ℕ) where
  -- a set of what one more hop reaches
  abbrev pub IsNext : (ℕ → Bool) → (ℕ → Bool) → Type 0
  IsNext marks next = MarksAll next (λ h. IsMarked marks h ⊎ ((d : ℕ) × (q d ≡ Some h) × IsTouching p marks d))

  widened_next : (sets : List ℕ) (marked fresh next : ℕ) → AreInward p q sets
      → ((k : ℕ) → IsMarked (holds marked) k → k < length p.desk_counts) → IsFresh sets marked fresh
      → IsWidened sets marked fresh next → IsNext (holds marked) (holds next)
  widened_next sets marked fresh next inward exist was w h = (
    (λ t. elim ((w h).0 t) [
      | inl a ↦ inl a
      | inr d ↦ inr (let m = was.within d.0 d.1 in let o = (inward h d.0 (exist d.0 m)).0 d.2 in
          (o.0, o.1, (d.0, o.2, m)))
    ]),
    (λ s. elim s [
      | inl a ↦ (w h).1 (inl a)
      | inr d ↦ (let m = (inward h d.2.0 (exist d.2.0 d.2.2)).1 (d.0, d.1, d.2.1) in
          elim (cases_Bool (holds fresh d.2.0)) [
            | inl b ↦ (w h).1 (inr (d.2.0, b, m))
            | inr b ↦ (w h).1 (inl (was.settled d.2.0 h d.2.2 b m))
          ])
    ]),
  )

  pub touching_reach : (marks : ℕ → Bool) (j c : ℕ) → MarksAll marks (Reaches p q j) → IsTouching p marks c
      → CanReach p q j c
  touching_reach marks j c layer t = (t.0, t.1, (layer t.0).0 t.2)

  pub reach_touching : (marks : ℕ → Bool) (j c : ℕ) → MarksAll marks (Reaches p q j) → CanReach p q j c
      → IsTouching p marks c
  reach_touching marks j c layer t = (t.0, t.1, (layer t.0).1 t.2)

  pub next_layer : (marks next : ℕ → Bool) (j n : ℕ) → MarksAll marks (Reaches p q j) → IsNext marks next → n ≡ suc j
      → MarksAll next (Reaches p q n)
  next_layer marks next j n layer wide e = subst (λ (z : ℕ). MarksAll next (Reaches p q z)) (sym e)
      (λ h. (
        (λ t. elim ((wide h).0 t)
            [ inl a ↦ inl ((layer h).0 a) | inr d ↦ inr (d.0, d.1, touching_reach marks j d.0 layer d.2) ]),
        (λ r. (wide h).1 (elim r
            [ inl a ↦ inl ((layer h).1 a) | inr d ↦ inr (d.0, d.1, reach_touching marks j d.0 layer d.2) ])),
      ))

  pub layers_set : (layers : List ℕ) (n last m : ℕ) → AreLayers p q n layers → n < length layers
      → MarksAll (holds last) (Reaches p q n) → m ≡ n + 1 → AreLayers p q m (set layers n last)
  layers_set layers n last m are room layer more j below = elim (cases_lt j n) [
    | inl l ↦ (let away : j ≢ n = λ e. absurd (omega arith) in
        let at : get_or (set layers n last) j 0 ≡ get_or layers j 0 = rw get_or-set_other refl in
        subst (λ (s : ℕ). MarksAll (holds s) (Reaches p q j)) (sym at) (are j l))
    | inr g ↦ (let e : j ≡ n = omega arith in
        let at : get_or (set layers n last) j 0 ≡ last =
        ap (λ t. get_or (set layers n last) t 0) e ∙ get_or-set_same layers n last 0 room in
        subst (λ (s : ℕ). MarksAll (holds s) (Reaches p q j)) (sym at)
        (subst (λ (z : ℕ). MarksAll (holds last) (Reaches p q z)) (sym e) layer))
  ]

  pub far_push : (n m c : ℕ) → m ≡ n + 1 → ((j : ℕ) → j < n → CanReach p q j c → ⊥) → (CanReach p q n c → ⊥) → (j : ℕ)
      → j < m → CanReach p q j c → ⊥
  far_push n m c e far here j l r = elim (cases_lt j n) [
    | inl k ↦ far j k r
    | inr g ↦ here (let s : j ≡ n = omega arith in subst (λ (z : ℕ). CanReach p q z c) s r)
  ]

  free_reaches : (j h : ℕ) → HasFreeDesk (seating_of p) q h → Reaches p q j h
  free_reaches zero h free = free
  free_reaches (suc j) h free = inl (free_reaches j h free)

  pub reaches_below : ((d h : ℕ) → q d ≡ Some h → h < length p.desk_counts) → (j h : ℕ) → Reaches p q j h
      → h < length p.desk_counts
  reaches_below exist zero h free = elim (cases_lt h (length p.desk_counts)) [
    | inl l ↦ l
    | inr g ↦ absurd (let z : get_or p.desk_counts h 0 ≡ 0 = get_or_past p.desk_counts h 0 g in
        let f : length (occupants (seating_of p) q h) < get_or p.desk_counts h 0 = free in omega (arith, z, f))
  ]
  reaches_below exist (suc j) h (inl r) = reaches_below exist j h r
  reaches_below exist (suc j) h (inr d) = exist d.0 h d.1

  pub layer_below : ((d h : ℕ) → q d ≡ Some h → h < length p.desk_counts) → (marks : ℕ → Bool) (j : ℕ)
      → MarksAll marks (Reaches p q j) → (k : ℕ) → IsMarked marks k → k < length p.desk_counts
  layer_below exist marks j layer k m = reaches_below exist j k ((layer k).0 m)

  pub next_of : ((d h : ℕ) → q d ≡ Some h → h < length p.desk_counts) → (sets : List ℕ) (reached fresh next j : ℕ)
      → AreInward p q sets → MarksAll (holds reached) (Reaches p q j) → IsFresh sets reached fresh
      → IsWidened sets reached fresh next
      → IsNext (holds reached) (holds next)
  next_of exist sets reached fresh next j inward layer was w =
      widened_next sets reached fresh next inward (layer_below exist (holds reached) j layer) was w

  -- a further hop widens by a hall that exists
  pub layer_grows : ((d h : ℕ) → q d ≡ Some h → h < length p.desk_counts) → (reached next rest j : ℕ)
      → MarksAll (holds reached) (Reaches p q j) → IsNext (holds reached) (holds next)
      → ((h : ℕ) → holds rest h ≡ holds next h && not (holds reached h)) → (k : ℕ) → holds rest k ≡ true
      → count_below (holds reached) (length p.desk_counts) < count_below (holds next) (length p.desk_counts)
  layer_grows exist reached next rest j layer wide is k held =
      let parts = beyond next reached rest k (is k) held in
      holds_more reached next (length p.desk_counts) k (λ h t. (wide h).1 (inl t))
      (elim ((wide k).0 parts.0) [ inl a ↦ reaches_below exist j k ((layer k).0 a) | inr d ↦ exist d.0 k d.1 ]) parts.0
      parts.1

  -- where no further hop widens a set that does not touch the candidate, the candidate leads to no free desk
  pub leads_nowhere : (marks next : ℕ → Bool) (j c : ℕ) → MarksAll marks (Reaches p q j) → IsNext marks next
      → ((h : ℕ) → next h ≡ true → marks h ≡ true) → (IsTouching p marks c → ⊥)
      → (i h : ℕ) → LeadsTo (seating_of p) q c i h → HasFreeDesk (seating_of p) q h → ⊥
  leads_nowhere marks next j c layer wide same away i h leads free =
      avoid i h leads ((layer h).1 (free_reaches j h free))
    where
      avoid : (i h : ℕ) → LeadsTo (seating_of p) q c i h → IsMarked marks h → ⊥
      avoid zero h fit m = away (h, fit, m)
      avoid (suc i) h (k, lead, d) m = avoid i k lead (same k ((wide k).1 (inr (d.0, d.1, (h, d.2, m)))))

-- ---- to which halls a candidate leads

module _ (p : Problem) (q : Plan ℕ ℕ) (c : ℕ) where
  pub leads_below : IsProblem p → (j h : ℕ) → LeadsTo (seating_of p) q c j h → h < length p.desk_counts
  leads_below good zero h fit = fits_below p good c h fit
  leads_below good (suc j) h (k, lead, d) = fits_below p good d.0 h d.2

  -- what halls of the set that are not fresh lead to is in it, or dead
  abbrev pub IsFollowed : ℕ → ℕ → ℕ → Type 0
  IsFollowed led fresh dead =
      (d h k : ℕ) → q d ≡ Some h → IsMarked (holds led) h → holds fresh h ≡ false → IsTrue ((seating_of p).fits d k)
      → IsMarked (holds led) k ⊎ IsMarked (holds dead) k

  module _ (sets : List ℕ) (onward : AreOnward p q sets) (dead led fresh next more rest : ℕ) (good : IsProblem p)
      (apart : (h : ℕ) → IsMarked (holds led) h → IsMarked (holds dead) h → ⊥)
      (leads : (h : ℕ) → IsMarked (holds led) h → (j : ℕ) × LeadsTo (seating_of p) q c j h)
      (within : (h : ℕ) → IsMarked (holds fresh) h → IsMarked (holds led) h) (followed : IsFollowed led fresh dead)
      (widens : IsWidened sets led fresh next) (more_is : (h : ℕ) → holds more h ≡ holds next h && not (holds dead h))
      (rest_is : (h : ℕ) → holds rest h ≡ holds more h && not (holds led h)) where
    next_or_dead : (h : ℕ) → IsMarked (holds next) h → IsMarked (holds more) h ⊎ IsMarked (holds dead) h
    next_or_dead h t = at (holds dead h) refl
      where
        at : (b : Bool) → holds dead h ≡ b → IsMarked (holds more) h ⊎ IsMarked (holds dead) h
        at true e = inr e
        at false e = inl (more_is h ∙ and_from (holds next h) (not (holds dead h)) t (ap not e))

    still_led : (h : ℕ) → IsMarked (holds led) h → IsMarked (holds more) h
    still_led h t = elim (next_or_dead h ((widens h).1 (inl t))) [ inl m ↦ m | inr d ↦ absurd (apart h t d) ]

    pub more_apart : (h : ℕ) → IsMarked (holds more) h → IsMarked (holds dead) h → ⊥
    more_apart h m d = let b = beyond next dead more h (more_is h) m in let z : true ≡ false = sym d ∙ b.1 in cc

    pub more_leads : (h : ℕ) → IsMarked (holds more) h → (j : ℕ) × LeadsTo (seating_of p) q c j h
    more_leads h m = elim ((widens h).0 (beyond next dead more h (more_is h) m).0) [
      | inl t ↦ leads h t
      | inr w ↦ (let r = leads w.0 (within w.0 w.1) in let o = (onward w.0 h (leads_below good r.0 w.0 r.1)).0 w.2 in
          (suc r.0, (w.0, r.1, o)))
    ]

    pub more_fits : ((h : ℕ) → IsTrue ((seating_of p).fits c h) → IsMarked (holds led) h ⊎ IsMarked (holds dead) h)
        → (h : ℕ) → IsTrue ((seating_of p).fits c h) → IsMarked (holds more) h ⊎ IsMarked (holds dead) h
    more_fits fitting h f = elim (fitting h f) [ inl t ↦ inl (still_led h t) | inr d ↦ inr d ]

    pub more_grows : (k : ℕ) → holds rest k ≡ true
        → count_below (holds led) (length p.desk_counts) < count_below (holds more) (length p.desk_counts)
    more_grows k held =
        let b = beyond more led rest k (rest_is k) held in
        let r = more_leads k b.0 in
        holds_more led more (length p.desk_counts) k still_led (leads_below good r.0 k r.1) b.0 b.1

    pub more_within : (h : ℕ) → IsMarked (holds rest) h → IsMarked (holds more) h
    more_within h t = (beyond more led rest h (rest_is h) t).0

    led_on : ((d h : ℕ) → q d ≡ Some h → h < length p.desk_counts)
        → (d h k : ℕ) → q d ≡ Some h → IsMarked (holds led) h → IsTrue ((seating_of p).fits d k)
        → IsMarked (holds more) k ⊎ IsMarked (holds dead) k
    led_on exist d h k sits t f = elim (cases_Bool (holds fresh h)) [
      | inl b ↦ next_or_dead k ((widens k).1 (inr (h, b, (onward h k (exist d h sits)).1 (d, sits, f))))
      | inr b ↦ elim (followed d h k sits t b f) [ inl m ↦ inl (still_led k m) | inr e ↦ inr e ]
    ]

    pub more_followed : ((d h : ℕ) → q d ≡ Some h → h < length p.desk_counts) → IsFollowed more rest dead
    more_followed exist d h k sits m none f = elim (cases_Bool (holds led h)) [
      | inl t ↦ led_on exist d h k sits t f
      | inr a ↦ absurd (let z : true ≡ false =
          sym (rest_is h ∙ and_from (holds more h) (not (holds led h)) m (ap not a)) ∙ none in cc)
    ]

    pub led_closed : ((h : ℕ) → holds rest h ≡ false) → ((d h : ℕ) → q d ≡ Some h → h < length p.desk_counts)
        → (d h k : ℕ) → q d ≡ Some h → IsMarked (holds led) h → IsTrue ((seating_of p).fits d k)
        → IsMarked (holds led) k ⊎ IsMarked (holds dead) k
    led_closed none exist d h k sits t f = elim (led_on exist d h k sits t f) [
      | inl m ↦ inl (within_other more led rest rest_is none k m)
      | inr e ↦ inr e
    ]

-- ---- moving along a chain

module _ (p : Problem) (q : Plan ℕ ℕ) where
  -- the layer that was read holds what it should
  pub layer_at : (layers : List ℕ) (n j v : ℕ) → AreLayers p q n layers → j < n → j < length layers
      → v ≡ get_or layers j v → MarksAll (holds v) (Reaches p q j)
  layer_at layers n j v are below inside read =
      subst (λ (z : ℕ). MarksAll (holds z) (Reaches p q j)) (get_or_default layers j 0 v inside ∙ sym read)
      (are j below)

  module _ (c row layer both j : ℕ) (fits : (h : ℕ) → holds row h ≡ (seating_of p).fits c h)
      (marks : MarksAll (holds layer) (Reaches p q j))
      (common : (h : ℕ) → holds both h ≡ holds row h && holds layer h) where
    -- the least hall of both is the least that fits and reaches
    pub hall_found : (h : ℕ) → holds both h ≡ true → ((k : ℕ) → holds both k ≡ true → h ≤ k) → IsLeastHall p q j c h
    hall_found h held least =
        let parts = and_parts (holds row h) (holds layer h) (sym (common h) ∙ held) in (
          sym (fits h) ∙ parts.0,
          (marks h).0 parts.1,
          λ k fit reach. least k (common k ∙ and_from (holds row k) (holds layer k) (fits k ∙ fit) ((marks k).1 reach)),
        )

  -- a full hall that reaches a free desk has someone who can move on
  pub mover_of : (j c h : ℕ) (s : ℕ → Bool) → MarksAll s (Reaches p q j) → IsLeastHall p q (suc j) c h
      → ((i : ℕ) → i < suc j → CanReach p q i c → ⊥) → (d : ℕ) × (q d ≡ Some h) × IsTouching p s d
  mover_of j c h s marks least far = elim least.1 [
    | inl r ↦ absurd (far j (omega arith) (h, least.0, r))
    | inr d ↦ (d.0, d.1, reach_touching p q s j d.0 marks d.2)
  ]

  pub mover_found : (j h d : ℕ) (s : ℕ → Bool) → MarksAll s (Reaches p q j) → q d ≡ Some h → IsTouching p s d
      → ((e : ℕ) → q e ≡ Some h → IsTouching p s e → d ≤ e) → IsLeastMover p q j h d
  mover_found j h d s marks sits touch least =
      (sits, touching_reach p q s j d marks touch, λ e also reach. least e also (reach_touching p q s j e marks reach))

  pub mover_far : (n j c h d : ℕ) → n ≡ suc j → IsTrue ((seating_of p).fits c h) → q d ≡ Some h
      → ((i : ℕ) → i < n → CanReach p q i c → ⊥) → (i : ℕ) → i < j → CanReach p q i d → ⊥
  mover_far n j c h d e fit sits far i l r = far (suc i) (omega arith) (h, fit, inr (d, sits, r))

  pub advanced_last : (m : List (Option ℕ)) (n c h : ℕ) → ((d : ℕ) → q d ≡ plan_at m d) → n ≡ 0 → c < length m
      → IsLeastHall p q n c h → IsAdvanced p q n c h (plan_at (set m c (Some h)))
  advanced_last m n c h whole e below least =
      subst (λ (z : ℕ). IsAdvanced p q z c h (plan_at (set m c (Some h)))) (sym e) (
        [],
        subst (λ (z : ℕ). IsLeastHall p q z c h) e least,
        λ d. plan_at-set m c d (Some h) below ∙ sym (ap (λ t. cond (nat_eq c d) (Some h) t) (whole d)),
      )

  pub advanced_more : (m : List (Option ℕ)) (n j c h d last : ℕ) → n ≡ suc j → c < length m → IsLeastHall p q n c h
      → IsLeastMover p q j h d → IsAdvanced p q j d last (plan_at m)
      → IsAdvanced p q n c last (plan_at (set m c (Some h)))
  advanced_more m n j c h d last e below least mover rest =
      subst (λ (z : ℕ). IsAdvanced p q z c last (plan_at (set m c (Some h)))) (sym e) (
        (h, d) ∷ rest.0,
        (subst (λ (z : ℕ). IsLeastHall p q z c h) e least, mover, rest.1),
        λ k. plan_at-set m c k (Some h) below ∙ ap (λ t. cond (nat_eq c k) (Some h) t) (rest.2 k),
      )
