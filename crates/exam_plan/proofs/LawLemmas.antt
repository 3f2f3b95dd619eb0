-- Laws of matchings that follow from the definitions.
use Rattle.exam_plan.proofs.Words.{list_any, IsStrictlySortedBy, nat_cmp, nat_cmp_total, nat_cmp-IsAntisymmetric}
use Rattle.exam_plan.proofs.Words.{cases_eq, eq-eqb, ne_eqb, lt-ltb, sum_by-cons, Plan, SamePlan, occupants, unseated}
use Rattle.exam_plan.proofs.Words.{size, IsLawful, IsBest, IsCertificate, Chain, IsChain, IsLeastChain, augmented}
use Rattle.exam_plan.proofs.Words.{where_fitting, fitting_part, lesser_occupants, where_room, kept_part, TurnFrom}
use Rattle.exam_plan.proofs.Words.{Sweeps, sweep_order, IsRepair, Problem, IsProblem, seating_of}
use Rattle.std.proofs.Common.{◌≡◌, ◌≢◌, ℕ, zero, suc, ◌+◌, ◌<◌, ◌≤◌, Bool, true, false, cond, ◌||◌, IsTrue, List, []}
use Rattle.std.proofs.Common.{◌∷◌, ◌++◌, map, length, get_or, Option, None, Some, is_some, is_none, nat_eq, refl, sym}
use Rattle.std.proofs.Common.{ap, ◌∙◌, inl, inr, subst, arith}
use Rattle.std.specs.Prelude.{All, AllPairs, sum_by}
use Rattle.std.proofs.lemmas.List.Elements.{All-head, All-tail}
use Rattle.exam_plan.proofs.Counting.{bit, count_below, count_below-same, count_below-add, count_below-point, sits_at}
use Rattle.exam_plan.proofs.Counting.{sits_within, count_below-reaches, count_below-none}
use Rattle.exam_plan.proofs.Seatings.{length-occupants, length-unseated, size-count, member-below}
use Rattle.exam_plan.proofs.Moves.{Avoids, AreDistinct, route_of, ends_free, lawful-moved, size-moved}
use Rattle.exam_plan.proofs.KeptLemmas.{lesser_count, fitting_stays}
use Rattle.exam_plan.proofs.Rising.{later_all, listed_in, in_listed}
use Rattle.exam_plan.proofs.LeastChains as least
use Rattle.exam_plan.proofs.Small.{value_at}

pub one_least_chain : (p : Problem) (q : Plan ℕ ℕ) (c : ℕ) (a b : Chain ℕ ℕ) → IsLeastChain (seating_of p) q c a
    → IsLeastChain (seating_of p) q c b → a ≡ b
one_least_chain p = least.least_chain_is_one
    (seating_of p) nat_cmp_total nat_cmp_total nat_cmp-IsAntisymmetric nat_cmp-IsAntisymmetric

-- ---- the repair of a best plan

avoids_all : (h : ℕ) (hops : List (ℕ × ℕ)) (last : ℕ)
    → All (λ k. h ≢ k) (map (λ (hop : ℕ × ℕ). hop.0) hops ++ last ∷ []) → Avoids h hops last
avoids_all h [] last a = All-head (λ k. h ≢ k) last [] a
avoids_all h (hop ∷ hops) last a = (
  All-head (λ k. h ≢ k) hop.0 (map (λ (hop : ℕ × ℕ). hop.0) hops ++ last ∷ []) a,
  avoids_all h hops last (All-tail (λ k. h ≢ k) hop.0 (map (λ (hop : ℕ × ℕ). hop.0) hops ++ last ∷ []) a),
)

pairs_head : (x : ℕ) (xs : List ℕ) → AllPairs (λ (h k : ℕ). h ≢ k) (x ∷ xs) → All (λ k. x ≢ k) xs
pairs_head x xs a k d l = a 0 (suc k) d (omega arith) (omega arith)

pairs_tail : (x : ℕ) (xs : List ℕ) → AllPairs (λ (h k : ℕ). h ≢ k) (x ∷ xs) → AllPairs (λ (h k : ℕ). h ≢ k) xs
pairs_tail x xs a i j d l m = a (suc i) (suc j) d (omega arith) (omega arith)

distinct_from : (hops : List (ℕ × ℕ)) (last : ℕ)
    → AllPairs (λ (h k : ℕ). h ≢ k) (map (λ (hop : ℕ × ℕ). hop.0) hops ++ last ∷ []) → AreDistinct hops last
distinct_from [] last a = tt
distinct_from (hop ∷ hops) last a = (
  avoids_all hop.0 hops last (pairs_head hop.0 (map (λ (hop : ℕ × ℕ). hop.0) hops ++ last ∷ []) a),
  distinct_from hops last (pairs_tail hop.0 (map (λ (hop : ℕ × ℕ). hop.0) hops ++ last ∷ []) a),
)

pub best_has_no_chain : (p : Problem) (q : Plan ℕ ℕ) → IsBest (seating_of p) q → (c : ℕ) → q c ≡ None
    → (chain : Chain ℕ ℕ) → IsChain (seating_of p) q c chain → ⊥
best_has_no_chain p q best c none chain is =
    let route = route_of p q c chain.hops chain.last is.leads in
    let distinct = distinct_from chain.hops chain.last is.distinct in
    let l = lawful-moved p q best.lawful c none chain.hops chain.last route distinct
    (ends_free p q c chain.hops chain.last is.leads) in
    let s = size-moved p q best.lawful c none chain.hops chain.last route distinct in
    let g = best.greatest (augmented (seating_of p) q c chain.hops chain.last) l in omega (arith, s, g)

fitting_all : (p : Problem) (q : Plan ℕ ℕ) → IsLawful (seating_of p) q → (c : ℕ) → fitting_part (seating_of p) q c ≡ q c
fitting_all p q lawful c = at (q c) refl
  where
    at : (o : Option ℕ) → q c ≡ o → where_fitting (seating_of p) c (q c) ≡ q c
    at None e = ap (where_fitting (seating_of p) c) e ∙ sym e
    at (Some h) e = ap (where_fitting (seating_of p) c) e
        ∙ fitting_stays p c h (member-below (length p.fit) c (lawful.members c (ap is_some e)))
        (value_at (λ k. IsTrue ((seating_of p).fits c k)) (q c) h e (lawful.fitting c)) ∙ sym e

room_all : (p : Problem) (q : Plan ℕ ℕ) → IsLawful (seating_of p) q → (c : ℕ)
    → where_room (seating_of p) q c (q c) ≡ q c
room_all p q lawful c = at (q c) refl
  where
    at : (o : Option ℕ) → q c ≡ o → where_room (seating_of p) q c (q c) ≡ q c
    at None e = ap (where_room (seating_of p) q c) e ∙ sym e
    at (Some h) e =
        let below : c < length p.fit = member-below (length p.fit) c (lawful.members c (ap is_some e)) in
        let lesser = lesser_count p q c h (omega arith) in
        let fewer = count_below-reaches (λ d. sits_at h (q d)) c (length p.fit) below
        (ap (sits_at h) e ∙ eq-eqb h h refl) in
        let all = length-occupants p q h in
        let within : length (occupants (seating_of p) q h) ≤ get_or p.desk_counts h 0 = lawful.within_desks h in
        ap (where_room (seating_of p) q c) e
        ∙ ap (λ b. cond b (Some h) None)
        (lt-ltb (lesser_occupants (seating_of p) q c h) (get_or p.desk_counts h 0)
        (omega (arith, lesser, fewer, all, within))) ∙ sym e

kept_all : (p : Problem) (q : Plan ℕ ℕ) → IsLawful (seating_of p) q → kept_part (seating_of p) q ≡ q
kept_all p q lawful =
    let fit : fitting_part (seating_of p) q ≡ q = λ i c. fitting_all p q lawful c i in
    ap (λ (r : Plan ℕ ℕ). λ c. where_room (seating_of p) r c (r c)) fit ∙ (λ i c. room_all p q lawful c i)

sweep_stays : (p : Problem) (q : Plan ℕ ℕ) → IsBest (seating_of p) q → (cs : List ℕ) (r : Plan ℕ ℕ)
    → Sweeps (seating_of p) q cs r → SamePlan r q
sweep_stays p q best [] r s = s
sweep_stays p q best (c ∷ cs) r s =
    let same : SamePlan s.0 q = turn (q c) refl s.1 in
    sweep_stays p q best cs r (subst (λ (m : Plan ℕ ℕ). Sweeps (seating_of p) m cs r) (λ i d. same d i) s.2)
  where
    turn : (o : Option ℕ) → q c ≡ o → TurnFrom (seating_of p) q c (q c) s.0 → SamePlan s.0 q
    turn (Some h) e t = subst (λ (o : Option ℕ). TurnFrom (seating_of p) q c o s.0) e t
    turn None e t = elim (subst (λ (o : Option ℕ). TurnFrom (seating_of p) q c o s.0) e t) [
      | inl w ↦ absurd (best_has_no_chain p q best c e w.0 w.1.is_chain)
      | inr w ↦ w.1
    ]

pub best_repaired : (p : Problem) (first : Option ℕ) (q r : Plan ℕ ℕ) → IsBest (seating_of p) q
    → IsRepair (seating_of p) first q r → SamePlan r q
best_repaired p first q r best s =
    sweep_stays p q best (sweep_order (seating_of p) first) r
    (subst (λ (m : Plan ℕ ℕ). Sweeps (seating_of p) m (sweep_order (seating_of p) first) r)
    (kept_all p q best.lawful) s)

sweeps_itself : (p : Problem) (q : Plan ℕ ℕ) → IsBest (seating_of p) q → (cs : List ℕ) → Sweeps (seating_of p) q cs q
sweeps_itself p q best [] = λ c. refl
sweeps_itself p q best (c ∷ cs) = (q, turn (q c) refl, sweeps_itself p q best cs)
  where
    turn : (o : Option ℕ) → q c ≡ o → TurnFrom (seating_of p) q c o q
    turn (Some h) e = λ d. refl
    turn None e = inr (best_has_no_chain p q best c e, λ d. refl)

-- a best plan is its own repair
pub best_is_repair : (p : Problem) (first : Option ℕ) (q : Plan ℕ ℕ) → IsBest (seating_of p) q
    → IsRepair (seating_of p) first q q
best_is_repair p first q best =
    subst (λ (m : Plan ℕ ℕ). Sweeps (seating_of p) m (sweep_order (seating_of p) first) q)
    (sym (kept_all p q best.lawful))
    (sweeps_itself p q best (sweep_order (seating_of p) first))

-- ---- a certificate shows that a plan is best

listed_count : (n : ℕ) (xs : List ℕ) → IsStrictlySortedBy nat_cmp xs → All (λ x. x < n) xs
    → length xs ≡ count_below (λ c. list_any (nat_eq c) xs) n
unfolding IsStrictlySortedBy
listed_count n [] s a = sym (count_below-none (λ c. false) n (λ c. refl))
listed_count n (x ∷ xs) s a =
    let rest = listed_count n xs s.1 (All-tail (λ y. y < n) x xs a) in
    let o = count_below-point (λ c. list_any (nat_eq c) (x ∷ xs)) (λ c. list_any (nat_eq c) xs) n x
    (All-head (λ y. y < n) x xs a) (λ k l away. ap (λ b. bit (b || list_any (nat_eq k) xs)) (ne_eqb k x away)) in
    let f : bit (list_any (nat_eq x) xs) ≡ 0 = ap bit (later_all x xs s.0) in
    let t : bit (list_any (nat_eq x) (x ∷ xs)) ≡ 1 = ap (λ b. bit (b || list_any (nat_eq x) xs)) (eq-eqb x x refl) in
    omega (arith, rest, o, f, t)

count_below-split : (P Q R : ℕ → Bool) (n : ℕ) → ((k : ℕ) → k < n → bit (P k) ≤ bit (Q k) + bit (R k))
    → count_below P n ≤ count_below Q n + count_below R n
count_below-split P Q R zero h = omega arith
count_below-split P Q R (suc n) h = let e =
    count_below-split P Q R n (λ k l. h k (omega arith)) in let f : bit (P n) ≤ bit (Q n) + bit (R n) =
    h n (omega arith) in omega (arith, e, f)

nowhere : (o : Option ℕ) → bit (sits_within (λ h. false) o) ≡ bit false
nowhere None = refl
nowhere (Some h) = refl

one_more : (h : ℕ) (hs : List ℕ) (o : Option ℕ)
    → bit (sits_within (λ k. list_any (nat_eq k) (h ∷ hs)) o) ≤ bit (sits_at h o) + bit
    (sits_within (λ k. list_any (nat_eq k) hs) o)
one_more h hs None = omega arith
one_more h hs (Some k) = elim (cases_eq k h) [
  | inl e ↦ (let a : bit (nat_eq k h || list_any (nat_eq k) hs) ≡ 1 =
      ap (λ b. bit (b || list_any (nat_eq k) hs)) (eq-eqb k h e) in let b : bit (nat_eq h k) ≡ 1 =
      ap bit (eq-eqb h k (sym e)) in omega (arith, a, b))
  | inr n ↦ (let a : bit (nat_eq k h || list_any (nat_eq k) hs) ≡ bit (list_any (nat_eq k) hs) =
      ap (λ b. bit (b || list_any (nat_eq k) hs)) (ne_eqb k h n) in omega (arith, a))
]

module _ (p : Problem) (other : Plan ℕ ℕ) (also : IsLawful (seating_of p) other) where
  within_listed : (hs : List ℕ)
      → count_below (λ c. sits_within (λ h. list_any (nat_eq h) hs) (other c)) (length p.fit) ≤ sum_by
      (seating_of p).desks hs
  within_listed [] = let e =
      count_below-same (λ c. sits_within (λ h. false) (other c)) (λ c. false) (length p.fit)
      (λ c l. nowhere (other c)) in let z =
      count_below-none (λ c. false) (length p.fit) (λ c. refl) in omega (arith, e, z)
  within_listed (h ∷ hs) =
      let rest = within_listed hs in
      let s = count_below-split (λ c. sits_within (λ k. list_any (nat_eq k) (h ∷ hs)) (other c))
      (λ c. sits_at h (other c)) (λ c. sits_within (λ k. list_any (nat_eq k) hs) (other c)) (length p.fit)
      (λ c l. one_more h hs (other c)) in
      let o = length-occupants p other h in
      let w : length (occupants (seating_of p) other h) ≤ (seating_of p).desks h = also.within_desks h in
      let e : sum_by (seating_of p).desks (h ∷ hs) ≡ (seating_of p).desks h + sum_by (seating_of p).desks hs =
      sum_by-cons (seating_of p).desks h hs in
      omega (arith, rest, s, o, w, e)

pub everybody : (p : Problem) (q : Plan ℕ ℕ)
    → size (seating_of p) q + length (unseated (seating_of p) q) ≡ count_below (λ c. true) (length p.fit)
everybody p q =
    let a = count_below-add (λ c. is_some (q c)) (λ c. is_none (q c)) (λ c. true) (length p.fit)
    (λ c l. either (q c)) in
    let s = size-count p q in let u = length-unseated p q in omega (arith, a, s, u)
  where
    either : (o : Option ℕ) → bit (is_some o) + bit (is_none o) ≡ bit true
    either None = refl
    either (Some h) = refl

pub certified_best : (p : Problem) (q : Plan ℕ ℕ) (xs hs : List ℕ) → IsProblem p → IsLawful (seating_of p) q
    → IsCertificate (seating_of p) q xs hs → IsBest (seating_of p) q
certified_best p q xs hs good lawful cert = record { lawful = lawful; greatest = λ other also. greatest other also }
  where
    drawn_bit : (other : Plan ℕ ℕ) (also : IsLawful (seating_of p) other) (c : ℕ) (o : Option ℕ) (b : Bool)
        → other c ≡ o → list_any (nat_eq c) xs ≡ b
        → bit b ≤ bit (is_none o) + bit (sits_within (λ h. list_any (nat_eq h) hs) o)
    drawn_bit other also c o false e t = omega arith
    drawn_bit other also c None true e t = omega arith
    drawn_bit other also c (Some h) true e t =
        let fit = value_at (λ k. IsTrue ((seating_of p).fits c k)) (other c) h e (also.fitting c) in
        let m = (cert.halls_of h).1 (c, in_listed xs c t, fit) in
        let one : bit (list_any (nat_eq h) hs) ≡ 1 = ap bit (listed_in hs h m) in omega (arith, one)

    greatest : (other : Plan ℕ ℕ) → IsLawful (seating_of p) other → size (seating_of p) other ≤ size (seating_of p) q
    greatest other also =
        let many = listed_count (length p.fit) xs cert.rising
        (λ k d l. member-below (length p.fit) (get_or xs k d) (cert.members k d l)) in
        let split = count_below-split (λ c. list_any (nat_eq c) xs) (λ c. is_none (other c))
        (λ c. sits_within (λ h. list_any (nat_eq h) hs) (other c)) (length p.fit)
        (λ c l. drawn_bit other also c (other c) (list_any (nat_eq c) xs) refl refl) in
        let within = within_listed p other also hs in
        let out = length-unseated p other in
        let a = everybody p other in
        let b = everybody p q in
        let x = cert.excess in
        omega (arith, many, split, within, out, a, b, x)
