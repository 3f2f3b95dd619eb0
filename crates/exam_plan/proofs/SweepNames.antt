-- Turns and sweeps by indices are those by names, and the other way round, for two seatings, one a renaming of the
-- other.
use Rattle.exam_plan.proofs.Words.{AllByRecursion, option_map, option_and_then, All-from_recursion, recursion_from_All}
use Rattle.exam_plan.proofs.Words.{same_Some, false_from_ne_true, fun_ext, Naming, named_plan, Plan, SamePlan, Chain}
use Rattle.exam_plan.proofs.Words.{Leads, IsLeastChain, augmented, TurnFrom, Turn, Sweeps, sweep_order, IsSweep}
use Rattle.std.proofs.Common.{◌≡◌, ℕ, Bool, true, false, cond, not, List, [], ◌∷◌, ◌++◌, map, filter, Contains, Option}
use Rattle.std.proofs.Common.{None, Some, IfSome, inl, inr, refl, sym, ap, subst, ◌∙◌}
use Rattle.std.specs.Cmp.{both_ways}
use Rattle.std.proofs.lemmas.List.{map-append}
use Rattle.std.proofs.lemmas.List.Elements.{All-append}
use Rattle.exam_plan.specs.Chains.{seated}
use Rattle.exam_plan.proofs.Renaming.{Renames, named_member}
use Rattle.exam_plan.proofs.ChainNames.{named_hop, named_chain, Follows, AreKnown, IsKnownHop, hops_known}
use Rattle.exam_plan.proofs.ChainNames.{IsChain-named, IsLeastChain-named, IsLeastChain-indexed, no_chain-named}
use Rattle.exam_plan.proofs.Small.{all_filter, filter_same, none_kept, of_members}

keeps_all : {X : Type 0} (xs : List X) → filter (λ (x : X). true) xs ≡ xs
keeps_all [] = refl
keeps_all (x ∷ xs) = ap (λ t. x ∷ t) (keeps_all xs)

all_append : {X : Type 0} (P : X → Type 0) (xs ys : List X) → AllByRecursion P xs → AllByRecursion P ys
    → AllByRecursion P (xs ++ ys)
all_append P xs ys all more =
    recursion_from_All P (xs ++ ys) (All-append P xs ys (All-from_recursion P xs all) (All-from_recursion P ys more))

module _ {C H : Type 0} (name : Naming C H) (r : Renames name) (f : Follows name) where
  abbrev Known : Plan ℕ ℕ → Type 0
  Known p = AreKnown name r f p

  abbrev by_name : Plan ℕ ℕ → Plan C H
  by_name p = named_plan name p

  -- ---- the plan after a chain

  -- names agree on a candidate exactly if indices do
  same-named : (b c : C) (i k : ℕ) → name.candidate_index b ≡ Some i → name.candidate_index c ≡ Some k
      → name.of_names.same_candidate b c ≡ name.of_indices.same_candidate i k
  same-named b c i k at at' = both_ways _ _
      (λ t. (f.same_a i k).1 (same_Some i k (sym at ∙ ap name.candidate_index ((f.same_b b c).0 t) ∙ at')))
      (λ t. (f.same_b b c).1 (sym (r.named b i at).0 ∙ ap name.candidate ((f.same_a i k).0 t) ∙ (r.named c k at').0))

  -- one without an index is no named one
  other-named : (i : ℕ) (c : C) → Contains name.of_indices.members i → name.candidate_index c ≡ None
      → name.of_names.same_candidate (name.candidate i) c ≡ false
  other-named i c m at =
      false_from_ne_true _
      (λ t. let e : None ≡ Some i = sym at ∙ ap name.candidate_index (sym ((f.same_b (name.candidate i) c).0 t))
      ∙ r.known i m in cc)

  seated-named : (q : Plan ℕ ℕ) (after : Plan C H) → ((c : C) → by_name q c ≡ after c) → (i h : ℕ)
      → Contains name.of_indices.members i → (c : C)
      → by_name (seated name.of_indices q i h) c ≡ seated name.of_names after (name.candidate i) (name.hall h) c
  seated-named q after same i h m c = outer (name.candidate_index c) refl
    where
      inner : (k : ℕ) (t : Bool)
          → option_map name.hall (cond t (Some h) (q k)) ≡ cond t (Some (name.hall h)) (option_map name.hall (q k))
      inner k true = refl
      inner k false = refl

      outer : (o : Option ℕ) → name.candidate_index c ≡ o
          → option_and_then (λ k. option_map name.hall (seated name.of_indices q i h k)) (name.candidate_index c)
          ≡ cond (name.of_names.same_candidate (name.candidate i) c) (Some (name.hall h)) (after c)
      outer None at = ap (option_and_then (λ k. option_map name.hall (seated name.of_indices q i h k))) at
          ∙ sym (ap (option_and_then (λ k. option_map name.hall (q k))) at) ∙ same c
          ∙ sym (ap (λ t. cond t (Some (name.hall h)) (after c)) (other-named i c m at))
      outer (Some k) at =
          ap (option_and_then (λ k. option_map name.hall (seated name.of_indices q i h k))) at
          ∙ inner k (name.of_indices.same_candidate i k)
          ∙ ap (λ t. cond t (Some (name.hall h)) (option_map name.hall (q k)))
          (sym (same-named (name.candidate i) c i k (r.known i m) at))
          ∙ ap (cond (name.of_names.same_candidate (name.candidate i) c) (Some (name.hall h)))
          (sym (named_member name r q c k at) ∙ same c)

  pub augmented-named : (p : Plan ℕ ℕ) (i : ℕ) (hops : List (ℕ × ℕ)) (last : ℕ) → Contains name.of_indices.members i
      → AllByRecursion (IsKnownHop name r f) hops
      → (c : C) → by_name (augmented name.of_indices p i hops last) c
      ≡ augmented name.of_names (by_name p) (name.candidate i) (map (named_hop name) hops) (name.hall last) c
  augmented-named p i [] last m all c = seated-named p (by_name p) (λ d. refl) i last m c
  augmented-named p i (hop ∷ hops) last m all c =
      seated-named (augmented name.of_indices p hop.1 hops last)
      (augmented name.of_names (by_name p) (name.candidate hop.1) (map (named_hop name) hops) (name.hall last))
      (augmented-named p hop.1 hops last all.0.1 all.1) i hop.0 m c

  seated-known : (q : Plan ℕ ℕ) (i h : ℕ) → Known q → name.hall_index (name.hall h) ≡ Some h
      → Known (seated name.of_indices q i h)
  seated-known q i h known at k = inner (name.of_indices.same_candidate i k)
    where
      inner : (t : Bool) → IfSome (cond t (Some h) (q k)) (λ j. name.hall_index (name.hall j) ≡ Some j)
      inner true = at
      inner false = known k

  augmented-known : (p before : Plan ℕ ℕ) (i : ℕ) (hops : List (ℕ × ℕ)) (last : ℕ) → Known p
      → Leads name.of_indices before i hops last → Known (augmented name.of_indices p i hops last)
  augmented-known p before i [] last known l = seated-known p i last known (r.known_hall i last l.0)
  augmented-known p before i (hop ∷ hops) last known l =
      seated-known (augmented name.of_indices p hop.1 hops last) i hop.0
      (augmented-known p before hop.1 hops last known l.3) (r.known_hall i hop.0 l.0)

  -- ---- turns

  same_plan-named : (p q : Plan ℕ ℕ) → SamePlan p q → SamePlan (by_name p) (by_name q)
  same_plan-named p q same c = λ t. option_and_then (λ i. option_map name.hall (same i t)) (name.candidate_index c)

  TurnFrom-named : (p : Plan ℕ ℕ) → Known p → (i : ℕ) → Contains name.of_indices.members i
      → (o : Option ℕ) (after : Plan ℕ ℕ) → TurnFrom name.of_indices p i o after
      → TurnFrom name.of_names (by_name p) (name.candidate i) (option_map name.hall o) (by_name after)
  TurnFrom-named p known i m (Some h) after turn = same_plan-named after p turn
  TurnFrom-named p known i m None after (inl w) = inl (
    named_chain name w.0,
    IsLeastChain-named name r f p known i w.0 w.1,
    λ c. same_plan-named after (augmented name.of_indices p i w.0.hops w.0.last) w.2 c
        ∙ augmented-named p i w.0.hops w.0.last m (hops_known name r f p i w.0.hops w.0.last w.1.is_chain.leads) c,
  )
  TurnFrom-named p known i m None after (inr w) =
      inr (no_chain-named name r f p known i m w.0, same_plan-named after p w.1)

  Turn-named : (p : Plan ℕ ℕ) → Known p → (i : ℕ) → Contains name.of_indices.members i → (after : Plan ℕ ℕ)
      → Turn name.of_indices p i after → Turn name.of_names (by_name p) (name.candidate i) (by_name after)
  Turn-named p known i m after turn =
      subst (λ (o : Option H). TurnFrom name.of_names (by_name p) (name.candidate i) o (by_name after))
      (sym (named_member name r p (name.candidate i) i (r.known i m))) (TurnFrom-named p known i m (p i) after turn)

  known_as : (p q : Plan ℕ ℕ) → SamePlan q p → Known p → Known q
  known_as p q same known i =
      subst (λ (o : Option ℕ). IfSome o (λ j. name.hall_index (name.hall j) ≡ Some j)) (sym (same i)) (known i)

  turn_known : (p : Plan ℕ ℕ) → Known p → (i : ℕ) (o : Option ℕ) (after : Plan ℕ ℕ)
      → TurnFrom name.of_indices p i o after → Known after
  turn_known p known i (Some h) after turn = known_as p after turn known
  turn_known p known i None after (inl w) =
      known_as (augmented name.of_indices p i w.0.hops w.0.last) after w.2
      (augmented-known p p i w.0.hops w.0.last known w.1.is_chain.leads)
  turn_known p known i None after (inr w) = known_as p after w.1 known

  -- ---- sweeps

  Sweeps-named : (cs : List ℕ) → AllByRecursion (Contains name.of_indices.members) cs → (p after : Plan ℕ ℕ) → Known p
      → Sweeps name.of_indices p cs after → Sweeps name.of_names (by_name p) (map name.candidate cs) (by_name after)
  Sweeps-named [] all p after known same = same_plan-named after p same
  Sweeps-named (c ∷ cs) all p after known w = (
    by_name w.0,
    Turn-named p known c all.0 w.0 w.1,
    Sweeps-named cs all.1 w.0 after (turn_known p known c (p c) w.0 w.1) w.2,
  )

  members_all : AllByRecursion (Contains name.of_indices.members) name.of_indices.members
  members_all = of_members (Contains name.of_indices.members) name.of_indices.members (λ i m. m)

  order_members : (first : Option ℕ)
      → AllByRecursion (Contains name.of_indices.members) (sweep_order name.of_indices first)
  order_members None = members_all
  order_members (Some i) =
      all_append (Contains name.of_indices.members) (filter (name.of_indices.same_candidate i) name.of_indices.members)
      (filter (λ d. not (name.of_indices.same_candidate i d)) name.of_indices.members)
      (all_filter (Contains name.of_indices.members)
      (name.of_indices.same_candidate i) name.of_indices.members members_all)
      (all_filter (Contains name.of_indices.members)
      (λ d. not (name.of_indices.same_candidate i d)) name.of_indices.members members_all)

  -- the order of turns is the same by indices and by names
  order-named : (first : Option C)
      → sweep_order name.of_names first
      ≡ map name.candidate (sweep_order name.of_indices (option_and_then name.candidate_index first))
  order-named None = r.members
  order-named (Some c) = inner (name.candidate_index c) refl
    where
      parts : (q : ℕ → Bool)
          → ((i : ℕ) → Contains name.of_indices.members i → name.of_names.same_candidate c (name.candidate i) ≡ q i)
          → sweep_order name.of_names (Some c)
          ≡ map name.candidate (filter q name.of_indices.members ++ filter (λ i. not (q i)) name.of_indices.members)
      parts q same =
          ap (λ (ms : List C). filter (name.of_names.same_candidate c) ms
          ++ filter (λ d. not (name.of_names.same_candidate c d)) ms) r.members
          ∙ ap (λ t. t ++ filter (λ d. not (name.of_names.same_candidate c d))
          (map name.candidate name.of_indices.members))
          (filter_same (name.of_names.same_candidate c) q name.candidate name.of_indices.members
          (of_members _ name.of_indices.members same))
          ∙ ap (λ t. map name.candidate (filter q name.of_indices.members) ++ t)
          (filter_same (λ d. not (name.of_names.same_candidate c d))
          (λ i. not (q i)) name.candidate name.of_indices.members
          (of_members _ name.of_indices.members (λ i m. ap not (same i m))))
          ∙ sym (map-append name.candidate (filter q name.of_indices.members)
          (filter (λ i. not (q i)) name.of_indices.members))

      inner : (o : Option ℕ) → name.candidate_index c ≡ o
          → sweep_order name.of_names (Some c) ≡ map name.candidate (sweep_order name.of_indices o)
      inner None at =
          parts (λ (i : ℕ). false)
          (λ i m. false_from_ne_true _
          (λ t. let e : None ≡ Some i = sym at ∙ ap name.candidate_index ((f.same_b c (name.candidate i)).0 t)
          ∙ r.known i m in cc))
          ∙ ap (map name.candidate)
          (ap (λ t. t ++ filter (λ (i : ℕ). true) name.of_indices.members)
          (none_kept (λ (i : ℕ). false) name.of_indices.members (λ i. refl)) ∙ keeps_all name.of_indices.members)
      inner (Some k) at = parts (name.of_indices.same_candidate k)
          (λ i m. same-named c (name.candidate i) k i at (r.known i m))

  pub IsSweep-named : (first : Option C) (p after : Plan ℕ ℕ) → Known p
      → IsSweep name.of_indices (option_and_then name.candidate_index first) p after
      → IsSweep name.of_names first (by_name p) (by_name after)
  IsSweep-named first p after known swept =
      subst (λ (cs : List C). Sweeps name.of_names (by_name p) cs (by_name after)) (sym (order-named first))
      (Sweeps-named (sweep_order name.of_indices (option_and_then name.candidate_index first))
      (order_members (option_and_then name.candidate_index first)) p after known swept)

  -- ---- from names to indices

  -- the plan after a turn by names is one after that turn by indices
  TurnFrom-indexed : (p : Plan ℕ ℕ) → Known p → (i : ℕ) → Contains name.of_indices.members i
      → (o : Option ℕ) (after : Plan C H)
      → TurnFrom name.of_names (by_name p) (name.candidate i) (option_map name.hall o) after
      → (then : Plan ℕ ℕ) × TurnFrom name.of_indices p i o then × SamePlan after (by_name then)
  TurnFrom-indexed p known i m (Some h) after turn = (p, λ c. refl, turn)
  TurnFrom-indexed p known i m None after (inl w) = inner (IsLeastChain-indexed name r f p known i w.0 m w.1)
    where
      inner : (chain : Chain ℕ ℕ) × (named_chain name chain ≡ w.0) × IsLeastChain name.of_indices p i chain
          → (then : Plan ℕ ℕ) × TurnFrom name.of_indices p i None then × SamePlan after (by_name then)
      inner v = (
        augmented name.of_indices p i v.0.hops v.0.last,
        inl (v.0, v.2, λ c. refl),
        λ c. w.2 c ∙ ap (λ (chain : Chain C H). augmented name.of_names (by_name p)
            (name.candidate i) chain.hops chain.last c) (sym v.1)
            ∙ sym (augmented-named p i v.0.hops v.0.last m
            (hops_known name r f p i v.0.hops v.0.last v.2.is_chain.leads) c),
      )
  TurnFrom-indexed p known i m None after (inr w) =
      (p, inr (λ chain is. w.0 (named_chain name chain) (IsChain-named name r f p known i chain is), λ c. refl), w.1)

  Turn-indexed : (p : Plan ℕ ℕ) → Known p → (i : ℕ) → Contains name.of_indices.members i → (after : Plan C H)
      → Turn name.of_names (by_name p) (name.candidate i) after
      → (then : Plan ℕ ℕ) × Turn name.of_indices p i then × SamePlan after (by_name then)
  Turn-indexed p known i m after turn =
      TurnFrom-indexed p known i m (p i) after
      (subst (λ (o : Option H). TurnFrom name.of_names (by_name p) (name.candidate i) o after)
      (named_member name r p (name.candidate i) i (r.known i m)) turn)

  Sweeps-indexed : (cs : List ℕ) → AllByRecursion (Contains name.of_indices.members) cs
      → (p : Plan ℕ ℕ) (after : Plan C H) → Known p → Sweeps name.of_names (by_name p) (map name.candidate cs) after
      → (then : Plan ℕ ℕ) × Sweeps name.of_indices p cs then × SamePlan after (by_name then)
  Sweeps-indexed [] all p after known same = (p, λ c. refl, same)
  Sweeps-indexed (c ∷ cs) all p after known w =
      let v : (mid : Plan ℕ ℕ) × Turn name.of_indices p c mid × SamePlan w.0 (by_name mid) =
      Turn-indexed p known c all.0 w.0 w.1 in
      let rest = Sweeps-indexed cs all.1 v.0 after (turn_known p known c (p c) v.0 v.1)
      (subst (λ (mid : Plan C H). Sweeps name.of_names mid (map name.candidate cs) after) (fun_ext v.2) w.2) in
      (rest.0, (v.0, v.1, rest.1), rest.2)

  pub IsSweep-indexed : (first : Option C) (p : Plan ℕ ℕ) (after : Plan C H) → Known p
      → IsSweep name.of_names first (by_name p) after
      → (then : Plan ℕ ℕ) × IsSweep name.of_indices (option_and_then name.candidate_index first) p then
      × SamePlan after (by_name then)
  IsSweep-indexed first p after known swept =
      Sweeps-indexed (sweep_order name.of_indices (option_and_then name.candidate_index first))
      (order_members (option_and_then name.candidate_index first)) p after known
      (subst (λ (cs : List C). Sweeps name.of_names (by_name p) cs after) (order-named first) swept)
