-- Augmenting chains by indices are those by names, for two seatings, one a renaming of the other.
use Rattle.exam_plan.proofs.Words.{Greater, nat_cmp, ordering_then, AllByRecursion, option_map, option_and_then}
use Rattle.exam_plan.proofs.Words.{get_or-map, length-map, All-from_recursion, same_Some, Naming, named_plan, Plan}
use Rattle.exam_plan.proofs.Words.{is_hall, occupants, Chain, HasFreeDesk, Leads, IsChain, IsLeastChain}
use Rattle.std.proofs.Common.{◌≡◌, ◌≢◌, ◌↔◌, ℕ, ◌<◌, true, IsTrue, List, [], ◌∷◌, ◌++◌, length, map, filter, get_or}
use Rattle.std.proofs.Common.{Contains, Option, None, Some, IfSome, refl, sym, ap, subst, ◌∙◌, arith}
use Rattle.std.specs.Prelude.{AllPairs}
use Rattle.std.specs.Cmp.Lexicographic.{slice_cmp}
use Rattle.exam_plan.specs.Chains.{chain_halls, chain_cmp}
use Rattle.exam_plan.proofs.Renaming.{Renames, named_member, is_hall-known}
use Rattle.exam_plan.proofs.Small.{filter_same, of_members, some_value, value_at}

-- the orders agree, candidates are told apart, and halls fit members alone
pub record Follows {C H : Type 0} (name : Naming C H) : Type 0 where
  pub candidates : (i j : ℕ) → Contains name.of_indices.members i → Contains name.of_indices.members j
      → name.of_names.candidate_cmp (name.candidate i) (name.candidate j) ≡ name.of_indices.candidate_cmp i j
  pub halls : (j k : ℕ) → name.hall_index (name.hall j) ≡ Some j → name.hall_index (name.hall k) ≡ Some k
      → name.of_names.hall_cmp (name.hall j) (name.hall k) ≡ name.of_indices.hall_cmp j k
  pub same_a : (i j : ℕ) → (name.of_indices.same_candidate i j ≡ true) ↔ (i ≡ j)
  pub same_b : (c d : C) → (name.of_names.same_candidate c d ≡ true) ↔ (c ≡ d)
  pub fit_members : (i j : ℕ) → IsTrue (name.of_indices.fits i j) → Contains name.of_indices.members i

module _ {C H : Type 0} (name : Naming C H) where
  abbrev pub named_hop : ℕ × ℕ → H × C
  named_hop hop = (name.hall hop.0, name.candidate hop.1)

  -- a chain by indices, read by names
  abbrev pub named_chain : Chain ℕ ℕ → Chain C H
  named_chain chain = record { hops = map named_hop chain.hops; last = name.hall chain.last }

module _ {C H : Type 0} (name : Naming C H) (r : Renames name) (f : Follows name) where
  abbrev pub IsKnown : ℕ → Type 0
  IsKnown j = name.hall_index (name.hall j) ≡ Some j

  -- nobody sits in a hall without a name
  abbrev pub AreKnown : Plan ℕ ℕ → Type 0
  AreKnown p = (i : ℕ) → IfSome (p i) IsKnown

  -- ---- free desks

  as_many : (p : Plan ℕ ℕ) → AreKnown p → (j : ℕ) → IsKnown j
      → length (occupants name.of_names (named_plan name p) (name.hall j)) ≡ length (occupants name.of_indices p j)
  as_many p known j known_j =
      ap length (ap (filter (λ c. is_hall name.of_names (name.hall j) (named_plan name p c))) r.members
      ∙ filter_same (λ c. is_hall name.of_names (name.hall j) (named_plan name p c))
      (λ i. is_hall name.of_indices j (p i)) name.candidate name.of_indices.members
      (of_members _ name.of_indices.members
      (λ i m. ap (is_hall name.of_names (name.hall j)) (named_member name r p (name.candidate i) i (r.known i m))
      ∙ is_hall-known name r (name.hall j) j (p i) known_j (known i))))
      ∙ length-map (occupants name.of_indices p j) name.candidate

  free-named : (p : Plan ℕ ℕ) → AreKnown p → (j : ℕ) → IsKnown j → HasFreeDesk name.of_indices p j
      → HasFreeDesk name.of_names (named_plan name p) (name.hall j)
  free-named p known j known_j free =
      let e : length (occupants name.of_names (named_plan name p) (name.hall j))
      ≡ length (occupants name.of_indices p j) = as_many p known j known_j in
      let d : name.of_names.desks (name.hall j) ≡ name.of_indices.desks j = r.desks (name.hall j) j known_j in
      let w : length (occupants name.of_indices p j) < name.of_indices.desks j = free in
      omega arith

  free-indexed : (p : Plan ℕ ℕ) → AreKnown p → (j : ℕ) → IsKnown j
      → HasFreeDesk name.of_names (named_plan name p) (name.hall j) → HasFreeDesk name.of_indices p j
  free-indexed p known j known_j free =
      let e : length (occupants name.of_names (named_plan name p) (name.hall j))
      ≡ length (occupants name.of_indices p j) = as_many p known j known_j in
      let d : name.of_names.desks (name.hall j) ≡ name.of_indices.desks j = r.desks (name.hall j) j known_j in
      let w : length (occupants name.of_names (named_plan name p) (name.hall j)) < name.of_names.desks (name.hall j) =
      free in
      omega arith

  -- ---- who and what a chain names

  pub starts_at_member : (p : Plan ℕ ℕ) (i : ℕ) (hops : List (ℕ × ℕ)) (last : ℕ) → Leads name.of_indices p i hops last
      → Contains name.of_indices.members i
  starts_at_member p i [] last l = f.fit_members i last l.0
  starts_at_member p i (hop ∷ hops) last l = f.fit_members i hop.0 l.0

  abbrev pub IsKnownHop : ℕ × ℕ → Type 0
  IsKnownHop hop = IsKnown hop.0 × Contains name.of_indices.members hop.1

  pub hops_known : (p : Plan ℕ ℕ) (i : ℕ) (hops : List (ℕ × ℕ)) (last : ℕ) → Leads name.of_indices p i hops last
      → AllByRecursion IsKnownHop hops
  hops_known p i [] last l = tt
  hops_known p i (hop ∷ hops) last l =
      ((r.known_hall i hop.0 l.0, starts_at_member p hop.1 hops last l.3), hops_known p hop.1 hops last l.3)

  pub last_known : (p : Plan ℕ ℕ) (i : ℕ) (hops : List (ℕ × ℕ)) (last : ℕ) → Leads name.of_indices p i hops last
      → IsKnown last
  last_known p i [] last l = r.known_hall i last l.0
  last_known p i (hop ∷ hops) last l = last_known p hop.1 hops last l.3

  -- ---- from indices to names

  pub Leads-named : (p : Plan ℕ ℕ) → AreKnown p → (i : ℕ) (hops : List (ℕ × ℕ)) (last : ℕ)
      → Leads name.of_indices p i hops last
      → Leads name.of_names (named_plan name p) (name.candidate i) (map (named_hop name) hops) (name.hall last)
  Leads-named p known i [] last l =
      let at : IsKnown last = r.known_hall i last l.0 in (
        r.fits (name.candidate i) (name.hall last) i last (r.known i (f.fit_members i last l.0)) at ∙ l.0,
        free-named p known last at l.1,
      )
  Leads-named p known i (hop ∷ hops) last l =
      let at : IsKnown hop.0 = r.known_hall i hop.0 l.0 in (
        r.fits (name.candidate i) (name.hall hop.0) i hop.0 (r.known i (f.fit_members i hop.0 l.0)) at ∙ l.0,
        λ w. l.1 (free-indexed p known hop.0 at w),
        named_member name r p (name.candidate hop.1) hop.1 (r.known hop.1 (starts_at_member p hop.1 hops last l.3))
            ∙ ap (option_map name.hall) l.2,
        Leads-named p known hop.1 hops last l.3,
      )

  halls-named : (hops : List (ℕ × ℕ)) (last : ℕ)
      → map (λ (hop : H × C). hop.0) (map (named_hop name) hops) ++ name.hall last
      ∷ [] ≡ map name.hall (map (λ (hop : ℕ × ℕ). hop.0) hops ++ last ∷ [])
  halls-named [] last = refl
  halls-named (hop ∷ hops) last = ap (λ t. name.hall hop.0 ∷ t) (halls-named hops last)

  halls_known : (hops : List (ℕ × ℕ)) (last : ℕ) → AllByRecursion IsKnownHop hops → IsKnown last
      → AllByRecursion IsKnown (map (λ (hop : ℕ × ℕ). hop.0) hops ++ last ∷ [])
  halls_known [] last all at = (at, tt)
  halls_known (hop ∷ hops) last all at = (all.0.0, halls_known hops last all.1 at)

  distinct-named : (xs : List ℕ) → AllByRecursion IsKnown xs → AllPairs (λ (h k : ℕ). h ≢ k) xs
      → AllPairs (λ (h k : H). h ≢ k) (map name.hall xs)
  distinct-named xs all apart = λ i j d below within e.
      let long : length (map name.hall xs) ≡ length xs = length-map xs name.hall in
      let far : j < length xs = omega arith in
      let near : i < length xs = omega arith in
      apart i j 0 below far (same_Some (get_or xs i 0) (get_or xs j 0)
      (sym (All-from_recursion IsKnown xs all i 0 near)
      ∙ ap name.hall_index (sym (get_or-map name.hall xs i 0 d near) ∙ e ∙ get_or-map name.hall xs j 0 d far)
      ∙ All-from_recursion IsKnown xs all j 0 far))

  pub IsChain-named : (p : Plan ℕ ℕ) → AreKnown p → (i : ℕ) (chain : Chain ℕ ℕ) → IsChain name.of_indices p i chain
      → IsChain name.of_names (named_plan name p) (name.candidate i) (named_chain name chain)
  IsChain-named p known i chain is = record {
    leads = Leads-named p known i chain.hops chain.last is.leads;
    distinct = subst (AllPairs (λ (h k : H). h ≢ k)) (sym (halls-named chain.hops chain.last))
        (distinct-named (chain_halls chain)
        (halls_known chain.hops chain.last (hops_known p i chain.hops chain.last is.leads)
        (last_known p i chain.hops chain.last is.leads)) is.distinct);
  }

  -- ---- from names to indices

  -- such a chain by indices
  pub record Indexed (p : Plan ℕ ℕ) (i : ℕ) (hops : List (H × C)) (last : H) : Type 0 where
    pub before : List (ℕ × ℕ)
    pub to : ℕ
    pub hops_are : map (named_hop name) before ≡ hops
    pub last_is : name.hall to ≡ last
    pub leads : Leads name.of_indices p i before to

  -- a hall that fits a member has an index
  fitting_index : (i : ℕ) (h : H) → Contains name.of_indices.members i
      → IsTrue (name.of_names.fits (name.candidate i) h)
      → (j : ℕ) × (name.hall j ≡ h) × IsKnown j × IsTrue (name.of_indices.fits i j)
  fitting_index i h m fit =
      let v : (j : ℕ) × (name.hall_index h ≡ Some j) =
      some_value (name.hall_index h) (r.known_fit (name.candidate i) h fit) in
      let is : name.hall v.0 ≡ h = r.halls h v.0 v.1 in
      (v.0, is, ap name.hall_index is ∙ v.1, sym (r.fits (name.candidate i) h i v.0 (r.known i m) v.1) ∙ fit)

  -- who sits in a named hall has an index, and sits in the hall of its index
  sitting_index : (p : Plan ℕ ℕ) → AreKnown p → (c : C) (h : H) (j : ℕ) → name.hall j ≡ h → IsKnown j
      → named_plan name p c ≡ Some h → (d : ℕ) × (name.candidate_index c ≡ Some d) × (p d ≡ Some j)
  sitting_index p known c h j is at sits = outer (name.candidate_index c) refl sits
    where
      inner : (d : ℕ) (o : Option ℕ) → p d ≡ o → option_map name.hall o ≡ Some h → p d ≡ Some j
      inner d None e t = absurd (let z : None ≡ Some h = t in cc)
      inner d (Some k) e t =
          let there : IsKnown k = value_at IsKnown (p d) k e (known d) in
          let same : name.hall k ≡ h = same_Some (name.hall k) h t in
          e ∙ sym there ∙ ap name.hall_index (same ∙ sym is) ∙ at

      outer : (o : Option ℕ) → name.candidate_index c ≡ o
          → option_and_then (λ i. option_map name.hall (p i)) o ≡ Some h
          → (d : ℕ) × (name.candidate_index c ≡ Some d) × (p d ≡ Some j)
      outer None e t = absurd (let z : None ≡ Some h = t in cc)
      outer (Some d) e t = (d, e, inner d (p d) refl t)

  Leads-indexed : (p : Plan ℕ ℕ) → AreKnown p → (hops : List (H × C)) (i : ℕ) (last : H)
      → Contains name.of_indices.members i → Leads name.of_names (named_plan name p) (name.candidate i) hops last
      → Indexed p i hops last
  Leads-indexed p known [] i last m l =
      let w : (j : ℕ) × (name.hall j ≡ last) × IsKnown j × IsTrue (name.of_indices.fits i j) =
      fitting_index i last m l.0 in
      record {
        before = [];
        to = w.0;
        hops_are = refl;
        last_is = w.1;
        leads = (
          w.3,
          free-indexed p known w.0 w.2
              (subst (HasFreeDesk name.of_names (named_plan name p)) (sym w.1) l.1),
        );
      }
  Leads-indexed p known (hop ∷ hops) i last m l =
      let w : (j : ℕ) × (name.hall j ≡ hop.0) × IsKnown j × IsTrue (name.of_indices.fits i j) =
      fitting_index i hop.0 m l.0 in
      let v : (d : ℕ) × (name.candidate_index hop.1 ≡ Some d) × (p d ≡ Some w.0) =
      sitting_index p known hop.1 hop.0 w.0 w.1 w.2 l.2 in
      let is : name.candidate v.0 ≡ hop.1 = (r.named hop.1 v.0 v.1).0 in
      let rest : Indexed p v.0 hops last =
      Leads-indexed p known hops v.0 last (r.named hop.1 v.0 v.1).1
      (subst (λ c. Leads name.of_names (named_plan name p) c hops last) (sym is) l.3) in
      record {
        before = (w.0, v.0) ∷ rest.before;
        to = rest.to;
        hops_are = λ t. (w.1 t, is t) ∷ rest.hops_are t;
        last_is = rest.last_is;
        leads = (
          w.3,
          λ free. l.1
              (subst (HasFreeDesk name.of_names (named_plan name p)) w.1 (free-named p known w.0 w.2 free)),
          v.2,
          rest.leads,
        );
      }

  distinct-indexed : (xs : List ℕ) → AllPairs (λ (h k : H). h ≢ k) (map name.hall xs) → AllPairs (λ (h k : ℕ). h ≢ k) xs
  distinct-indexed xs apart = λ i j d below within e.
      let long : length (map name.hall xs) ≡ length xs = length-map xs name.hall in
      let near : i < length xs = omega arith in
      apart i j (name.hall d) below (omega arith)
      (get_or-map name.hall xs i d (name.hall d) near ∙ ap name.hall e
      ∙ sym (get_or-map name.hall xs j d (name.hall d) within))

  pub IsChain-indexed : (p : Plan ℕ ℕ) → AreKnown p → (i : ℕ) (chain : Chain C H) → Contains name.of_indices.members i
      → IsChain name.of_names (named_plan name p) (name.candidate i) chain
      → (before : Chain ℕ ℕ) × (named_chain name before ≡ chain) × IsChain name.of_indices p i before
  IsChain-indexed p known i chain m is =
      let w : Indexed p i chain.hops chain.last = Leads-indexed p known chain.hops i chain.last m is.leads in
      let before : Chain ℕ ℕ = record { hops = w.before; last = w.to } in
      let same : named_chain name before ≡ chain = λ t. record { hops = w.hops_are t; last = w.last_is t } in
      let halls : chain_halls chain ≡ map name.hall (chain_halls before) =
      ap chain_halls (sym same) ∙ halls-named w.before w.to in (
        before,
        same,
        record {
          leads = w.leads;
          distinct =
              distinct-indexed (chain_halls before) (subst (AllPairs (λ (h k : H). h ≢ k)) halls is.distinct);
        },
      )

  -- ---- the order of chains

  hops_cmp : (xs ys : List (ℕ × ℕ)) → AllByRecursion IsKnownHop xs → AllByRecursion IsKnownHop ys
      → slice_cmp (λ (x y : H × C). ordering_then (name.of_names.hall_cmp x.0 y.0)
      (name.of_names.candidate_cmp x.1 y.1)) (map (named_hop name) xs) (map (named_hop name) ys)
      ≡ slice_cmp (λ (x y : ℕ × ℕ). ordering_then (name.of_indices.hall_cmp x.0 y.0)
      (name.of_indices.candidate_cmp x.1 y.1)) xs ys
  hops_cmp [] [] k l = refl
  hops_cmp [] (y ∷ ys) k l = refl
  hops_cmp (x ∷ xs) [] k l = refl
  hops_cmp (x ∷ xs) (y ∷ ys) k l =
      λ t. ordering_then (ordering_then (f.halls x.0 y.0 k.0.0 l.0.0 t) (f.candidates x.1 y.1 k.0.1 l.0.1 t))
      (hops_cmp xs ys k.1 l.1 t)

  chain_cmp-named : (x y : Chain ℕ ℕ) → AllByRecursion IsKnownHop x.hops → AllByRecursion IsKnownHop y.hops
      → IsKnown x.last → IsKnown y.last
      → chain_cmp name.of_names (named_chain name x) (named_chain name y) ≡ chain_cmp name.of_indices x y
  chain_cmp-named x y k l m n = λ t.
      ordering_then (nat_cmp (length-map x.hops (named_hop name) t) (length-map y.hops (named_hop name) t))
      (ordering_then (hops_cmp x.hops y.hops k l t) (f.halls x.last y.last m n t))

  pub IsLeastChain-named : (p : Plan ℕ ℕ) → AreKnown p → (i : ℕ) (chain : Chain ℕ ℕ)
      → IsLeastChain name.of_indices p i chain
      → IsLeastChain name.of_names (named_plan name p) (name.candidate i) (named_chain name chain)
  IsLeastChain-named p known i chain least = record {
    is_chain = IsChain-named p known i chain least.is_chain;
    least = λ other is. inner other
        (IsChain-indexed p known i other (starts_at_member p i chain.hops chain.last least.is_chain.leads) is);
  }
    where
      inner : (other : Chain C H)
          → (before : Chain ℕ ℕ) × (named_chain name before ≡ other) × IsChain name.of_indices p i before
          → chain_cmp name.of_names (named_chain name chain) other ≢ Greater
      inner other w e = least.least w.0 w.2 (sym (chain_cmp-named chain w.0
          (hops_known p i chain.hops chain.last least.is_chain.leads) (hops_known p i w.0.hops w.0.last w.2.leads)
          (last_known p i chain.hops chain.last least.is_chain.leads) (last_known p i w.0.hops w.0.last w.2.leads))
          ∙ ap (chain_cmp name.of_names (named_chain name chain)) w.1 ∙ e)

  -- a least chain by names is one by indices
  pub IsLeastChain-indexed : (p : Plan ℕ ℕ) → AreKnown p → (i : ℕ) (chain : Chain C H)
      → Contains name.of_indices.members i → IsLeastChain name.of_names (named_plan name p) (name.candidate i) chain
      → (before : Chain ℕ ℕ) × (named_chain name before ≡ chain) × IsLeastChain name.of_indices p i before
  IsLeastChain-indexed p known i chain m least = inner (IsChain-indexed p known i chain m least.is_chain)
    where
      inner : (before : Chain ℕ ℕ) × (named_chain name before ≡ chain) × IsChain name.of_indices p i before
          → (before : Chain ℕ ℕ) × (named_chain name before ≡ chain) × IsLeastChain name.of_indices p i before
      inner w = (
        w.0,
        w.1,
        record {
          is_chain = w.2;
          least = λ other is e. least.least (named_chain name other) (IsChain-named p known i other is)
              (ap (λ t. chain_cmp name.of_names t (named_chain name other)) (sym w.1) ∙ chain_cmp-named w.0 other
              (hops_known p i w.0.hops w.0.last w.2.leads) (hops_known p i other.hops other.last is.leads)
              (last_known p i w.0.hops w.0.last w.2.leads) (last_known p i other.hops other.last is.leads) ∙ e);
        },
      )

  -- where no chain starts by indices, none does by names
  pub no_chain-named : (p : Plan ℕ ℕ) → AreKnown p → (i : ℕ) → Contains name.of_indices.members i
      → ((chain : Chain ℕ ℕ) → IsChain name.of_indices p i chain → ⊥) → (chain : Chain C H)
      → IsChain name.of_names (named_plan name p) (name.candidate i) chain → ⊥
  no_chain-named p known i m none chain is = let w = IsChain-indexed p known i chain m is in none w.0 w.2
