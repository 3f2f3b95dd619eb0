-- Augmenting chains: the augmenting paths of a matching, from an unseated candidate to a free desk.
use Rattle.std.specs.Prelude.{◌≡◌, ◌≢◌, ◌<◌, ℕ, zero, suc, IsTrue, List, [], ◌∷◌, ◌++◌, length, map, if◌then◌else◌}
use Rattle.std.specs.Prelude.{AllPairs, Some}
use Rattle.std.specs.declared.cmp.Ordering.{Ordering}
use Rattle.std.specs.declared.cmp.Ordering.TheVariants.{Greater}
use Rattle.std.specs.Ordering.{nat_cmp, ordering_then}
use Rattle.std.specs.Cmp.Lexicographic.{slice_cmp}
use Rattle.exam_plan.specs.Matching.{Seating, Plan, occupants}

-- h1, c1, h2, .., hk: each hall but the last with the occupant who moves on from it, and the last hall
pub record Chain (C H : Type 0) : Type 0 where
  pub hops : List (H × C)
  pub last : H

module _ {C H : Type 0} where
  abbrev pub chain_halls : Chain C H → List H
  chain_halls chain = map (λ (hop : H × C). hop.0) chain.hops ++ chain.last ∷ []

  abbrev pub HasFreeDesk : Seating C H → Plan C H → H → Type 0
  HasFreeDesk g plan h = length (occupants g plan h) < g.desks h

  -- From c along the hops: each hall fits who comes to it; all but the last have no free desk, and the
  -- one who moves on sits there; the last has a free desk.
  abbrev pub Leads : Seating C H → Plan C H → C → List (H × C) → H → Type 0
  Leads g plan c [] last = IsTrue (g.fits c last) × HasFreeDesk g plan last
  Leads g plan c (hop ∷ hops) last =
      IsTrue (g.fits c hop.0) × (HasFreeDesk g plan hop.0 → ⊥) × (plan hop.1 ≡ Some hop.0)
      × Leads g plan hop.1 hops last

  -- c leads to the hall by an alternating path: it fits c, or it fits an occupant of a hall to which c leads, so many
  -- times
  abbrev pub LeadsTo : Seating C H → Plan C H → C → ℕ → H → Type 0
  LeadsTo g plan c zero h = IsTrue (g.fits c h)
  LeadsTo g plan c (suc j) h =
      (k : H) × LeadsTo g plan c j k × ((d : C) × (plan d ≡ Some k) × IsTrue (g.fits d h))

  pub record IsChain (g : Seating C H) (plan : Plan C H) (c : C) (chain : Chain C H) : Type 0 where
    pub leads : Leads g plan c chain.hops chain.last
    pub distinct : AllPairs (λ (h k : H). h ≢ k) (chain_halls chain)

  -- the shorter chain comes first, and of equally long ones the one whose first difference is less
  abbrev pub chain_cmp : Seating C H → Chain C H → Chain C H → Ordering
  chain_cmp g a b = ordering_then (nat_cmp (length a.hops) (length b.hops))
      (ordering_then (slice_cmp (λ (x y : H × C).
      ordering_then (g.hall_cmp x.0 y.0) (g.candidate_cmp x.1 y.1)) a.hops b.hops)
      (g.hall_cmp a.last b.last))

  pub record IsLeastChain (g : Seating C H) (plan : Plan C H) (c : C) (chain : Chain C H) : Type 0 where
    pub is_chain : IsChain g plan c chain
    pub least : (other : Chain C H) → IsChain g plan c other → chain_cmp g chain other ≢ Greater

  abbrev pub seated : Seating C H → Plan C H → C → H → Plan C H
  seated g plan c h d = if g.same_candidate c d then Some h else plan d

  -- the plan after c has gone to the first hall, and each other one to the next
  abbrev pub augmented : Seating C H → Plan C H → C → List (H × C) → H → Plan C H
  augmented g plan c [] last = seated g plan c last
  augmented g plan c (hop ∷ hops) last = seated g (augmented g plan hop.1 hops last) c hop.0
