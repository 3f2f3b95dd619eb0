-- The repair of a plan.
use Rattle.std.specs.Prelude.{◌≡◌, ◌⊎◌, ◌↔◌, ℕ, Contains, Bool, ◌&&◌, nat_lt, not, List, [], ◌∷◌, ◌++◌, filter}
use Rattle.std.specs.Prelude.{count_by, Option}
use Rattle.std.specs.Prelude.{None, Some, if◌then◌else◌}
use Rattle.std.specs.List.{list_any}
use Rattle.std.specs.List.Sorted.{IsStrictlySortedBy}
use Rattle.std.specs.Ordering.{is_lt}
use Rattle.exam_plan.specs.Matching.{Seating, Plan, SamePlan, is_hall}
use Rattle.exam_plan.specs.Chains.{Chain, IsChain, IsLeastChain, LeadsTo, augmented}

module _ {C H : Type 0} where
  abbrev pub is_member : Seating C H → C → Bool
  is_member g c = list_any (g.same_candidate c) g.members

  -- the hall, if the candidate is a member and the hall fits them; otherwise none
  abbrev pub where_fitting : Seating C H → C → Option H → Option H
  where_fitting g c None = None
  where_fitting g c (Some h) = if is_member g c && g.fits c h then Some h else None

  -- without those who are no members or whose hall does not fit
  abbrev pub fitting_part : Seating C H → Plan C H → Plan C H
  fitting_part g plan c = where_fitting g c (plan c)

  -- how many members with a lesser number sit in the hall
  abbrev pub lesser_occupants : Seating C H → Plan C H → C → H → ℕ
  lesser_occupants g plan c h = count_by (λ d. is_lt (g.candidate_cmp d c) && is_hall g h (plan d)) g.members

  abbrev pub where_room : Seating C H → Plan C H → C → Option H → Option H
  where_room g plan c None = None
  where_room g plan c (Some h) = if nat_lt (lesser_occupants g plan c h) (g.desks h) then Some h else None

  -- in a hall with more occupants than desks the least numbers stay
  abbrev pub room_part : Seating C H → Plan C H → Plan C H
  room_part g plan c = where_room g plan c (plan c)

  -- what is left of a plan: those put out of it who left, whose hall no longer fits or has no desk for them
  abbrev pub kept_part : Seating C H → Plan C H → Plan C H
  kept_part g plan = room_part g (fitting_part g plan)

  -- One turn of the sweep: a seated candidate stays; an unseated one takes the least chain, or stays
  -- unseated where there is none.
  abbrev pub TurnFrom : Seating C H → Plan C H → C → Option H → Plan C H → Type 0
  TurnFrom g before c (Some h) after = SamePlan after before
  TurnFrom g before c None after =
      ((chain : Chain C H) × IsLeastChain g before c chain
      × SamePlan after (augmented g before c chain.hops chain.last))
      ⊎ (((chain : Chain C H) → IsChain g before c chain → ⊥) × SamePlan after before)

  abbrev pub Turn : Seating C H → Plan C H → C → Plan C H → Type 0
  Turn g before c after = TurnFrom g before c (before c) after

  -- the turns of these candidates, one after the other
  abbrev pub Sweeps : Seating C H → Plan C H → List C → Plan C H → Type 0
  Sweeps g before [] after = SamePlan after before
  Sweeps g before (c ∷ cs) after = (mid : Plan C H) × Turn g before c mid × Sweeps g mid cs after

  -- the first candidate, where that is a member, and then all others, numbers rising
  abbrev pub sweep_order : Seating C H → Option C → List C
  sweep_order g None = g.members
  sweep_order g (Some c) =
      filter (g.same_candidate c) g.members ++ filter (λ d. not (g.same_candidate c d)) g.members

  abbrev pub IsSweep : Seating C H → Option C → Plan C H → Plan C H → Type 0
  IsSweep g first before after = Sweeps g before (sweep_order g first) after

  -- what a search from c without a chain adds to the dead halls: those to which c leads, rising (the halls of a
  -- Hungarian tree)
  pub record AreNewlyDead (g : Seating C H) (plan : Plan C H) (c : C) (dead halls : List H) : Type 0 where
    pub rising : IsStrictlySortedBy g.hall_cmp halls
    pub exact : (h : H) → Contains halls h ↔ (((j : ℕ) × LeadsTo g plan c j h) × (Contains dead h → ⊥))

  -- The dead list after a turn: the same after that of a seated candidate and after one that takes a chain;
  -- otherwise the newly dead halls come after the others.
  abbrev pub ListsDeadFrom : Seating C H → Plan C H → C → Option H → List H → List H → Type 0
  ListsDeadFrom g plan c (Some h) dead after = after ≡ dead
  ListsDeadFrom g plan c None dead after =
      (((chain : Chain C H) × IsChain g plan c chain) × (after ≡ dead))
      ⊎ (((chain : Chain C H) → IsChain g plan c chain → ⊥)
      × ((halls : List H) × AreNewlyDead g plan c dead halls × (after ≡ dead ++ halls)))

  abbrev pub ListsDead : Seating C H → Plan C H → C → List H → List H → Type 0
  ListsDead g plan c dead after = ListsDeadFrom g plan c (plan c) dead after

  -- the turns of these candidates, one after the other, and the dead list that each leaves
  abbrev pub SweepsDead : Seating C H → Plan C H → List H → List C → Plan C H → List H → Type 0
  SweepsDead g before dead [] after listed = SamePlan after before × (listed ≡ dead)
  SweepsDead g before dead (c ∷ cs) after listed =
      (mid : Plan C H) × (more : List H) × Turn g before c mid × ListsDead g before c dead more
      × SweepsDead g mid more cs after listed

  -- the plan and the dead list after a sweep, which begins without dead halls
  abbrev pub IsDeadList : Seating C H → Option C → Plan C H → Plan C H → List H → Type 0
  IsDeadList g first before after listed = SweepsDead g before [] (sweep_order g first) after listed

  -- the new plan of a session, from the old one
  abbrev pub IsRepair : Seating C H → Option C → Plan C H → Plan C H → Type 0
  IsRepair g first before after = IsSweep g first (kept_part g before) after
