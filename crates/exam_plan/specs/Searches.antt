-- The searches: from which halls a free desk can be reached, and to which halls a candidate leads. A set of
-- halls is a test of halls here.
use Rattle.std.specs.Prelude.{◌≡◌, ◌⊎◌, ◌↔◌, ℕ, zero, suc, ◌+◌, ◌<◌, ◌≤◌, Bool, true, false, IsTrue, List, [], ◌∷◌}
use Rattle.std.specs.Prelude.{length, Option, None, Some, IsSome, slice_index, slice_index_or, nat_eq, count_by}
use Rattle.std.specs.Prelude.{Contains}
use Rattle.std.specs.Prelude.{vec_capacity, ◌&&◌, if◌then◌else◌}
use Rattle.std.specs.List.{range_with_len, IsDistinct}
use Rattle.std.specs.Option.{option_map_or}
use Rattle.exam_plan.specs.declared.onward.Onward.{Onward}
use Rattle.exam_plan.specs.declared.tally.Tally.{Tally}
use Rattle.exam_plan.specs.declared.turns.Progress.{Progress}
use Rattle.exam_plan.specs.HallSets.{holds, halls_below}
use Rattle.exam_plan.specs.Tallies.{IsWhole, one_if, tally_of}
use Rattle.exam_plan.specs.Matching.{Plan, IsLawful}
use Rattle.exam_plan.specs.Chains.{HasFreeDesk, LeadsTo, augmented}
use Rattle.exam_plan.specs.Repair.{Turn, ListsDead}
use Rattle.exam_plan.specs.Problems.{Problem, IsPlan, seating_of, plan_at}

-- the hall is in the set
abbrev pub IsMarked : (ℕ → Bool) → ℕ → Type 0
IsMarked set h = set h ≡ true

-- exactly these halls are in the set
abbrev pub MarksAll : (ℕ → Bool) → (ℕ → Type 0) → Type 0
MarksAll set P = (h : ℕ) → IsMarked set h ↔ P h

-- a hall of the set fits the candidate
abbrev pub IsTouching : Problem → (ℕ → Bool) → ℕ → Type 0
IsTouching p set c = (k : ℕ) × IsTrue ((seating_of p).fits c k) × IsMarked set k

-- each hall that fits the candidate is in the set
abbrev pub IsWithin : Problem → (ℕ → Bool) → ℕ → Type 0
IsWithin p set c = (k : ℕ) → IsTrue ((seating_of p).fits c k) → IsMarked set k

module _ (p : Problem) (plan : Plan ℕ ℕ) where
  -- someone may go from the hall, over at most so many halls, to a free desk
  abbrev pub Reaches : ℕ → ℕ → Type 0
  Reaches zero h = HasFreeDesk (seating_of p) plan h
  Reaches (suc j) h =
      Reaches j h ⊎ ((d : ℕ) × (plan d ≡ Some h) × ((k : ℕ) × IsTrue ((seating_of p).fits d k) × Reaches j k))

  -- a hall that fits the candidate reaches a free desk
  abbrev pub CanReach : ℕ → ℕ → Type 0
  CanReach j c = (k : ℕ) × IsTrue ((seating_of p).fits c k) × Reaches j k

  -- each set below n holds the halls that reach a free desk over at most as many halls as it has sets before it
  abbrev pub AreLayers : ℕ → List ℕ → Type 0
  AreLayers n layers = (j : ℕ) → j < n → MarksAll (holds (slice_index layers j)) (Reaches j)

  -- the set of each hall holds the halls that fit some occupant
  abbrev pub AreOnward : List ℕ → Type 0
  AreOnward sets =
      (h k : ℕ) → h < length p.desk_counts → IsMarked (holds (slice_index sets h)) k
      ↔ ((d : ℕ) × (plan d ≡ Some h) × IsTrue ((seating_of p).fits d k))

  -- the set of each hall holds the halls with an occupant that it fits
  abbrev pub AreInward : List ℕ → Type 0
  AreInward sets =
      (h k : ℕ) → k < length p.desk_counts → IsMarked (holds (slice_index sets k)) h
      ↔ ((d : ℕ) × (plan d ≡ Some h) × IsTrue ((seating_of p).fits d k))

  -- the least hall of those that fit the candidate and reach a free desk
  abbrev pub IsLeastHall : ℕ → ℕ → ℕ → Type 0
  IsLeastHall j c h =
      IsTrue ((seating_of p).fits c h) × Reaches j h
      × ((k : ℕ) → IsTrue ((seating_of p).fits c k) → Reaches j k → h ≤ k)

  -- the least occupant of the hall who can reach a free desk
  abbrev pub IsLeastMover : ℕ → ℕ → ℕ → Type 0
  IsLeastMover j h d = (plan d ≡ Some h) × CanReach j d × ((e : ℕ) → plan e ≡ Some h → CanReach j e → d ≤ e)

  -- a chain with so many hops that takes the least hall and the least occupant each time
  abbrev pub TakesLeast : ℕ → ℕ → List (ℕ × ℕ) → ℕ → Type 0
  TakesLeast zero c [] last = IsLeastHall zero c last
  TakesLeast zero c (hop ∷ hops) last = ⊥
  TakesLeast (suc j) c [] last = ⊥
  TakesLeast (suc j) c (hop ∷ hops) last =
      IsLeastHall (suc j) c hop.0 × IsLeastMover j hop.0 hop.1 × TakesLeast j hop.1 hops last

  -- the plan after everybody has moved along such a chain to the last hall
  abbrev pub IsAdvanced : ℕ → ℕ → ℕ → Plan ℕ ℕ → Type 0
  IsAdvanced j c last after =
      (hops : List (ℕ × ℕ)) × TakesLeast j c hops last
      × ((d : ℕ) → after d ≡ augmented (seating_of p) plan c hops last d)

  -- what a search from the candidate found: how many hops the least chain has, or that there is no chain
  abbrev pub IsFound : List ℕ → ℕ → Option ℕ → Type 0
  IsFound layers c (Some hops) =
      (hops < length layers) × AreLayers (hops + 1) layers × CanReach hops c
      × ((j : ℕ) → j < hops → CanReach j c → ⊥)
  IsFound layers c None = (j h : ℕ) → LeadsTo (seating_of p) plan c j h → HasFreeDesk (seating_of p) plan h → ⊥

  -- the halls of the set are full, and no other hall fits their occupants
  pub record AreClosed (dead : ℕ → Bool) : Type 0 where
    pub full : (h : ℕ) → IsMarked dead h → HasFreeDesk (seating_of p) plan h → ⊥
    pub stays : (d h k : ℕ) → plan d ≡ Some h → IsMarked dead h → IsTrue ((seating_of p).fits d k)
        → IsMarked dead k

  -- seated, or each hall that fits is in the set
  abbrev pub IsSettled : (ℕ → Bool) → ℕ → Type 0
  IsSettled dead c = IsSome (plan c) ⊎ IsWithin p dead c

  -- an unseated candidate whose fitting halls are in the set leads to the hall
  abbrev pub IsTraced : (ℕ → Bool) → ℕ → Type 0
  IsTraced dead h = (c : ℕ) × (j : ℕ) × (plan c ≡ None) × IsWithin p dead c
      × LeadsTo (seating_of p) plan c j h

  -- over at most so many halls an unseated candidate leads to the hall
  abbrev pub Draws : ℕ → ℕ → Type 0
  Draws zero h = ⊥
  Draws (suc j) h =
      (c : ℕ) × ((plan c ≡ None) ⊎ ((k : ℕ) × (plan c ≡ Some k) × Draws j k))
      × IsTrue ((seating_of p).fits c h)

-- how many of the candidates below n sit in the hall
abbrev pub count_at : Plan ℕ ℕ → ℕ → ℕ → ℕ
count_at plan h n = count_by (λ c. option_map_or (nat_eq h) (plan c) false) (range_with_len 0 n)

-- the candidate sits in the hall h, and the hall k fits them
abbrev pub is_fitting_occupant : Problem → Plan ℕ ℕ → ℕ → ℕ → ℕ → Bool
is_fitting_occupant p plan h k c = option_map_or (nat_eq h) (plan c) false && (seating_of p).fits c k

-- how many of the candidates below n sit in the hall h and are fitted by the hall k
abbrev pub fitting_count : Problem → Plan ℕ ℕ → ℕ → ℕ → ℕ → ℕ
fitting_count p plan h k n = count_by (is_fitting_occupant p plan h k) (range_with_len 0 n)

abbrev pub no_digits : Tally
no_digits = record { low = []; high = [] }

-- how often the hall k was counted for the hall h
abbrev pub tally_at : List Tally → ℕ → ℕ → ℕ
tally_at tallies h k = tally_of (slice_index_or tallies h no_digits) k

-- for each hall a tally, a number and a set: the halls that were counted; and the sets the other way round
pub record IsShaped (p : Problem) (table : Onward) : Type 0 where
  pub tallies : length table.tallies.items ≡ length p.desk_counts
  pub digits : (h : ℕ) → h < length p.desk_counts
      → IsWhole (slice_index_or table.tallies.items h no_digits)
  pub sets : length table.sets.items ≡ length p.desk_counts
  pub firsts : length table.firsts.items ≡ length p.desk_counts
  pub counted : (h k : ℕ) → h < length p.desk_counts
      → IsMarked (holds (slice_index table.sets.items h)) k ↔ 0 < tally_at table.tallies.items h k
  pub inward : length table.inward.items ≡ length p.desk_counts
  pub turned : (h k : ℕ) → k < length p.desk_counts
      → holds (slice_index table.inward.items k) h ≡ holds (slice_index table.sets.items h) k

-- the table of the candidates below n: how many occupants of each hall each hall fits, and where to look for them
pub record IsTable (p : Problem) (plan : Plan ℕ ℕ) (n : ℕ) (table : Onward) : Type 0 where
  pub shaped : IsShaped p table
  pub tallies : (h k : ℕ) → h < length p.desk_counts
      → tally_at table.tallies.items h k ≡ fitting_count p plan h k n
  pub firsts : (d h : ℕ) → d < n → plan d ≡ Some h → slice_index table.firsts.items h ≤ d

-- the table of all candidates, once it is noted, and of none before
abbrev pub IsOnward : Problem → Plan ℕ ℕ → Onward → Type 0
IsOnward p plan table = IsTable p plan (if table.is_noted then length p.fit else 0) table

-- a table after the candidate was added to the occupants of the hall
pub record IsEntered (p : Problem) (before : Onward) (h c : ℕ) (after : Onward) : Type 0 where
  pub shaped : IsShaped p after
  pub noted : after.is_noted ≡ before.is_noted
  pub more : (g k : ℕ) → g < length p.desk_counts → tally_at after.tallies.items g k
      ≡ tally_at before.tallies.items g k + one_if (nat_eq g h && (seating_of p).fits c k)
  pub lower : (g : ℕ) → slice_index after.firsts.items g ≤ slice_index before.firsts.items g
  pub first : slice_index after.firsts.items h ≤ c

-- a table after the candidate was taken from the occupants of the hall
pub record IsLeft (p : Problem) (before : Onward) (h c : ℕ) (after : Onward) : Type 0 where
  pub shaped : IsShaped p after
  pub noted : after.is_noted ≡ before.is_noted
  pub less : (g k : ℕ) → g < length p.desk_counts → tally_at after.tallies.items g k
      + one_if (nat_eq g h && (seating_of p).fits c k) ≡ tally_at before.tallies.items g k
  pub firsts : after.firsts.items ≡ before.firsts.items

-- unseated, or in a hall of the set
abbrev pub is_drawn : (ℕ → Bool) → Option ℕ → Bool
is_drawn set None = true
is_drawn set (Some h) = set h

-- What a sweep keeps beside its plan: the occupants of each hall, the halls with a free desk, the table of who
-- may move on, the dead halls, and their list. A dead hall is full, its occupants fit dead halls alone, and an
-- unseated candidate leads to it.
pub record IsKept (p : Problem) (sweep : Progress) : Type 0 where
  pub plan : IsPlan p sweep.plan.items
  pub lawful : IsLawful (seating_of p) (plan_at sweep.plan.items)
  pub halls : length sweep.counts.items ≡ length p.desk_counts
  pub counts : (h : ℕ) → h < length p.desk_counts
      → slice_index sweep.counts.items h ≡ count_at (plan_at sweep.plan.items) h (length p.fit)
  pub free : MarksAll (holds sweep.free) (HasFreeDesk (seating_of p) (plan_at sweep.plan.items))
  pub closed : AreClosed p (plan_at sweep.plan.items) (holds sweep.dead)
  pub traced : (h : ℕ) → IsMarked (holds sweep.dead) h → IsTraced p (plan_at sweep.plan.items) (holds sweep.dead) h
  pub listed : (h : ℕ) → Contains sweep.listed.items h ↔ IsMarked (holds sweep.dead) h
  pub once : IsDistinct nat_eq sweep.listed.items
  pub many : length sweep.listed.items ≡ length (halls_below (length p.desk_counts) sweep.dead)
  pub room : length p.desk_counts ≤ vec_capacity sweep.listed
  pub onward : IsOnward p (plan_at sweep.plan.items) sweep.onward
  pub layers : length sweep.layers.items ≡ length p.desk_counts + 1

-- a sweep after the candidate's turn: nobody loses a desk, and who was settled is
pub record IsNextTurn (p : Problem) (before : Progress) (c : ℕ) (after : Progress) : Type 0 where
  pub kept : IsKept p after
  pub seated : (d : ℕ) → IsSome (plan_at before.plan.items d) → IsSome (plan_at after.plan.items d)
  pub turn : Turn (seating_of p) (plan_at before.plan.items) c (plan_at after.plan.items)
  pub deaths : ListsDead (seating_of p) (plan_at before.plan.items) c before.listed.items after.listed.items
  pub settled : IsSettled p (plan_at after.plan.items) (holds after.dead) c
  pub others : (d : ℕ) → IsSettled p (plan_at before.plan.items) (holds before.dead) d
      → IsSettled p (plan_at after.plan.items) (holds after.dead) d
