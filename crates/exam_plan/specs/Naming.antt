-- Candidates and halls by indices and by names, and plans read by the others.
use Rattle.std.specs.Prelude.{ℕ, nat_eq, Option, None, if◌then◌else◌}
use Rattle.std.specs.Option.{option_map, option_and_then}
use Rattle.exam_plan.specs.Matching.{Seating, Plan}

-- a seating by indices and one by names; the name of each index, and the index of each name that has one
pub record Naming (C H : Type 0) : Type 0 where
  pub of_indices : Seating ℕ ℕ
  pub of_names : Seating C H
  pub candidate : ℕ → C
  pub hall : ℕ → H
  pub candidate_index : C → Option ℕ
  pub hall_index : H → Option ℕ

module _ {C H : Type 0} (name : Naming C H) where
  -- a plan by indices, read by names
  abbrev pub named_plan : Plan ℕ ℕ → Plan C H
  named_plan p c = option_and_then (λ i. option_map name.hall (p i)) (name.candidate_index c)

  -- where the candidate of index i sits, if k is that index
  abbrev pub at_index : Plan C H → ℕ → ℕ → Option ℕ
  at_index q i k = if nat_eq k i then option_and_then name.hall_index (q (name.candidate i)) else None

  -- a plan by names, read by indices: nobody sits under an index that is not that of its name
  abbrev pub indexed_plan : Plan C H → Plan ℕ ℕ
  indexed_plan q i = option_and_then (at_index q i) (name.candidate_index (name.candidate i))
