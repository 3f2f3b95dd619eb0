-- Candidates and halls as indices.
use Rattle.std.specs.Prelude.{◌≡◌, ℕ, ◌<◌, ◌≤◌, Bool, true, nat_lt, nat_eq, List, [], length, map, All, Option}
use Rattle.std.specs.Prelude.{IfSome, slice_get, slice_index, slice_index_or}
use Rattle.std.specs.List.{list_any}
use Rattle.std.specs.List.Sorted.{IsStrictlySortedBy}
use Rattle.std.specs.Option.{option_flatten}
use Rattle.std.specs.Ordering.{nat_cmp}
use Rattle.std.specs.List.{range_with_len, IsDistinct}
use Rattle.exam_plan.specs.HallSets.{most_halls, holds, halls_below}
use Rattle.exam_plan.specs.Matching.{Seating, Plan, desk_number}

-- the desks of each hall, the halls that fit each candidate, and the candidates' places in the order of desks
pub record Problem : Type 0 where
  pub desk_counts : List ℕ
  pub fit : List (List ℕ)
  pub rank : List ℕ

-- the most candidates that a problem may have, which are the members of a session
abbrev pub most_members : ℕ
most_members = 4096

-- not too many candidates, as many ranks, which are distinct; the halls of a row rise and exist
pub record IsProblem (p : Problem) : Type 0 where
  pub few : length p.fit ≤ most_members
  pub ranked : length p.rank ≡ length p.fit
  pub distinct : IsDistinct nat_eq p.rank
  pub rising : All (IsStrictlySortedBy nat_cmp) p.fit
  pub exist : All (All (λ h. h < length p.desk_counts)) p.fit

-- what is kept of a problem whose rows are sets: not too many halls, and no hall in a row that does not exist
pub record AreMasks (desks rows rank : List ℕ) : Type 0 where
  pub problem : IsProblem (record { desk_counts = desks; fit = map (halls_below (length desks)) rows; rank = rank })
  pub few_halls : length desks ≤ most_halls
  pub within : All (λ row. (h : ℕ) → holds row h ≡ true → h < length desks) rows

abbrev pub seating_of : Problem → Seating ℕ ℕ
seating_of p = record {
  members = range_with_len 0 (length p.fit);
  fits = λ c h. list_any (nat_eq h) (slice_index_or p.fit c []);
  desks = λ h. slice_index p.desk_counts h;
  same_candidate = nat_eq;
  same_hall = nat_eq;
  candidate_cmp = nat_cmp;
  hall_cmp = nat_cmp;
}

-- a list has each candidate's hall, or none, at the candidate's place
abbrev pub plan_at : List (Option ℕ) → Plan ℕ ℕ
plan_at halls c = option_flatten (slice_get halls c)

-- one place for each candidate, and halls that exist
pub record IsPlan (p : Problem) (halls : List (Option ℕ)) : Type 0 where
  pub whole : length halls ≡ length p.fit
  pub exist : All (λ hall. IfSome hall (λ h. h < length p.desk_counts)) halls

abbrev pub ranks_before : Problem → ℕ → ℕ → Bool
ranks_before p c d = nat_lt (slice_index p.rank c) (slice_index p.rank d)

-- the desk number of each candidate, or none
abbrev pub desk_numbers : Problem → List (Option ℕ) → List (Option ℕ)
desk_numbers p halls =
    map (desk_number (seating_of p) (ranks_before p) (plan_at halls)) (range_with_len 0 (length p.fit))
