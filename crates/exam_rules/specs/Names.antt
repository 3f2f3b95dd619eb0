-- Candidates and halls as indices: the i-th member is candidate i, and the j-th open hall is hall j.
use Rattle.std.specs.Prelude.{ℕ, ◌+◌, ◌<◌, Bool, nat_eq, List, [], ◌∷◌, length, Option, None, Some, IfSome}
use Rattle.std.specs.Prelude.{slice_index, slice_index_or, if◌then◌else◌}
use Rattle.std.specs.List.Sorted.{IsStrictlySortedBy}
use Rattle.std.specs.Ordering.{nat_cmp}
use Rattle.exam_plan.specs.Matching.{Plan}
use Rattle.exam_plan.specs.Naming as plans
use Rattle.exam_rules.specs.Relations.{Code, Relations, code_cmp, same_code}
use Rattle.exam_rules.specs.Sessions.{members}
use Rattle.exam_rules.specs.Seatings.{open_halls, seating, indexed_seating}

-- the place, counted from n, of the first element that passes
abbrev pub first_place : {A : Type 0} → (A → Bool) → ℕ → List A → Option ℕ
first_place p n [] = None
first_place p n (x ∷ xs) = if p x then Some n else first_place p (n + 1) xs

abbrev pub number_at : Relations → Code → ℕ → ℕ
number_at r s i = slice_index (members r s) i

abbrev pub hall_at : Relations → Code → ℕ → Code
hall_at r s j = slice_index_or (open_halls r s) j []

abbrev pub index_of : Relations → Code → ℕ → Option ℕ
index_of r s c = first_place (nat_eq c) 0 (members r s)

abbrev pub hall_index : Relations → Code → Code → Option ℕ
hall_index r s h = first_place (same_code h) 0 (open_halls r s)

-- the session by indices, and by numbers and codes
abbrev pub naming : Relations → Code → plans.Naming ℕ Code
naming r s = record {
  of_indices = indexed_seating r s;
  of_names = seating r s;
  candidate = number_at r s;
  hall = hall_at r s;
  candidate_index = index_of r s;
  hall_index = hall_index r s;
}

-- a plan by indices, read by numbers and codes
abbrev pub named_plan : Relations → Code → Plan ℕ ℕ → Plan ℕ Code
named_plan r s = plans.named_plan (naming r s)

-- a plan by numbers and codes, read by indices: the i-th member sits in their hall, and no other index has one
abbrev pub indexed_plan : Relations → Code → Plan ℕ Code → Plan ℕ ℕ
indexed_plan r s = plans.indexed_plan (naming r s)

-- the plan by indices seats candidates only in halls that exist
abbrev pub SeatsInOpenHalls : Relations → Code → Plan ℕ ℕ → Type 0
SeatsInOpenHalls r s p = (i : ℕ) → IfSome (p i) (λ j. j < length (open_halls r s))

-- Numbers and codes rise. This holds for the facts, whose tables are in order.
pub record ListsRise (r : Relations) (s : Code) : Type 0 where
  pub numbers : IsStrictlySortedBy nat_cmp (members r s)
  pub codes : IsStrictlySortedBy code_cmp (open_halls r s)
