-- A plan by the places of halls, read from where candidates sit.
use Rattle.std.specs.Prelude.{ℕ, List, map, position, Option}
use Rattle.std.specs.Option.{option_and_then}
use Rattle.exam_rules.specs.Relations.{Code, same_code}
use Rattle.exam_rules.specs.Seatings.{plan_of}

-- the place, among these halls, of the one in which the candidate sits
abbrev pub place_of : List ((Code × ℕ) × Code) → Code → List Code → ℕ → Option ℕ
place_of seats s halls c = option_and_then (λ h. position (same_code h) halls) (plan_of seats s c)

-- the place of each of these candidates' halls
abbrev pub places_of : List ((Code × ℕ) × Code) → Code → List Code → List ℕ → List (Option ℕ)
places_of seats s halls numbers = map (place_of seats s halls) numbers
