-- Sets of halls, seen as numbers: hall h is in the set where bit h is 1.
use Rattle.std.specs.Prelude.{ℕ, ◌+◌, ◌*◌, ◌^◌, ◌<◌, ◌≤◌, Bool, IsTrue, nat_eq, List, map, filter, slice_index}
use Rattle.std.specs.Int.{bit_at}
use Rattle.std.specs.List.{range_with_len}

-- the most halls that a set tells apart
abbrev pub most_halls : ℕ
most_halls = 256

-- whether the hall is in the set
abbrev pub holds : ℕ → ℕ → Bool
holds set h = nat_eq (bit_at set h) 1

-- the hall is the least of the set
abbrev pub IsLeast : ℕ → ℕ → Type 0
IsLeast set h = (h < most_halls) × IsTrue (holds set h) × ((k : ℕ) → IsTrue (holds set k) → h ≤ k)

-- the set of a mask, which is two words of 128 bits: hall h is in it where bit h % 128 of word h / 128 is 1
abbrev pub set_of_mask : List ℕ → ℕ
set_of_mask mask = slice_index mask 1 * 2 ^ 128 + slice_index mask 0

abbrev pub sets_of : List (List ℕ) → List ℕ
sets_of masks = map set_of_mask masks

-- the halls of the set below n, rising
abbrev pub halls_below : ℕ → ℕ → List ℕ
halls_below n set = filter (holds set) (range_with_len 0 n)
