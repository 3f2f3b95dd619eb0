-- The lines of a name, met one after another.
use Rattle.std.proofs.Common.{ℕ, List, [], ◌∷◌}
use Rattle.exam_request.specs.Head.{Found, absent, found_in, many, one}

-- what was met and what is still to come
abbrev pub with_more : Found → List (List ℕ) → Found
with_more absent values = found_in values
with_more (one value) [] = one value
with_more (one value) (other ∷ more) = many
with_more many values = many
