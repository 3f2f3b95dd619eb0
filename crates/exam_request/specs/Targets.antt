-- What a target says: the product's own reading of it, byte by byte.
use Rattle.std.specs.Prelude.{◌≡◌, ◌<◌, ◌||◌, ◌==◌, ◌+◌, ℕ, drop, List, [], ◌∷◌, ◌++◌, length, Bool}
use Rattle.std.specs.Prelude.{true, false, Option, Some, None, codes, option_and_then, if◌then◌else◌}
use Rattle.std.specs.Str.{bytes_eq}
use Rattle.matchit.specs.Seek.{has_slash}
use Rattle.exam_request.specs.declared.routes.Found.{Found}
use Rattle.exam_request.specs.declared.routes.Route.{Route}
use Rattle.exam_request.specs.declared.routes.Route.TheVariants.{Appeal, Appeals, Clashes, Seats}

-- a route with the parts that fill its names; the reference is empty if the route has none
pub record Target : Type 0 where
  pub route : Route
  pub number : List ℕ
  pub reference : List ℕ

-- what the program found, as a target
abbrev pub target_of : Found → Target
target_of f = record { route = f.route; number = f.number.now; reference = f.reference.now }

-- the bytes before the first slash
abbrev pub part : List ℕ → List ℕ
part [] = []
part (b ∷ rest) = if b == 47 then [] else b ∷ part rest

-- the bytes after the first slash, if there is one
abbrev pub behind : List ℕ → Option (List ℕ)
behind [] = None
behind (b ∷ rest) = if b == 47 then Some rest else behind rest

-- the bytes after a beginning, if they begin with it
abbrev pub rest_after : List ℕ → List ℕ → Option (List ℕ)
rest_after [] text = Some text
rest_after (b ∷ bs) [] = None
rest_after (b ∷ bs) (x ∷ text) = if x == b then rest_after bs text else None

-- no byte
abbrev pub is_empty : List ℕ → Bool
is_empty [] = true
is_empty (b ∷ rest) = false

-- the target after the slash that follows `appeals`: a reference, to the end
abbrev pub at_reference : List ℕ → List ℕ → Option Target
at_reference number text =
    if is_empty text || has_slash text then None
    else Some (record { route = Appeal; number = number; reference = text })

-- the target after the slash that follows the number
abbrev pub at_number : List ℕ → List ℕ → Option Target
at_number number text =
    if bytes_eq text (codes "seats") then Some (record { route = Seats; number = number; reference = [] })
    else if bytes_eq text (codes "clashes") then
    Some (record { route = Clashes; number = number; reference = [] })
    else if bytes_eq text (codes "appeals") then
    Some (record { route = Appeals; number = number; reference = [] })
    else option_and_then (at_reference number) (rest_after (codes "appeals/") text)

-- the target after `/candidates/`: a number and more
abbrev pub at_candidates : List ℕ → Option Target
at_candidates text =
    if is_empty (part text) then None else option_and_then (at_number (part text)) (behind text)

-- what a target says, if it has a route: the whole target is read, as it is
abbrev pub reading : List ℕ → Option Target
reading target = option_and_then at_candidates (rest_after (codes "/candidates/") target)

-- the reference in a target with a number of this length
abbrev pub reference_in : Route → ℕ → List ℕ → List ℕ
reference_in Seats number target = []
reference_in Clashes number target = []
reference_in Appeals number target = []
reference_in Appeal number target = part (drop (number + 21) target)

-- one or more bytes without a slash
abbrev pub IsPart : List ℕ → Type 0
IsPart text = (0 < length text) × (has_slash text ≡ false)

-- the text of a target after its number
abbrev pub behind_number : Route → List ℕ → List ℕ
behind_number Seats reference = codes "/seats"
behind_number Clashes reference = codes "/clashes"
behind_number Appeals reference = codes "/appeals"
behind_number Appeal reference = codes "/appeals/" ++ reference

-- the text of a target with these parts
abbrev pub target_text : Target → List ℕ
target_text t = codes "/candidates/" ++ t.number ++ behind_number t.route t.reference

-- a part if the route has a reference, and nothing if it has none
abbrev pub IsReferenceOf : Route → List ℕ → Type 0
IsReferenceOf Seats reference = reference ≡ []
IsReferenceOf Clashes reference = reference ≡ []
IsReferenceOf Appeals reference = reference ≡ []
IsReferenceOf Appeal reference = IsPart reference

-- a target of this route can have these parts
abbrev pub HasParts : Target → Type 0
HasParts t = IsPart t.number × IsReferenceOf t.route t.reference
