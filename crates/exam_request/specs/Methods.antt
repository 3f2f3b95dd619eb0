-- The methods of each route.
use Rattle.std.specs.Prelude.{ℕ, List, Bool, ◌||◌, codes}
use Rattle.std.specs.Str.{bytes_eq}
use Rattle.exam_request.specs.declared.routes.Route.{Route}
use Rattle.exam_request.specs.declared.routes.Route.TheVariants.{Appeal, Appeals, Clashes, Seats}

-- the method is one of the route's; its letters are capitals
abbrev pub is_allowed : Route → List ℕ → Bool
is_allowed Seats method = bytes_eq method (codes "GET")
is_allowed Clashes method = bytes_eq method (codes "GET")
is_allowed Appeals method = bytes_eq method (codes "GET") || bytes_eq method (codes "POST")
is_allowed Appeal method = bytes_eq method (codes "DELETE")

-- the route's methods, as the answer to any other method lists them
abbrev pub allow_text : Route → List ℕ
allow_text Seats = codes "GET"
allow_text Clashes = codes "GET"
allow_text Appeals = codes "GET, POST"
allow_text Appeal = codes "DELETE"
