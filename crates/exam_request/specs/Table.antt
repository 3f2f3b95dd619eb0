-- The routes, as the router keeps them.
use Rattle.std.specs.Prelude.{◌≡◌, None, ℕ, List, [], Result, Ok, Err, codes}
use Rattle.matchit.specs.Order.{placed}
use Rattle.matchit.specs.Route.{Scan, parse_route}
use Rattle.matchit.specs.Router.{RouteOf, nearest, route_from}
use Rattle.matchit.specs.Rows.{RowsOf}
use Rattle.matchit.specs.declared.error.InsertError.{InsertError}
use Rattle.exam_request.specs.declared.routes.Route.{Route}
use Rattle.exam_request.specs.declared.routes.Route.TheVariants.{Appeal, Appeals, Clashes, Seats}

-- the routes and one more, if its text reads as a route
abbrev pub with_read : Result Scan InsertError → Route → RowsOf (RouteOf Route) → RowsOf (RouteOf Route)
with_read (Ok s) route rows = placed ((route_from s route).pattern, route_from s route) rows
with_read (Err e) route rows = rows

-- the text reads as a route, which conflicts with none of the rows
abbrev pub FreePattern : Result Scan InsertError → RowsOf (RouteOf Route) → Type 0
FreePattern (Ok s) rows = nearest s.pattern rows ≡ None
FreePattern (Err e) rows = ⊥

-- the route conflicts with none of the routes
abbrev pub IsFree : List ℕ → RowsOf (RouteOf Route) → Type 0
IsFree text rows = FreePattern (parse_route text) rows

-- the routes and one more
abbrev pub with_route : List ℕ → Route → RowsOf (RouteOf Route) → RowsOf (RouteOf Route)
with_route text route rows = with_read (parse_route text) route rows

-- the routes of the server
abbrev pub table : RowsOf (RouteOf Route)
table = with_route (codes "/candidates/{number}/appeals/{ref}") Appeal
    (with_route (codes "/candidates/{number}/appeals") Appeals
    (with_route (codes "/candidates/{number}/clashes") Clashes
    (with_route (codes "/candidates/{number}/seats") Seats [])))
