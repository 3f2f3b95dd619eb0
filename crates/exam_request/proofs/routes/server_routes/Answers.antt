-- No two of the four routes match one path, so each may be added to those before it. The table is these four.
use Rattle.std.proofs.Common.{◌∙◌, ap, codes, refl, subst, sym}
use Rattle.matchit.proofs.OnLiterals.{matchit_on_literals}
use Rattle.exam_request.specs.Table.{IsFree, with_route}
use Rattle.exam_request.specs.declared.routes.Route.TheVariants.{Appeal, Appeals, Clashes, Seats}
use Rattle.exam_request.proofs.routes.server_routes.Goals as goal

pub add-requires : goal.add-requires
unfolding matchit_on_literals
add-requires c = subst (IsFree (codes "/candidates/{number}/seats")) (sym c.new-router.ensures) refl

pub add-requires-2 : goal.add-requires-2
unfolding matchit_on_literals
add-requires-2 c =
    let one = c.in_ok-add.ensures.rows
    ∙ ap (with_route (codes "/candidates/{number}/seats") Seats) c.new-router.ensures in
    subst (IsFree (codes "/candidates/{number}/clashes")) (sym one) refl

pub add-requires-3 : goal.add-requires-3
unfolding matchit_on_literals
add-requires-3 c =
    let one = c.in_ok-add.ensures.rows
    ∙ ap (with_route (codes "/candidates/{number}/seats") Seats) c.new-router.ensures in
    let two = c.in_ok-add-2.ensures.rows ∙ ap (with_route (codes "/candidates/{number}/clashes") Clashes) one in
    subst (IsFree (codes "/candidates/{number}/appeals")) (sym two) refl

pub add-requires-4 : goal.add-requires-4
unfolding matchit_on_literals
add-requires-4 c =
    let one = c.in_ok-add.ensures.rows
    ∙ ap (with_route (codes "/candidates/{number}/seats") Seats) c.new-router.ensures in
    let two = c.in_ok-add-2.ensures.rows ∙ ap (with_route (codes "/candidates/{number}/clashes") Clashes) one in
    let three = c.in_ok-add-3.ensures.rows ∙ ap (with_route (codes "/candidates/{number}/appeals") Appeals) two in
    subst (IsFree (codes "/candidates/{number}/appeals/{ref}")) (sym three) refl

pub returns-clause-table : goal.returns-clause-table
unfolding matchit_on_literals
returns-clause-table c =
    let one = c.in_ok-add.ensures.rows
    ∙ ap (with_route (codes "/candidates/{number}/seats") Seats) c.new-router.ensures in
    let two = c.in_ok-add-2.ensures.rows ∙ ap (with_route (codes "/candidates/{number}/clashes") Clashes) one in
    let three = c.in_ok-add-3.ensures.rows ∙ ap (with_route (codes "/candidates/{number}/appeals") Appeals) two in
    c.in_ok-add-4.ensures.rows ∙ ap (with_route (codes "/candidates/{number}/appeals/{ref}") Appeal) three
