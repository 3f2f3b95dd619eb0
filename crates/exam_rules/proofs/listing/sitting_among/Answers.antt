use Rattle.exam_rules.proofs.Words.{Entrant, relations_of, least_live_paper, entrant, entrants}
use Rattle.std.proofs.Common.{◌≡◌, Contains, Some, subst}
use Rattle.std.proofs.lemmas.List.Elements.{All-contains}
use Rattle.exam_rules.proofs.Listed.{entrants_sit}
use Rattle.exam_rules.proofs.listing.sitting_among.Goals as goal

pub returns-in-Some : goal.returns-in-Some
returns-in-Some c =
    let r = relations_of c.args.facts.now in
    let s = c.args.session.now in
    c.sitting_beside.ensures
    (All-contains (λ (e : Entrant). least_live_paper r s e.number ≡ Some e.paper) (entrants r s)
    (entrant c.args.number c.in-Some.least) (entrants_sit r s)
    (subst (λ es. Contains es (entrant c.args.number c.in-Some.least)) c.requires c.in-Some.ensures.found))
