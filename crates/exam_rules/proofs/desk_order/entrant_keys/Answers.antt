use Rattle.exam_rules.proofs.Words.{map-map, Entrant, relations_of, least_live_paper, desk_key}
use Rattle.std.proofs.Common.{◌≡◌, ◌++◌, ◌∷◌, [], All, Some, ap, sym, subst, ◌∙◌}
use Rattle.exam_rules.proofs.Listed.{entrants_sit}
use Rattle.exam_rules.proofs.Ranking.{map_step, map_end}
use Rattle.exam_rules.proofs.desk_order.entrant_keys.Goals as goal

pub loop-entrant-preserved : goal.loop-entrant-preserved
loop-entrant-preserved c =
    let known : least_live_paper (relations_of c.args.facts.now) c.args.session.now c.entrant-item.result.number
    ≡ Some c.entrant-item.result.paper =
    subst (λ (e : Entrant). least_live_paper (relations_of c.args.facts.now) c.args.session.now e.number
    ≡ Some e.paper) (sym c.entrant-item.is)
    (subst (All (λ (e : Entrant). least_live_paper (relations_of c.args.facts.now) c.args.session.now e.number
    ≡ Some e.paper)) (sym c.requires)
    (entrants_sit (relations_of c.args.facts.now) c.args.session.now) c.loop-entrant.entrant-index
    c.entrant-item.result c.loop-entrant-test.true) in
    map_step (λ (e : Entrant). desk_key (relations_of c.args.facts.now) c.args.session.now e.number)
    c.args.entrants.now c.loop-entrant.entrant-index c.entrant-item.result
    c.loop-entrant.keys.items c.push.new.self.items _ c.loop-entrant-test.true
    (c.in_ok-push.ensures.items
    ∙ ap (λ sat. c.loop-entrant.keys.items ++ (sat, c.entrant-item.result.number) ∷ [])
    (c.sitting_beside-sat.ensures known)
    ∙ ap (λ (e : Entrant). c.loop-entrant.keys.items
    ++ desk_key (relations_of c.args.facts.now) c.args.session.now e.number ∷ []) c.entrant-item.is)
    c.loop-entrant.invariant

pub returns-clause-ok : goal.returns-clause-ok
returns-clause-ok c =
    map_end (λ (e : Entrant). desk_key (relations_of c.args.facts.now) c.args.session.now e.number) c.args.entrants.now
    c.loop-entrant.entrant-index c.loop-entrant.keys.items c.loop-entrant-test.false c.loop-entrant.invariant
    ∙ sym (map-map (desk_key (relations_of c.args.facts.now) c.args.session.now)
    (λ (e : Entrant). e.number) c.args.entrants.now)
