use Rattle.exam_rules.proofs.Words.{flat_map, Entrant, relations_of, clashes_of, members}
use Rattle.std.proofs.Common.{◌≡◌, ℕ, List, IfOk, map, ap, subst, ◌∙◌}
use Rattle.exam_rules.proofs.clashing.clashes.Goals as goal

pub returns-clause-ok : goal.returns-clause-ok
returns-clause-ok c =
    let r = relations_of c.args.facts.now in
    let s = c.args.session.now in
    let lists = c.in_ok-lists.ensures.ok in
    let numbers : c.deref.result.now ≡ members r s =
    c.deref.ensures.value ∙ c.in_ok-numbers.ensures.ok
    ∙ ap (map (λ (e : Entrant). e.number)) (c.members_of.ensures ∙ lists.members s) ∙ lists.numbers s in
    subst (λ (ns : List ℕ). IfOk c.clashes_among.result (λ list. list.items ≡ flat_map (clashes_of r s) ns)) numbers
    c.clashes_among.ensures.ok
