use Rattle.std.proofs.Common.{◌≡◌, length, ap, sym, ◌∙◌, arith}
use Rattle.std.proofs.lemmas.List.{length-map}
use Rattle.exam_rules.specs.Relations.{Relations}
use Rattle.exam_views.specs.Views.{appeal_row, appeals_of}
use Rattle.exam_tables.specs.Appeals.{appeals_in}
use Rattle.exam_store.proofs.FewAppeals.{few_appeals}
use Rattle.exam_store.proofs.store.count_of.Goals as goal

pub overflow_cast-result : goal.overflow_cast-result
overflow_cast-result c =
    let s = c.args.session.now in
    let many : c.count_appeals-count.result ≡ length (appeals_of c.args.office.now.relations s) =
    c.count_appeals-count.ensures.many ∙ ap (λ (r : Relations). length (appeals_in r.appeals s)) c.facts-facts.ensures
    ∙ sym (length-map (appeals_in c.args.office.now.relations.appeals s) appeal_row) in
    let few = few_appeals c.args.office.now c.show_good.ensures s in
    omega (arith, many, few)

pub returns-clause-count : goal.returns-clause-count
returns-clause-count c =
    let s = c.args.session.now in
    c.count_appeals-count.ensures.many ∙ ap (λ (r : Relations). length (appeals_in r.appeals s)) c.facts-facts.ensures
    ∙ sym (length-map (appeals_in c.args.office.now.relations.appeals s) appeal_row)
