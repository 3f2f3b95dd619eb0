use Rattle.exam_rules.proofs.Words.{Entrant, relations_of, same_code}
use Rattle.std.proofs.Common.{List, cond, refl, ap, ◌∙◌}
use Rattle.exam_rules.specs.Lists.{placed, listed_paper}
use Rattle.exam_rules.proofs.Relisting.{relisted_lists}
use Rattle.exam_rules.proofs.listing.SessionLists.relist.Goals as goal

pub returns-clause-ok : goal.returns-clause-ok
returns-clause-ok c = λ before are sets.
    let after = relations_of c.args.facts.now in
    relisted_lists before after c.args.session c.args.number sets c.args.self.now
    (record { members = c.exchange.new.lists; halls = c.args.self.now.halls }) c.in_ok-list.list.items
    c.show_order.ensures are
    (c.in_ok-list.ensures.ok ∙ ap (λ o. placed c.args.number o c.members_of.result.now) c.listed_paper-paper.ensures
    ∙ ap (placed c.args.number (listed_paper after c.args.session c.args.number)) c.members_of.ensures)
    (λ t. c.exchange.ensures.lists t
    ∙ ap (λ (es : List Entrant). cond (same_code c.args.session t) c.in_ok-list.list.items es)
    (c.in_ok-keep_list.ensures.same t))
    refl
