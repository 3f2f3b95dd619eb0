use Rattle.exam_rules.proofs.Words.{Code, same_code}
use Rattle.std.proofs.Common.{List, cond, refl, ap, ◌∙◌}
use Rattle.exam_rules.specs.Lists.{without_hall}
use Rattle.exam_rules.proofs.Closing.{closed_all}
use Rattle.exam_rules.proofs.listing.SessionLists.close.Goals as goal

pub returns-clause-ok : goal.returns-clause-ok
returns-clause-ok c = λ r up are.
    closed_all c.args.session c.args.hall.now r c.args.self.now
    (record { members = c.args.self.now.members; halls = c.exchange.new.lists }) c.in_ok-list.list.items up are
    (c.in_ok-list.ensures.ok ∙ ap (without_hall c.args.hall.now) c.halls_of.ensures)
    (λ t. c.exchange.ensures.lists t
    ∙ ap (λ (es : List Code). cond (same_code c.args.session t) c.in_ok-list.list.items es)
    (c.in_ok-keep_list.ensures.same t))
    refl
