use Rattle.exam_rules.proofs.Words.{same_code, listed}
use Rattle.std.proofs.Common.{List, cond, ap, sym, ◌∙◌}
use Rattle.exam_rules.proofs.Relisting.{exchanged, empty_unseen}
use Rattle.exam_rules.proofs.by_session.keep_list.Goals as goal

pub returns-clause-same : goal.returns-clause-same
returns-clause-same g c = λ s.
    exchanged c.args.lists.now.entries c.insert.new.self.entries c.new.result c.args.session s
    (c.in_ok-insert.ensures.updates.0 s)
    ∙ ap (λ (es : List g.row.T.Denot). cond (same_code c.args.session s) es (listed c.args.lists.now.entries s))
    c.new.ensures.items
    ∙ empty_unseen c.args.lists.now.entries c.args.session s (sym c.contains_key.ensures ∙ c.if-contains_key.false)
