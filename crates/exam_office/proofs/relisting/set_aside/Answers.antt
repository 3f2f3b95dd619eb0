use Rattle.std.proofs.Common.{List, Vec, ap, sym, ◌∙◌}
use Rattle.std.specs.Global.{Global}
use Rattle.exam_rules.specs.Lists.{listed}
use Rattle.exam_rules.specs.Relations.{Code}
use Rattle.exam_office.proofs.ListsPutBack.{more_back}
use Rattle.exam_office.proofs.relisting.set_aside.Goals as goal

pub returns-clause-back : goal.returns-clause-back
returns-clause-back c = λ was back.
    more_back c.args.before.now c.insert.new.self c.args.session c.in_ok-copy.copy c.args.lists.now
    c.keep_members.new.self was
    (sym c.contains_key.ensures ∙ c.if-contains_key.false) c.in_ok-insert.ensures.updates.0
    (c.in_ok-copy.ensures.items ∙ c.members_of.ensures)
    (record {
      members = c.in_ok-keep_members.ensures.same;
      halls = λ s. ap (λ (rows : List (Code × Vec Code Global)). listed rows s) c.in_ok-keep_members.ensures.halls;
    })
    c.in_ok-keep_members.ensures.kept c.in_ok-keep_members.ensures.stay back
