use Rattle.std.proofs.Common.{ap, sym, subst}
use Rattle.exam_rules.specs.Lists.{AreListsOf}
use Rattle.exam_rules.specs.Relations.{Relations}
use Rattle.exam_commands.specs.State.{State}
use Rattle.exam_office.proofs.draft.Draft.take_back.Goals as goal

pub holding-requires-clause-lists : goal.holding-requires-clause-lists
holding-requires-clause-lists c =
    subst (λ (r : Relations). AreListsOf r c.take_back.new.part.lists)
    (sym (ap (λ (s : State). s.relations) c.take_back.ensures.part.state))
    (c.self.invariant.were_lists c.take_back.new.part.lists c.take_back.ensures.part.lists)
