use Rattle.exam_rules.proofs.Words.{Entrant}
use Rattle.std.proofs.Common.{nat_lt, rules}
use Rattle.std.proofs.lemmas.Iterator.{YieldsList-from_slice}
use Rattle.std.proofs.lemmas.Iterator.Adapters.{items_from_extend}
use Rattle.std.proofs.lemmas.Iterator.Consumers.{YieldsList-from_copied, YieldsList-from_filter}
use Rattle.exam_rules.proofs.entering.push_greater.Goals as goal

pub returns-clause-ok : goal.returns-clause-ok
returns-clause-ok c =
    let h = items_from_extend c.extend.result c.extend.ensures.ran
    (YieldsList-from_filter _ (λ (e : Entrant). nat_lt c.args.number e.number)
    (YieldsList-from_copied (YieldsList-from_slice c.args.entrants.now cc)) c.filter-greater.ensures.closure
    (λ x b q k. search rules)) in
    search rules
