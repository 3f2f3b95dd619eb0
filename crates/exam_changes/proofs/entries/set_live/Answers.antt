use Rattle.std.proofs.Common.{sym, subst}
use Rattle.exam_rules.specs.Relations.{relations_of}
use Rattle.exam_changes.specs.declared.undo.Undo.TheVariants as undo
use Rattle.exam_changes.specs.Undoing.{TakesBack}
use Rattle.exam_changes.proofs.Undoing.{entry_back}
use Rattle.exam_changes.proofs.entries.set_live.Goals as goal

pub returns-clause-back : goal.returns-clause-back
returns-clause-back c =
    let r = relations_of c.args.facts.now in
    subst (λ rows. TakesBack (undo.Entry (c.args.number, c.args.paper) c.exchange-old.result)
    (record r { entries = rows }) r) (sym c.exchange-old.ensures.new)
    (entry_back r (c.args.number, c.args.paper)
    (record { live = c.args.live }) c.exchange-old.result c.exchange-old.ensures.rising c.exchange-old.ensures.old)
