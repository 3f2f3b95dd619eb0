use Rattle.std.proofs.Common.{ℕ, sym, subst}
use Rattle.exam_rules.specs.Relations.{Code, relations_of}
use Rattle.exam_changes.specs.declared.undo.Undo.TheVariants as undo
use Rattle.exam_changes.specs.Undoing.{TakesBack}
use Rattle.exam_changes.proofs.Undoing.{appeal_back}
use Rattle.exam_changes.proofs.retracting.retract.Goals as goal

pub returns-in_ok-retracted-in-Pending-clause-back :
    goal.returns-in_ok-retracted-in-Pending-clause-back
returns-in_ok-retracted-in-Pending-clause-back c =
    let r = relations_of c.args.facts.now in
    let key : ℕ × Code = (c.args.number, c.args.reference) in
    subst (λ rows. TakesBack (undo.Appeal key c.exchange-old.result) (record r { appeals = rows }) r)
    (sym c.exchange-old.ensures.new)
    (appeal_back r key c.in_ok-retracted-in-Pending.retracted c.exchange-old.result c.exchange-old.ensures.rising
    c.exchange-old.ensures.old)
