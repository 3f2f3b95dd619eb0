use Rattle.std.proofs.Common.{ℕ, sym, subst}
use Rattle.exam_rules.specs.declared.rows.Appeal.{Appeal}
use Rattle.exam_rules.specs.declared.rows.Status.TheVariants as status
use Rattle.exam_rules.specs.Relations.{Code, relations_of}
use Rattle.exam_changes.specs.declared.undo.Undo.TheVariants as undo
use Rattle.exam_changes.specs.Undoing.{TakesBack}
use Rattle.exam_changes.proofs.Undoing.{new_appeal_back}
use Rattle.exam_changes.proofs.lodging.store.Goals as goal

pub returns-clause-back : goal.returns-clause-back
returns-clause-back c =
    let r = relations_of c.args.facts.now in
    let l = c.args.lodging.now in
    let key : ℕ × Code = (l.number, l.reference) in
    let stored : Appeal =
    record {
      session = l.session;
      subject = l.subject;
      reason = c.in_ok-copy.field-0;
      status = status.Pending;
      lodged = c.args.today;
    } in
    subst (λ rows. TakesBack (undo.NewAppeal key) (record r { appeals = rows }) r) (sym c.in_ok-put.ensures.ok)
    (new_appeal_back r key stored c.requires)
