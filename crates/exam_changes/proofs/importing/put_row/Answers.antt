use Rattle.std.proofs.Common.{Some, ap, sym, ◌∙◌}
use Rattle.exam_rules.specs.Relations.{relations_of}
use Rattle.exam_commands.proofs.Stored.{row_again, stored_same}
use Rattle.exam_changes.proofs.importing.put_row.Goals as goal

pub returns-in-Some-true-clause-ok : goal.returns-in-Some-true-clause-ok
returns-in-Some-true-clause-ok c =
    let facts = relations_of c.args.facts.now in
    let row = c.args.row.now in
    sym (row_again facts row c.show_order.ensures
    (stored_same facts row (sym c.is_stored.ensures ∙ c.in-Some-true.is ∙ ap Some c.in-Some-true.field-0-test)))
