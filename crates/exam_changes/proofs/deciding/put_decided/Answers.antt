use Rattle.std.proofs.Common.{◌∙◌}
use Rattle.exam_rules.specs.Relations.{Relations, relations_of}
use Rattle.exam_changes.proofs.Undoing.{none_back, rows_back}
use Rattle.exam_changes.proofs.deciding.put_decided.Goals as goal

pub take_back-requires : goal.take_back-requires
take_back-requires c =
    let old : Relations = relations_of c.args.facts.now in
    (rows_back c.put_rows.new.kept (relations_of c.put_rows.new.facts) old
    (c.put_rows.ensures.back old (none_back c.none-kept.result old c.none-kept.ensures))).0

pub returns-in-Ok-clause-back : goal.returns-in-Ok-clause-back
returns-in-Ok-clause-back c =
    let old : Relations = relations_of c.args.facts.now in
    rows_back c.put_rows.new.kept (relations_of c.put_rows.new.facts) old
    (c.put_rows.ensures.back old (none_back c.none-kept.result old c.none-kept.ensures))

pub returns-in-Err-clause-same : goal.returns-in-Err-clause-same
returns-in-Err-clause-same c =
    let old : Relations = relations_of c.args.facts.now in
    c.take_back.ensures ∙
    (rows_back c.put_rows.new.kept (relations_of c.put_rows.new.facts) old
    (c.put_rows.ensures.back old (none_back c.none-kept.result old c.none-kept.ensures))).1
