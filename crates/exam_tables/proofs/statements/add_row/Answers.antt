use Rattle.std.proofs.Common.{sym, ◌∙◌}
use Rattle.exam_tables.proofs.Inserting.{inserted}
use Rattle.exam_tables.proofs.statements.add_row.Goals as goal

pub returns-in-Ok-None-clause-ok : goal.returns-in-Ok-None-clause-ok
returns-in-Ok-None-clause-ok g c =
    rw c.in-Ok-None.ensures.entries
    (inserted g.K.Ord.cmp c.args.key c.args.row c.args.table.now.entries
    (sym c.in-Ok-None.ensures.old ∙ c.in-Ok-None.field-0-is))
