use Rattle.exam_tables.proofs.RowByRow.{none_goes, of_bad}
use Rattle.exam_tables.proofs.scanning.read_next.Goals as goal

pub returns-in-Err-BadStore-clause-goes : goal.returns-in-Err-BadStore-clause-goes
returns-in-Err-BadStore-clause-goes g c = λ clean.
    none_goes g.S.Store g.T.StoredRows.form g.met.T.StoredRows.ours c.args.rows.now.conn.now c.advance.new.self.conn.now
    c.in-Some.row.now _ c.args.table.now.entries c.put_row.new.table.entries c.in-Some.ensures
    (c.in-Ok.ensures.ok clean) (c.in-Ok.ensures.same clean)
    (of_bad c.in-Err-BadStore.field-0 c.in-Err-BadStore.field-0-is c.in-Err-BadStore.ensures.bad)
