use Rattle.std.proofs.Common.{◌≡◌, Err, rules}
use Rattle.exam_tables.proofs.RowByRow.{scan_fails, scan_loads}
use Rattle.exam_tables.proofs.scanning.load_rows.Goals as goal

pub returns-in_err-table : goal.returns-in_err-table
returns-in_err-table g c =
    let is : c.from_residual.result ≡ Err c.in_err-table.field-0.0 = search rules in
    rw is (scan_fails g.S.Store g.T.StoredRows.form g.met.T.StoredRows.ours c.args.conn.now c.scan_table.new.conn
    c.scan_table.ensures.early c.scan_table.ensures.survives c.in_err-table.field-0.0 c.in_err-table.ensures.scans
    c.in_err-table.ensures.told)

pub returns : goal.returns
returns g c =
    rw c.ok_or.ensures.value
    (scan_loads g.S.Store g.T.StoredRows.form g.met.T.StoredRows.ours c.args.conn.now c.scan_table.new.conn
    c.scan_table.ensures.early c.scan_table.ensures.survives c.in_ok-table.table c.in_ok-table.ensures.scans)
