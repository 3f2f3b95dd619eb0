use Rattle.exam_tables.specs.Parts.{scanned_part}
use Rattle.exam_tables.proofs.PartByPart.{by_queries}
use Rattle.exam_tables.proofs.RowByRow.{scan_finds}
use Rattle.exam_tables.proofs.loading.OptionLoads.load.Goals as goal

pub returns : goal.returns
returns g c =
    by_queries g.S.Store c.args.conn.now c.scan_table.new.conn g.T.StoredRows.form.load g.met.T.StoredRows.ours.loads
    c.scan_table.result (scanned_part g.T.Key.Ord.cmp g.T.StoredRows.form)
    (scan_finds g.S.Store g.T.StoredRows.form g.met.T.StoredRows.ours c.args.conn.now c.scan_table.new.conn
    c.scan_table.ensures.early c.scan_table.ensures.survives c.scan_table.result c.scan_table.ensures.scans
    c.scan_table.ensures.told)
