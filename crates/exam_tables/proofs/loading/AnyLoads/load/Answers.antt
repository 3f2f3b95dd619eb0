use Rattle.exam_tables.proofs.Words.{table_part}
use Rattle.exam_tables.proofs.PartByPart.{by_queries}
use Rattle.exam_tables.proofs.loading.AnyLoads.load.Goals as goal

pub returns : goal.returns
returns g c =
    by_queries g.S.Store c.args.conn.now c.load_rows.new.conn g.T.StoredRows.form.load g.met.T.StoredRows.ours.loads
    c.load_rows.result (table_part g.T.Key.Ord.cmp g.T.StoredRows.form) c.load_rows.ensures
