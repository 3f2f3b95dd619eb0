use Rattle.exam_tables.proofs.Words.{state, Makes, row_put}
use Rattle.std.proofs.Common.{◌≡◌, Ok, map, take}
use Rattle.exam_tables.proofs.table.put_rows.Given as goal

abbrev pub invariant-rows : goal.invariant-rows
invariant-rows g l = record {
  same : l.tx.conn.ghost_name ≡ l.fn.tx.conn.ghost_name;
  made : Makes (state g.S.Store l.fn.tx.conn.now) (state g.S.Store l.tx.conn.now) (Ok tt)
      (map (λ r. row_put g.T.StoredRows.form r.0.now r.1.now) (take l.row-index l.rows));
}
