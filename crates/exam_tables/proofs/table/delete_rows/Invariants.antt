use Rattle.exam_tables.proofs.Words.{state, Makes, delete_of}
use Rattle.std.proofs.Common.{◌≡◌, Ok, map, take}
use Rattle.exam_tables.proofs.table.delete_rows.Given as goal

abbrev pub invariant-keys : goal.invariant-keys
invariant-keys g l = record {
  same : l.tx.conn.ghost_name ≡ l.fn.tx.conn.ghost_name;
  made : Makes (state g.S.Store l.fn.tx.conn.now) (state g.S.Store l.tx.conn.now) (Ok tt)
      (map (λ r. delete_of g.T.Shrinks.delete_text g.T.StoredRows.form.tree g.T.StoredRows.form.places
      (g.T.Shrinks.key_of r.now)) (take l.key-index l.keys));
}
