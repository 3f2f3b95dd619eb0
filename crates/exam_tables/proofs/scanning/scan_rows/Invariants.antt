use Rattle.exam_tables.proofs.Words.{state, HasCleanDisk, Survives}
use Rattle.std.proofs.Common.{◌≡◌, []}
use Rattle.sqlite.specs.Given.{HasGiven}
use Rattle.exam_tables.proofs.RowByRow.{HasScanned}
use Rattle.exam_tables.proofs.scanning.scan_rows.Given as goal

-- the map has the rows that the query gave
abbrev pub invariant-steps : goal.invariant-steps
invariant-steps g l =
    let old = l.fn.rows.conn.now in
    let now = l.rows.conn.now in
    (l.rows.conn.ghost_name ≡ l.fn.rows.conn.ghost_name)
    × Survives (state g.S.Store old) (state g.S.Store now) (λ _. ⊥)
    × (HasCleanDisk (state g.S.Store now) → HasGiven g.S.Store g.T.StoredRows.form.load [] old []
    → HasScanned g.S.Store g.T.Key.Ord.cmp g.T.StoredRows.form old now l.table.entries)
