use Rattle.exam_tables.proofs.Words.{state}
use Rattle.exam_sql.proofs.EachRow.{deletes_opening}
use Rattle.exam_tables.proofs.Steps.{makes_by}
use Rattle.exam_tables.proofs.tables.openings.OpeningTableShrinks.delete.Goals as goal

pub returns-clause-made : goal.returns-clause-made
returns-clause-made g c =
    let old = state g.S.Store c.args.tx.now.conn.now in
    let new = state g.S.Store c.run.new.tx.conn.now in
    makes_by (deletes_opening c.args.key.now.0 c.args.key.now.1) old new c.run.result
    (rw (c.as_bytes.ensures.value, c.as_bytes-2.ensures.value) at c.run.ensures.runs)
