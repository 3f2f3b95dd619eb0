use Rattle.exam_tables.proofs.Words.{state}
use Rattle.std.proofs.Common.{pos, arith}
use Rattle.exam_sql.proofs.EachRow.{deletes_seat}
use Rattle.exam_tables.proofs.Steps.{makes_by, passed}
use Rattle.exam_tables.proofs.tables.seats.SeatTableShrinks.delete.Goals as goal

pub returns-clause-made : goal.returns-clause-made
returns-clause-made g c =
    let old = state g.S.Store c.args.tx.now.conn.now in
    let new = state g.S.Store c.run.new.tx.conn.now in
    makes_by (deletes_seat c.args.key.now.0 (pos c.args.key.now.1)) old new c.run.result
    (rw (
      c.as_bytes.ensures.value,
      c.from.ensures,
      c.get.ensures.value,
      passed c.args.key.now.1 (omega (arith, c.get.ensures.range)),
    ) at c.run.ensures.runs)
