use Rattle.exam_tables.proofs.Words.{state, put_edits}
use Rattle.std.proofs.Common.{arith}
use Rattle.exam_tables.specs.OurTables.{seats_ours}
use Rattle.exam_tables.proofs.Steps.{makes_by, passed}
use Rattle.exam_tables.proofs.tables.seats.SeatTableStoredRows.put.Goals as goal

pub returns-clause-made : goal.returns-clause-made
returns-clause-made g c =
    let old = state g.S.Store c.args.tx.now.conn.now in
    let new = state g.S.Store c.run.new.tx.conn.now in
    makes_by (put_edits (seats_ours.puts c.args.key.now c.args.hall.now)) old new c.run.result
    (rw (
      c.as_bytes.ensures.value,
      c.from.ensures,
      c.get.ensures.value,
      passed c.args.key.now.1 (omega (arith, c.get.ensures.range)),
      c.as_bytes-2.ensures.value,
    ) at c.run.ensures.runs)
