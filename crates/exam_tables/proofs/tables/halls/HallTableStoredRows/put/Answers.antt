use Rattle.exam_tables.proofs.Words.{state, features_sum, put_edits}
use Rattle.std.proofs.Common.{arith}
use Rattle.exam_tables.specs.OurTables.{halls_ours}
use Rattle.exam_tables.proofs.Steps.{makes_by, passed}
use Rattle.exam_tables.proofs.tables.halls.HallTableStoredRows.put.Goals as goal

pub returns-clause-made : goal.returns-clause-made
returns-clause-made g c =
    let old = state g.S.Store c.args.tx.now.conn.now in
    let new = state g.S.Store c.run.new.tx.conn.now in
    makes_by (put_edits (halls_ours.puts c.args.code.now c.args.hall.now)) old new c.run.result
    (rw (
      c.as_bytes.ensures.value,
      c.as_bytes-2.ensures.value,
      c.as_str.ensures.value,
      c.from.ensures,
      c.sum.ensures.value,
      passed (features_sum c.args.hall.now.features) (omega (arith, c.sum.ensures.range, c.sum.ensures.value)),
    ) at c.run.ensures.runs)
