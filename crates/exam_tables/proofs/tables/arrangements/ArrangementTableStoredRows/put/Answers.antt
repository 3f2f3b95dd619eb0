-- The parameters are the columns of the row, in the order of the text, so the text puts just that row.
use Rattle.exam_tables.proofs.Words.{state, features_sum, put_edits}
use Rattle.std.proofs.Common.{arith}
use Rattle.exam_tables.specs.OurTables.{arrangements_ours}
use Rattle.exam_tables.proofs.Steps.{makes_by, passed}
use Rattle.exam_tables.proofs.tables.arrangements.ArrangementTableStoredRows.put.Goals as goal

pub returns-clause-made : goal.returns-clause-made
returns-clause-made g c =
    let old = state g.S.Store c.args.tx.now.conn.now in
    let new = state g.S.Store c.run.new.tx.conn.now in
    makes_by (put_edits (arrangements_ours.puts c.args.number.now c.args.arrangement.now)) old new c.run.result
    (rw (
      c.from.ensures,
      c.get.ensures.value,
      passed c.args.number.now (omega (arith, c.get.ensures.range)),
      c.from-2.ensures,
      c.sum.ensures.value,
      passed (features_sum c.args.arrangement.now.needs) (omega (arith, c.sum.ensures.range, c.sum.ensures.value)),
      c.from-3.ensures,
      c.get-2.ensures.value,
      passed c.args.arrangement.now.extra (omega (arith, c.get-2.ensures.range)),
    ) at c.run.ensures.runs)
