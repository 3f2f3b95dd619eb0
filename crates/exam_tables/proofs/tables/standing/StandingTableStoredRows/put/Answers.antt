use Rattle.exam_tables.proofs.Words.{state, standing_ours, put_edits}
use Rattle.std.proofs.Common.{arith}
use Rattle.exam_tables.proofs.Steps.{makes_by, passed}
use Rattle.exam_tables.proofs.tables.standing.StandingTableStoredRows.put.Goals as goal

pub returns-clause-made : goal.returns-clause-made
returns-clause-made g c =
    let old = state g.S.Store c.args.tx.now.conn.now in
    let new = state g.S.Store c.run.new.tx.conn.now in
    makes_by (put_edits (standing_ours.puts c.args.key.now tt)) old new c.run.result
    (rw (
      c.from.ensures,
      c.get.ensures.value,
      passed c.args.key.now.0 (omega (arith, c.get.ensures.range)),
      c.as_bytes.ensures.value,
    ) at c.run.ensures.runs)
