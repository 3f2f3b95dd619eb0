use Rattle.exam_tables.proofs.Words.{state, put_edits}
use Rattle.std.proofs.Common.{arith}
use Rattle.exam_tables.specs.OurTables.{candidates_ours}
use Rattle.exam_tables.proofs.Steps.{makes_by, passed}
use Rattle.exam_tables.proofs.tables.candidates.CandidateTableStoredRows.put.Goals as goal

pub returns-clause-made : goal.returns-clause-made
returns-clause-made g c =
    let old = state g.S.Store c.args.tx.now.conn.now in
    let new = state g.S.Store c.run.new.tx.conn.now in
    makes_by (put_edits (candidates_ours.puts c.args.number.now c.args.candidate.now)) old new c.run.result
    (rw (
      c.from.ensures,
      c.get.ensures.value,
      passed c.args.number.now (omega (arith, c.get.ensures.range)),
      c.as_bytes.ensures.value,
      c.as_str.ensures.value,
      c.as_bytes-2.ensures.value,
    ) at c.run.ensures.runs)
