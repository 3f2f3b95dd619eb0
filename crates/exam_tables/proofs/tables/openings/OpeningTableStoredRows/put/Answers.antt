-- The parameters are the columns of the row, in the order of the text, so the text puts just that row.
use Rattle.exam_tables.proofs.Words.{state, put_edits}
use Rattle.std.proofs.Common.{arith, if◌then◌else◌}
use Rattle.exam_tables.specs.OurTables.{openings_ours}
use Rattle.exam_tables.proofs.Steps.{makes_by, passed, flag_small}
use Rattle.exam_tables.proofs.tables.openings.OpeningTableStoredRows.put.Goals as goal

pub returns-clause-made : goal.returns-clause-made
returns-clause-made g c =
    let old = state g.S.Store c.args.tx.now.conn.now in
    let new = state g.S.Store c.run.new.tx.conn.now in
    makes_by (put_edits (openings_ours.puts c.args.key.now c.args.opening.now)) old new c.run.result
    (rw (
      c.as_bytes.ensures.value,
      c.as_bytes-2.ensures.value,
      c.from.ensures,
      c.get.ensures.value,
      passed c.args.opening.now.desks (omega (arith, c.get.ensures.range)),
      c.from-2.ensures,
      c.get-2.ensures.value,
      passed c.args.opening.now.until (omega (arith, c.get-2.ensures.range)),
      c.flag.ensures,
      passed (if c.args.opening.now.reserved then 1 else 0) (flag_small c.args.opening.now.reserved),
    ) at c.run.ensures.runs)
