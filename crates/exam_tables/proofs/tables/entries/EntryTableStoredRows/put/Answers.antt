use Rattle.exam_tables.proofs.Words.{state, put_edits}
use Rattle.std.proofs.Common.{arith, if◌then◌else◌}
use Rattle.exam_tables.specs.OurTables.{entries_ours}
use Rattle.exam_tables.proofs.Steps.{makes_by, passed, flag_small}
use Rattle.exam_tables.proofs.tables.entries.EntryTableStoredRows.put.Goals as goal

pub returns-clause-made : goal.returns-clause-made
returns-clause-made g c =
    let old = state g.S.Store c.args.tx.now.conn.now in
    let new = state g.S.Store c.run.new.tx.conn.now in
    makes_by (put_edits (entries_ours.puts c.args.key.now c.args.entry.now)) old new c.run.result
    (rw (
      c.from.ensures,
      c.get.ensures.value,
      passed c.args.key.now.0 (omega (arith, c.get.ensures.range)),
      c.as_bytes.ensures.value,
      c.flag.ensures,
      passed (if c.args.entry.now.live then 1 else 0) (flag_small c.args.entry.now.live),
    ) at c.run.ensures.runs)
