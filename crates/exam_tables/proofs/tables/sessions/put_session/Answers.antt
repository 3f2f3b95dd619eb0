use Rattle.exam_tables.proofs.Words.{state, put_edits}
use Rattle.std.proofs.Common.{pos, arith}
use Rattle.exam_sql.proofs.EachRow.{puts}
use Rattle.exam_sql.proofs.Names.{Session}
use Rattle.exam_tables.proofs.Steps.{makes_by, passed}
use Rattle.exam_tables.proofs.tables.sessions.put_session.Goals as goal

pub returns-clause-made : goal.returns-clause-made
returns-clause-made g c =
    let old = state g.S.Store c.args.tx.now.conn.now in
    let new = state g.S.Store c.run.new.tx.conn.now in
    makes_by (put_edits (puts Session c.args.code.now c.args.day.now (pos c.args.start))) old new c.run.result
    (rw (
      c.as_bytes.ensures.value,
      c.from.ensures,
      c.get.ensures.value,
      passed c.args.start (omega (arith, c.get.ensures.range)),
    ) at c.run.ensures.runs)
