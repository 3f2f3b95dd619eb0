-- The parameters are the columns of the row, in the order of the text, so the text puts just that row.
use Rattle.exam_tables.proofs.Words.{state, kind_number, state_number, appeals_ours, put_edits}
use Rattle.std.proofs.Common.{arith}
use Rattle.exam_tables.specs.Stored.{needs_of, extra_of, answer_of}
use Rattle.exam_tables.proofs.Steps.{makes_by, passed, bound_answer, kind_small, state_small}
use Rattle.exam_tables.proofs.tables.appeals.put_appeal.Goals as goal

pub returns-clause-made : goal.returns-clause-made
returns-clause-made g c = λ text.
    let old = state g.S.Store c.args.tx.now.conn.now in
    let new = state g.S.Store c.run.new.tx.conn.now in
    let key = c.args.key.now in
    let it = c.args.appeal.now in
    makes_by (put_edits (appeals_ours.puts key it)) old new c.run.result
    (rw (
      c.from.ensures,
      c.get.ensures.value,
      passed key.0 (omega (arith, c.get.ensures.range)),
      c.as_bytes.ensures.value,
      c.as_bytes-2.ensures.value,
      c.kind_number.ensures,
      passed (kind_number it.subject) (kind_small it.subject),
      c.target_of.ensures,
      c.from-2.ensures,
      c.needs_of.ensures.value,
      passed (needs_of it.subject) (omega (arith, c.needs_of.ensures.range, c.needs_of.ensures.value)),
      c.from-3.ensures,
      c.extra_of.ensures.value,
      passed (extra_of it.subject) (omega (arith, c.extra_of.ensures.range, c.extra_of.ensures.value)),
      c.as_bytes-3.ensures.value,
      c.as_str.ensures.value,
      c.state_number.ensures,
      passed (state_number it.status) (state_small it.status),
      c.answer_of.ensures,
      bound_answer (answer_of it.status),
      text,
    ) at c.run.ensures.runs)
