-- The key finds one row or none, since no two rows have it. Where the query fails, that is the reason.
use Rattle.exam_tables.proofs.Words.{state, FailsToQuery, Shown, survives_weaker, failed_unchanged, shown_unchanged}
use Rattle.exam_tables.proofs.Words.{KeyedAppeal}
use Rattle.std.proofs.Common.{arith, ◌∙◌}
use Rattle.exam_sql.specs.Texts.{find_appeal}
use Rattle.exam_sql.proofs.OneAppeal.{find_is_query}
use Rattle.exam_sql.proofs.Quiet.{commits_nothing}
use Rattle.exam_tables.specs.Appeals.{appeal_key}
use Rattle.exam_tables.proofs.OneByOne.{not_confirmed, query_failed, shown_alone}
use Rattle.exam_tables.proofs.Leaving.{reads_only}
use Rattle.exam_tables.proofs.Steps.{passed}
use Rattle.exam_tables.proofs.finding.confirm_appeal.Goals as goal

pub returns-in-Ok-clause-shown : goal.returns-in-Ok-clause-shown
returns-in-Ok-clause-shown g c = λ clean.
    let it : KeyedAppeal = (c.args.key.now, c.args.appeal.now) in
    let old = state g.S.Store c.args.conn.now in
    let new = state g.S.Store c.query_all.new.self in
    let shown : Shown find_appeal (appeal_key it.0) old new c.in-Ok.rows.items =
    rw (
      c.from.ensures,
      c.get.ensures.value,
      passed c.args.key.now.0 (omega (arith, c.get.ensures.range)),
      c.as_bytes.ensures.value,
    ) at (c.in-Ok.ensures.ok clean) in
    shown_alone it old new c.in-Ok.rows.items shown c.confirm_row.result
    (rw c.as_slice.ensures.value at c.confirm_row.ensures.one)
    (λ row is. c.confirm_row.ensures.ok row (c.as_slice.ensures.value ∙ is))

pub returns-in-Ok-clause-failed : goal.returns-in-Ok-clause-failed
returns-in-Ok-clause-failed g c = λ clean.
    let it : KeyedAppeal = (c.args.key.now, c.args.appeal.now) in
    let old = state g.S.Store c.args.conn.now in
    let new = state g.S.Store c.query_all.new.self in
    let shown : Shown find_appeal (appeal_key it.0) old new c.in-Ok.rows.items =
    rw (
      c.from.ensures,
      c.get.ensures.value,
      passed c.args.key.now.0 (omega (arith, c.get.ensures.range)),
      c.as_bytes.ensures.value,
    ) at (c.in-Ok.ensures.ok clean) in
    not_confirmed it old new c.in-Ok.rows.items shown c.confirm_row.result
    (λ is. c.confirm_row.ensures.bad c.show_form.ensures (c.as_slice.ensures.value ∙ is))
    c.confirm_row.ensures.refusal

pub returns-in-Ok-clause-left : goal.returns-in-Ok-clause-left
returns-in-Ok-clause-left g c = λ clean.
    reads_only _ _ c.confirm_row.result
    (shown_unchanged find_appeal find_is_query _ _ _ c.in-Ok.rows.items (c.in-Ok.ensures.ok clean))

pub returns-in-Ok-clause-survives : goal.returns-in-Ok-clause-survives
returns-in-Ok-clause-survives g c =
    survives_weaker _ _ _ _
    (λ clean db commits. commits_nothing find_appeal find_is_query _ _ db commits) c.in-Ok.ensures.survives

pub returns-in-Err-clause-failed : goal.returns-in-Err-clause-failed
returns-in-Err-clause-failed g c = λ clean.
    let it : KeyedAppeal = (c.args.key.now, c.args.appeal.now) in
    let old = state g.S.Store c.args.conn.now in
    let new = state g.S.Store c.query_all.new.self in
    let fails : FailsToQuery find_appeal (appeal_key it.0) old new c.in-Err.error =
    rw (
      c.from.ensures,
      c.get.ensures.value,
      passed c.args.key.now.0 (omega (arith, c.get.ensures.range)),
      c.as_bytes.ensures.value,
    ) at (c.in-Err.ensures.err clean) in
    query_failed it old new c.refusal_of.result c.in-Err.error c.refusal_of.ensures fails

pub returns-in-Err-clause-left : goal.returns-in-Err-clause-left
returns-in-Err-clause-left g c = λ clean. failed_unchanged find_appeal _ _ _ c.in-Err.error (c.in-Err.ensures.err clean)

pub returns-in-Err-clause-survives : goal.returns-in-Err-clause-survives
returns-in-Err-clause-survives g c =
    survives_weaker _ _ _ _
    (λ clean db commits. commits_nothing find_appeal find_is_query _ _ db commits) c.in-Err.ensures.survives
