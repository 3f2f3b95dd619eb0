use Rattle.exam_tables.proofs.Words.{state, HasOlder, HasRuled}
use Rattle.std.proofs.Common.{◌≡◌, Err, rules}
use Rattle.exam_tables.specs.Versions.{HasNewest}
use Rattle.exam_tables.proofs.Creating.{leads_then, leads_refused}
use Rattle.exam_tables.proofs.schema.widen_tables.Goals as goal

pub returns-clause-made : goal.returns-clause-made
returns-clause-made g c = λ all.
    let old = state g.S.Store c.args.tx.now.conn.now in
    let mid = state g.S.Store c.add_standing.new.tx.conn.now in
    leads_then (HasOlder old.is_open c.args.has_marks all) (HasRuled mid.is_open all) (HasNewest all) old mid
    (state g.S.Store c.put_version.new.tx.conn.now) c.put_version.result
    (c.in_ok-add_standing.ensures.made all) (c.put_version.ensures.made all)

pub returns-in_err-add_standing-clause-made : goal.returns-in_err-add_standing-clause-made
returns-in_err-add_standing-clause-made g c = λ all.
    let e = c.in_err-add_standing.field-0.0 in
    let is : c.from_residual.result ≡ Err e = search rules in
    let old = state g.S.Store c.args.tx.now.conn.now in
    let mid = state g.S.Store c.add_standing.new.tx.conn.now in
    rw is (leads_refused (HasOlder old.is_open c.args.has_marks all) (HasRuled mid.is_open all)
    (HasNewest all) old mid e (c.in_err-add_standing.ensures.made all))
