-- The query gives the rows of the database as they are; what the scan makes of them is the table, or none.
use Rattle.exam_tables.proofs.Words.{state, HasCleanDisk, Survives}
use Rattle.std.proofs.Common.{◌≡◌, [], Err, arith, rules}
use Rattle.sqlite.specs.State.{CommitsShowing}
use Rattle.exam_sql.proofs.Quiet.{begun}
use Rattle.exam_tables.specs.Scanned.{Scans}
use Rattle.exam_tables.proofs.Leaving.{both_survive, query_survives}
use Rattle.exam_tables.proofs.RowByRow.{failed_scans, refused_fails, scans_since}
use Rattle.exam_tables.proofs.scanning.scan_table.Goals as goal

pub returns-in-Ok-clause-scans : goal.returns-in-Ok-clause-scans
returns-in-Ok-clause-scans g c =
    let form = g.T.StoredRows.form in
    let ours = g.met.T.StoredRows.ours in
    let old = c.args.conn.now in
    let mid = c.in-Ok.rows.conn.now in
    let new = c.scan_rows.new.rows.conn.now in
    let kept = query_survives form.load ours.query (state g.S.Store old) (state g.S.Store mid)
    (rw c.load_text.ensures at c.in-Ok.ensures.survives) in
    let scans : HasCleanDisk (state g.S.Store new) → Scans g.S.Store g.T.Key.Ord.cmp form old new c.scan_rows.result =
    λ clean.
    let before : HasCleanDisk (state g.S.Store mid) = omega (arith, c.scan_rows.ensures.survives.clean) in
    let started = begun form.load ours.query g.S.Store [] old mid
    (rw c.load_text.ensures at (c.in-Ok.ensures.begun before)) in
    scans_since g.S.Store form ours old mid new started.1 kept [] started.0 c.scan_rows.result
    (c.scan_rows.ensures.scans clean started.0) in
    search rules

pub returns-in-Ok-clause-survives : goal.returns-in-Ok-clause-survives
returns-in-Ok-clause-survives g c =
    let old = state g.S.Store c.args.conn.now in
    let mid = state g.S.Store c.in-Ok.rows.conn.now in
    let new = state g.S.Store c.scan_rows.new.rows.conn.now in
    let kept = query_survives g.T.StoredRows.form.load g.met.T.StoredRows.ours.query old mid
    (rw c.load_text.ensures at c.in-Ok.ensures.survives) in
    let survives : Survives old new (λ _. ⊥) = both_survive old mid new kept c.scan_rows.ensures.survives in
    search rules

pub returns-in-Err-clause-scans : goal.returns-in-Err-clause-scans
returns-in-Err-clause-scans g c = λ clean.
    let new = c.query.follows.lender-at-none in
    let is : c.query.result ≡ Err c.in-Err.error = search rules in
    let failed = rw c.load_text.ensures at
    (refused_fails g.S.Store c.load_text.result.now [] c.args.conn.now new c.query.result c.in-Err.error is
    c.query.follows.holds-at-none clean) in
    failed_scans g.S.Store g.T.StoredRows.form g.met.T.StoredRows.ours c.args.conn.now new c.refusal_of.result
    c.in-Err.error c.refusal_of.ensures failed

pub returns-in-Err-clause-survives : goal.returns-in-Err-clause-survives
returns-in-Err-clause-survives g c =
    let old = state g.S.Store c.args.conn.now in
    let new = state g.S.Store c.query.follows.lender-at-none in
    let held = c.query.follows.holds-at-none in
    let kept : Survives old new (CommitsShowing c.load_text.result.now [] old) = search rules in
    query_survives g.T.StoredRows.form.load g.met.T.StoredRows.ours.query old new (rw c.load_text.ensures at kept)
