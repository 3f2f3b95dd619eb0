-- The map holds the rows that were stepped over so far, and the query has the rest to come. It ends with all of them,
-- or at the first row that no table has.
use Rattle.exam_tables.proofs.Words.{state, HasCleanDisk}
use Rattle.std.proofs.Common.{◌≡◌, Ok, Err, Some, None, refl, arith, rules}
use Rattle.exam_tables.proofs.RowByRow.{end_scans, err_scans, none_scanned, none_scans, scans_since, survives_itself}
use Rattle.exam_tables.proofs.scanning.scan_rows.Goals as goal

pub steps-init : goal.steps-init
steps-init g c = (
  refl,
  survives_itself (state g.S.Store c.args.rows.now.conn.now),
  λ clean reads. rw c.new-table.ensures.empty
      (none_scanned g.S.Store g.T.StoredRows.form g.met.T.StoredRows.ours c.args.rows.now.conn.now reads),
)

pub returns-in_err-read_next-clause-scans : goal.returns-in_err-read_next-clause-scans
returns-in_err-read_next-clause-scans g c = λ clean reads.
    let is : c.from_residual.result ≡ Err c.in_err-read_next.field-0.0 = search rules in
    let form = g.T.StoredRows.form in
    let ours = g.met.T.StoredRows.ours in
    let old = c.args.rows.now.conn.now in
    let mid = c.steps.rows.conn.now in
    let new = c.read_next.new.rows.conn.now in
    let before : HasCleanDisk (state g.S.Store mid) = omega (arith, c.in_err-read_next.ensures.survives.clean) in
    let done = c.steps.invariant.2 before reads in
    let goes = c.in_err-read_next.ensures.goes clean done.given done.reads done.rows in
    rw is (scans_since g.S.Store form ours old mid new done.same c.steps.invariant.1 done.given done.reads
    (Err c.in_err-read_next.field-0.0)
    (err_scans g.S.Store form ours mid new done.given c.read_next.new.table.entries c.in_err-read_next.field-0.0 goes))

pub returns-in-End-clause-scans : goal.returns-in-End-clause-scans
returns-in-End-clause-scans g c = λ clean reads.
    let form = g.T.StoredRows.form in
    let ours = g.met.T.StoredRows.ours in
    let old = c.args.rows.now.conn.now in
    let mid = c.steps.rows.conn.now in
    let new = c.read_next.new.rows.conn.now in
    let before : HasCleanDisk (state g.S.Store mid) = omega (arith, c.in_ok-read_next.ensures.survives.clean) in
    let done = c.steps.invariant.2 before reads in
    let goes = rw c.in-End.is at (c.in_ok-read_next.ensures.goes clean done.given done.reads done.rows) in
    scans_since g.S.Store form ours old mid new done.same c.steps.invariant.1 done.given done.reads
    (Ok (Some c.read_next.new.table))
    (end_scans g.S.Store form ours mid new done.given c.read_next.new.table goes)

pub returns-in-NoTable-clause-scans : goal.returns-in-NoTable-clause-scans
returns-in-NoTable-clause-scans g c = λ clean reads.
    let form = g.T.StoredRows.form in
    let ours = g.met.T.StoredRows.ours in
    let old = c.args.rows.now.conn.now in
    let mid = c.steps.rows.conn.now in
    let new = c.read_next.new.rows.conn.now in
    let before : HasCleanDisk (state g.S.Store mid) = omega (arith, c.in_ok-read_next.ensures.survives.clean) in
    let done = c.steps.invariant.2 before reads in
    let goes = rw c.in-NoTable.is at (c.in_ok-read_next.ensures.goes clean done.given done.reads done.rows) in
    scans_since g.S.Store form ours old mid new done.same c.steps.invariant.1 done.given done.reads (Ok None)
    (none_scans g.S.Store form ours mid new done.given c.read_next.new.table.entries goes)
