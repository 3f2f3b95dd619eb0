-- Each column is read in its own form, and eleven of them are a row. A column that has not this form is none of an
-- appeal's; where memory ran out, the form was right.
use Rattle.std.proofs.Common.{◌≡◌, length, inr, Err, ap, rules}
use Rattle.sqlite_value.specs.Order.{column}
use Rattle.exam_tables.proofs.Reading.{found, eleven}
use Rattle.exam_tables.proofs.tables.appeals.AppealTableStoredRows.read.Goals as goal

pub returns-in_err-reason-clause-memory : goal.returns-in_err-reason-clause-memory
returns-in_err-reason-clause-memory c =
    let is : c.from_residual-in_err-reason.result ≡ Err c.in_err-reason.field-0.0 = search rules in
    rw is (λ lacks.
    let kept = c.in_err-reason.ensures.memory lacks in
    (7, kept.0, inr kept.1, kept.2)
    )

pub returns-in_err-lodged-clause-read : goal.returns-in_err-lodged-clause-read
returns-in_err-lodged-clause-read c =
    let is : c.from_residual-in_err-lodged.result ≡ Err c.in_err-lodged.field-0.0 = search rules in
    let none = c.in_err-lodged.ensures in
    rw is (inr (none.0, λ p one same. none.1 p.1.lodged one.6 (ap (λ r. column r 10) same)))

pub returns-clause-read : goal.returns-clause-read
returns-clause-read c =
    let len : length c.args.row.now ≡ 11 = search rules in
    let number = c.in_ok-number.ensures in
    let reference = c.in_ok-reference.ensures in
    let session = c.in_ok-session.ensures in
    let subject = c.in_ok-subject.ensures in
    let reason = found c.in_ok-reason.reason c.in_ok-reason.ensures.read in
    let status = found c.in_ok-status.status c.in_ok-status.ensures.read in
    let lodged = c.in_ok-lodged.ensures in
    inr (
      (number.0, reference.0, session.0, subject.0, reason.0, status.0, lodged.0),
      eleven c.args.row.now _ _ _ _ _ _ _ _ _ _ _ len number.1 reference.1 session.1 subject.1 reason.1 status.1
          lodged.1,
    )
