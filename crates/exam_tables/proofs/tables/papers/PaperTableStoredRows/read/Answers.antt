use Rattle.std.proofs.Common.{◌≡◌, length, inr, rules}
use Rattle.exam_tables.proofs.Reading.{found, five}
use Rattle.exam_tables.proofs.tables.papers.PaperTableStoredRows.read.Goals as goal

pub returns-clause-read : goal.returns-clause-read
returns-clause-read c =
    let len : length c.args.row.now ≡ 5 = search rules in
    let code = c.in_ok-code.ensures in
    let title = found c.in_ok-title.title c.in_ok-title.ensures.read in
    let session = c.in_ok-session.ensures in
    let minutes = c.in_ok-minutes.ensures in
    let required = c.in_ok-required.ensures in
    inr (
      (code.0, title.0, session.0, minutes.0),
      five c.args.row.now _ _ _ _ _ len code.1 title.1 session.1 minutes.1 required.1,
    )
