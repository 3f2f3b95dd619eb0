use Rattle.exam_line.specs.Lines.{shown}
use Rattle.exam_program.proofs.Ran.{closes, held_after}
use Rattle.exam_program.proofs.databases.run_database.Goals as goal

pub returns : goal.returns
returns g c =
    let ran = c.run_over-done.ensures in
    let now = c.run_over-done.result.1 in
    let closed = closes g.D.Disk g.O.Write.contents g.E.Write.contents
    (shown c.args.line.now) c.args.conn c.args.out.now c.args.err.now now c.run_over-done.new.out
    c.run_over-done.new.err
    c.close_files.result c.close_files.ensures.usable c.close_files.ensures.copied c.close_files.ensures.err in (
      now,
      ran.runs.0,
      ran.runs.1,
      closed,
      held_after g.D.Disk g.O.Write.contents g.E.Write.contents
          (shown c.args.line.now) c.args.conn c.args.out.now c.args.err.now now c.run_over-done.new.out
          c.run_over-done.new.err
          c.run_over-done.result.0 ran.runs.0 c.close_files.result ran.live closed ran.runs.1,
    )
