use Rattle.std.proofs.Common.{inl, inr, refl}
use Rattle.exam_program.proofs.running.run_named.Goals as goal

pub returns-in-Ok : goal.returns-in-Ok
returns-in-Ok g c = inr (c.in-Ok.conn, c.in-Ok.ensures.over, c.run_database-done.result.1, c.run_database-done.ensures)

pub returns-in-Err : goal.returns-in-Err
returns-in-Err g c = inl (c.report_unopened.ensures, refl)
