use Rattle.std.proofs.Common.{None, refl}
use Rattle.exam_line.specs.Lines.{shown}
use Rattle.exam_program.proofs.Ran.{runs_opened}
use Rattle.exam_program.proofs.databases.run_job.Goals as goal

pub returns-in-Migrate : goal.returns-in-Migrate
returns-in-Migrate g c =
    rw c.in-Migrate.is (
      None,
      (refl, refl, (c.migrate_office-done.result, c.migrate_office-done.ensures, c.with_status.ensures)),
    )

pub returns-in-Check : goal.returns-in-Check
returns-in-Check g c = rw c.in-Check.is (None, (refl, refl, c.check_database-done.ensures))

pub returns-in_default : goal.returns-in_default
returns-in_default g c =
    runs_opened g.S.Store g.O.Write.contents g.E.Write.contents
    (shown c.args.line.now) c.args.conn c.args.out.now c.args.err.now c.run_office-done.result.1
    c.run_office-done.new.out c.run_office-done.new.err
    c.args.line.now.job c.in_default.not-Migrate c.in_default.not-Check c.run_office-done.result.0
    c.with_status-in_default.result c.with_status-in_default.ensures c.run_office-done.ensures
