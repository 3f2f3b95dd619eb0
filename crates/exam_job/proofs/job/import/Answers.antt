use Rattle.exam_job.proofs.Imported.{imported, unimported}
use Rattle.exam_job.proofs.job.import.Goals as goal

pub returns : goal.returns
returns g c =
    imported g.S.Store g.O.Write.contents _ _ _ _ _ _ _ _ _ _ c.in_ok-import.ensures c.carry_out_command.ensures

pub returns-in_err-import : goal.returns-in_err-import
returns-in_err-import g c =
    unimported g.S.Store g.O.Write.contents _ _ _ _ _ _ _ _ c.in_err-import.ensures c.from_residual.ensures.1
