use Rattle.exam_job.proofs.job.carry_out_job.Goals as goal

pub returns-in-Import : goal.returns-in-Import
returns-in-Import g c = rw c.in-Import.is c.import.ensures
