use Rattle.exam_program.proofs.files.open_database.Goals as goal

pub returns-in-Ok-clause-over : goal.returns-in-Ok-clause-over
returns-in-Ok-clause-over g c = record { found = c.in-Ok.ensures.found; opened = c.in-Ok.ensures.opened }
