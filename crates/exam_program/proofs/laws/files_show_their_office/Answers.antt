use Rattle.exam_program.proofs.Shown.{shows}
use Rattle.exam_program.proofs.laws.files_show_their_office.Goals as goal

pub returns : goal.returns
returns g c = λ files office was job held found opened. shows g.D.Disk files was office job held found opened
