use Rattle.exam_commands.proofs.Seated.{is_seated}
use Rattle.exam_laws.proofs.laws.good_office_is_seated.Goals as goal

pub returns : goal.returns
returns c = is_seated
