use Rattle.exam_files.proofs.OfficeSheets.{attendance_is}
use Rattle.exam_files.proofs.laws.attendances_are_of_the_office.Goals as goal

pub returns : goal.returns
returns c = (λ office s paper view is. attendance_is office s view is paper)
