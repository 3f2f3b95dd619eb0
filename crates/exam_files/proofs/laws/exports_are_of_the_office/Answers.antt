use Rattle.exam_files.proofs.OfficeSheets.{export_is}
use Rattle.exam_files.proofs.laws.exports_are_of_the_office.Goals as goal

pub returns : goal.returns
returns c = export_is
