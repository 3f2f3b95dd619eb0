use Rattle.exam_files.proofs.OfficeSheets.{register_is}
use Rattle.exam_files.proofs.laws.appeal_registers_are_of_the_office.Goals as goal

pub returns : goal.returns
returns c = register_is
