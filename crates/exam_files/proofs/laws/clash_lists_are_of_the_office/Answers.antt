use Rattle.exam_files.proofs.OfficeSheets.{clash_list_is}
use Rattle.exam_files.proofs.laws.clash_lists_are_of_the_office.Goals as goal

pub returns : goal.returns
returns c = clash_list_is
