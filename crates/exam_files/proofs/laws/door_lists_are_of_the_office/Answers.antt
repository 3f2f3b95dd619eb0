use Rattle.exam_files.proofs.OfficeSheets.{door_list_is}
use Rattle.exam_files.proofs.laws.door_lists_are_of_the_office.Goals as goal

pub returns : goal.returns
returns c = (λ office s hall view is. door_list_is office s view is hall)
