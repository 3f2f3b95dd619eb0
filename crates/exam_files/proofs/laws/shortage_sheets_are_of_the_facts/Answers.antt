use Rattle.exam_files.proofs.OfficeSheets.{same_sheet}
use Rattle.exam_files.proofs.laws.shortage_sheets_are_of_the_facts.Goals as goal

pub returns : goal.returns
returns c = same_sheet
