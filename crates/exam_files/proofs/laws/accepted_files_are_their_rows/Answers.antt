use Rattle.exam_files.proofs.Accepting.{accepts}
use Rattle.exam_files.proofs.laws.accepted_files_are_their_rows.Goals as goal

pub returns : goal.returns
returns c = accepts
