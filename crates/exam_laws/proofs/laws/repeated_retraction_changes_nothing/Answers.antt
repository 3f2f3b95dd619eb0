use Rattle.exam_laws.proofs.Lasting.{repeated_retraction}
use Rattle.exam_laws.proofs.laws.repeated_retraction_changes_nothing.Goals as goal

pub returns : goal.returns
returns c = repeated_retraction
