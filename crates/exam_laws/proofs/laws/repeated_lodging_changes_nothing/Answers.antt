use Rattle.exam_laws.proofs.Lasting.{repeated_lodging}
use Rattle.exam_laws.proofs.laws.repeated_lodging_changes_nothing.Goals as goal

pub returns : goal.returns
returns c = repeated_lodging
