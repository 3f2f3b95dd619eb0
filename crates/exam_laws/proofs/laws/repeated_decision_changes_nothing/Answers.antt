use Rattle.exam_laws.proofs.Lasting.{repeated_decision}
use Rattle.exam_laws.proofs.laws.repeated_decision_changes_nothing.Goals as goal

pub returns : goal.returns
returns c = repeated_decision
