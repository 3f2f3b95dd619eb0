use Rattle.exam_laws.proofs.RepeatedImports.{repeated_step}
use Rattle.exam_laws.proofs.laws.repeated_import_changes_nothing.Goals as goal

pub returns : goal.returns
returns c = repeated_step
