use Rattle.exam_laws.proofs.LaterImports.{repeated_later}
use Rattle.exam_laws.proofs.laws.import_repeated_later_changes_nothing.Goals as goal

pub returns : goal.returns
returns c = repeated_later
