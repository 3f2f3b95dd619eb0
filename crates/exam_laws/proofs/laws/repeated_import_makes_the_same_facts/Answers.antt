use Rattle.exam_laws.proofs.RepeatedImports.{repeated_import}
use Rattle.exam_laws.proofs.laws.repeated_import_makes_the_same_facts.Goals as goal

pub returns : goal.returns
returns c = repeated_import
