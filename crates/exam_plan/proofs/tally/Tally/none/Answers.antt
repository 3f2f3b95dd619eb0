use Rattle.exam_plan.proofs.Tallying.{none_tallied}
use Rattle.exam_plan.proofs.tally.Tally.none.Goals as goal

pub returns-clause-none : goal.returns-clause-none
returns-clause-none c = none_tallied
