use Rattle.exam_plan.proofs.KeptLemmas.{kept_lawful}
use Rattle.exam_plan.proofs.laws.what_stays_is_lawful.Goals as goal

pub returns : goal.returns
returns c = kept_lawful
