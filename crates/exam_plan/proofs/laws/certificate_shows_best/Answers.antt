use Rattle.exam_plan.proofs.LawLemmas.{certified_best}
use Rattle.exam_plan.proofs.laws.certificate_shows_best.Goals as goal

pub returns : goal.returns
returns c = certified_best
