use Rattle.exam_plan.proofs.LawLemmas.{best_repaired}
use Rattle.exam_plan.proofs.laws.best_plan_is_its_repair.Goals as goal

pub returns : goal.returns
returns c = best_repaired
