use Rattle.exam_plan.proofs.BestPlans.{some_best_plan}
use Rattle.exam_plan.proofs.laws.some_plan_is_best.Goals as goal

pub returns : goal.returns
returns c = some_best_plan
