use Rattle.exam_plan.proofs.HallBits.{none_found}
use Rattle.exam_plan.proofs.hall_set.HallSet.is_empty.Goals as goal

pub returns : goal.returns
returns c = none_found c.first.result c.is_none.result c.args.self c.first.ensures c.is_none.ensures
