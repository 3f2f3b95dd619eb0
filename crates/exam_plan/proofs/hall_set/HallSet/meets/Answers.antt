use Rattle.exam_plan.proofs.HallBits.{both_found}
use Rattle.exam_plan.proofs.hall_set.HallSet.meets.Goals as goal

pub returns : goal.returns
returns c = both_found c.first.result c.is_some.result c.args.self c.args.other c.common.result c.first.ensures
    c.common.ensures c.is_some.ensures
