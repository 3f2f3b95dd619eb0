use Rattle.exam_plan.proofs.Steps.{touch_test}
use Rattle.exam_plan.proofs.chains.is_touching.Goals as goal

pub returns-clause-touching : goal.returns-clause-touching
returns-clause-touching c =
    touch_test c.args.problem.now c.args.candidate c.fitting.result c.fitting.ensures.fits c.args.marked c.meets.result
    c.meets.ensures
