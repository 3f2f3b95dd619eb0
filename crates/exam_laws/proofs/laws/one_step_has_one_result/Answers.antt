use Rattle.exam_laws.proofs.OneResult.{one_result}
use Rattle.exam_laws.proofs.laws.one_step_has_one_result.Goals as goal

pub returns : goal.returns
returns c = λ done today before one other first second. one_result done before one other first second today
