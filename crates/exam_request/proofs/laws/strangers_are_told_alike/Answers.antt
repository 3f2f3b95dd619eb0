use Rattle.exam_request.proofs.Chosen.{alike}
use Rattle.exam_request.proofs.laws.strangers_are_told_alike.Goals as goal

pub returns : goal.returns
returns c request one other h k = alike request one other h k
