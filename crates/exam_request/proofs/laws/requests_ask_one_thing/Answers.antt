use Rattle.exam_request.specs.Input.{head_of}
use Rattle.exam_request.proofs.Once.{one_asking}
use Rattle.exam_request.proofs.laws.requests_ask_one_thing.Goals as goal

pub returns : goal.returns
returns c input one other a b = one_asking (head_of input) one other a b
