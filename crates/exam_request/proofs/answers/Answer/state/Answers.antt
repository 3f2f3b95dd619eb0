use Rattle.std.proofs.Common.{rules}
use Rattle.json.specs.Print.{escape_byte}
use Rattle.exam_request.proofs.answers.Answer.state.Goals as goal

pub returns : goal.returns
unfolding escape_byte
returns c = search rules
