use Rattle.exam_request.proofs.Chosen.{unread}
use Rattle.exam_request.proofs.laws.texts_of_strangers_are_not_read.Goals as goal

pub returns : goal.returns
returns c request own stranger reads = unread request own stranger reads
