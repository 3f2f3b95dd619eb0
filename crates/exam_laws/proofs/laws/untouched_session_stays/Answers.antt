use Rattle.exam_laws.proofs.Untouched.{untouched_stays}
use Rattle.exam_laws.proofs.laws.untouched_session_stays.Goals as goal

pub returns : goal.returns
returns c = λ done today before after reply s good up step away. untouched_stays before good up today s done after
    reply step away
