use Rattle.exam_http.proofs.Strangers.{stranger_found, strangers_alike}
use Rattle.exam_http.proofs.laws.strangers_are_answered_alike.Goals as goal

pub returns-clause-found : goal.returns-clause-found
returns-clause-found g c today request one one_after told is answers =
    stranger_found g.S.Store today one one_after told request is answers

pub returns-clause-whole : goal.returns-clause-whole
returns-clause-whole g c today later request one one_after other other_after first second is are =
    strangers_alike g.S.Store g.T.Store today later one one_after other other_after first second request is are
