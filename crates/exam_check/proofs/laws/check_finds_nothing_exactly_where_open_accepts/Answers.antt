use Rattle.exam_check.proofs.Judging.{accepted, holds_good, none_found, not_opened, office_bad, refused}
use Rattle.exam_check.proofs.laws.check_finds_nothing_exactly_where_open_accepts.Goals as goal

pub returns-clause-good : goal.returns-clause-good
returns-clause-good g c = λ db all. (holds_good db all, none_found db all)

pub returns-clause-accepted : goal.returns-clause-accepted
returns-clause-accepted g c =
    λ old new office all was clean finds good. accepted g.S.Store old new all was office clean finds good

pub returns-clause-refused : goal.returns-clause-refused
returns-clause-refused g c =
    λ old new e all fails some sound none. refused g.S.Store old new all e fails some sound none

pub returns-clause-unlisted : goal.returns-clause-unlisted
returns-clause-unlisted g c =
    λ old new office all found none.
    (not_opened g.S.Store old new all none office, office_bad g.S.Store old new all none found)
