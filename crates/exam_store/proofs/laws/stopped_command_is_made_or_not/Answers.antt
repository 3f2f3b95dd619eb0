use Rattle.sqlite.specs.Held.{state}
use Rattle.exam_store.proofs.Reopening.{after_answer, before_or_after, writes_nothing}
use Rattle.exam_store.proofs.laws.stopped_command_is_made_or_not.Goals as goal

pub returns-clause-any_moment : goal.returns-clause-any_moment
returns-clause-any_moment g c = λ done today old new answer was now found order kept is_open applied clean opens.
    before_or_after (state g.S.Store new.database) (state g.T.Store was) (state g.T.Store now) found opens done today
    (state g.S.Store old.database) old.office order kept clean answer applied.made
    (λ trees may. g.met.S.Store.settled old.database.store trees is_open may)

pub returns-clause-answered : goal.returns-clause-answered
returns-clause-answered g c = λ done today old new answer was now found order kept applied clean opens.
    after_answer (state g.S.Store new.database) (state g.T.Store was) (state g.T.Store now) found opens done today
    (state g.S.Store old.database) old.office order kept clean answer new.office applied.made applied.step

pub returns-clause-shut : goal.returns-clause-shut
returns-clause-shut g c =
    λ done today old new answer shut applied clean. writes_nothing g.S.Store done today old new shut clean answer
    applied
