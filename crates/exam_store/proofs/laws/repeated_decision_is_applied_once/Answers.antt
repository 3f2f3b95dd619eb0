use Rattle.exam_store.proofs.Running.{decided_once}
use Rattle.exam_store.proofs.laws.repeated_decision_is_applied_once.Goals as goal

pub returns : goal.returns
returns c = λ decision day later before mid late after first done replies second up up_after step applied. decided_once
    later mid late after done replies second up up_after applied decision day before first step
