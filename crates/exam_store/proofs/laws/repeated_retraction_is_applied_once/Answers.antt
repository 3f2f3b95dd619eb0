use Rattle.exam_store.proofs.Running.{retracted_once}
use Rattle.exam_store.proofs.laws.repeated_retraction_is_applied_once.Goals as goal

pub returns : goal.returns
returns c = λ number reference day later before mid late after first done replies second up up_after step applied.
    retracted_once later mid late after done replies second up up_after applied number reference day before first step
