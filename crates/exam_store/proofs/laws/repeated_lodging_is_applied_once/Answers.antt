use Rattle.exam_store.proofs.Running.{lodged_once}
use Rattle.exam_store.proofs.laws.repeated_lodging_is_applied_once.Goals as goal

pub returns : goal.returns
returns c = λ lodging day later before mid late after first done replies second up up_after step applied. lodged_once
    later mid late after done replies second up up_after applied lodging day before first step
