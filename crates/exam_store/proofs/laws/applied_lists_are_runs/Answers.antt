use Rattle.exam_store.proofs.Running.{all_in_memory}
use Rattle.exam_store.proofs.laws.applied_lists_are_runs.Goals as goal

pub returns : goal.returns
returns c = all_in_memory
