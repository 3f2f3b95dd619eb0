use Rattle.exam_plan.proofs.LawLemmas.{one_least_chain}
use Rattle.exam_plan.proofs.laws.least_chain_is_one.Goals as goal

pub returns : goal.returns
returns c = one_least_chain
