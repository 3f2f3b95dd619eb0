use Rattle.exam_plan.proofs.Words.{nat_cmp_total, nat_cmp-IsAntisymmetric, seating_of}
use Rattle.exam_plan.proofs.OneRepair.{one_repair}
use Rattle.exam_plan.proofs.laws.repair_has_one_result.Goals as goal

pub returns : goal.returns
returns c = λ p. one_repair (seating_of p) nat_cmp_total nat_cmp_total nat_cmp-IsAntisymmetric nat_cmp-IsAntisymmetric
