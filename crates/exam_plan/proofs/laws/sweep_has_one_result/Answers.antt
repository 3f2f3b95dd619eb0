use Rattle.exam_plan.proofs.Words.{nat_cmp_total, nat_cmp-IsAntisymmetric, seating_of, sweep_order}
use Rattle.exam_plan.proofs.OneRepair.{one_sweep}
use Rattle.exam_plan.proofs.laws.sweep_has_one_result.Goals as goal

pub returns : goal.returns
returns c = λ p first. one_sweep
    (seating_of p) nat_cmp_total nat_cmp_total nat_cmp-IsAntisymmetric nat_cmp-IsAntisymmetric
    (sweep_order (seating_of p) first)
