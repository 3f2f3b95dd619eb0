use Rattle.exam_rules.proofs.Words.{nat_cmp_total, nat_list_cmp_total}
use Rattle.std.specs.FinMap.{nat_cmp-IsAntisymmetric, slice_cmp-IsAntisymmetric}
use Rattle.exam_rules.specs.Seatings.{seating}
use Rattle.exam_plan.proofs.OneRepair.{one_repair}
use Rattle.exam_rules.proofs.laws.repair_is_one.Goals as goal

pub returns : goal.returns
returns c = λ r s first before one other. one_repair
    (seating r s) nat_cmp_total nat_list_cmp_total nat_cmp-IsAntisymmetric
    (slice_cmp-IsAntisymmetric nat_cmp-IsAntisymmetric) first before one other
