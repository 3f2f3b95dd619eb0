use Rattle.exam_rules.proofs.Words.{naming}
use Rattle.exam_rules.proofs.Naming.{renames, numbers_rise, codes_rise}
use Rattle.exam_plan.proofs.Carrying.{IsCertificate-named}
use Rattle.exam_rules.proofs.laws.certificates_by_name.Goals as goal

pub returns : goal.returns
returns w = λ r s p candidates halls up. IsCertificate-named (naming r s) (renames r s up) (numbers_rise r s up)
    (codes_rise r s up) p candidates halls
