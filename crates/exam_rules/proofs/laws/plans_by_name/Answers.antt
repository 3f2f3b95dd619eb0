use Rattle.exam_rules.proofs.Words.{naming}
use Rattle.exam_plan.proofs.Renaming.{IsLawful-named, size-named, IsBest-named}
use Rattle.exam_plan.proofs.Carrying.{unseated-named}
use Rattle.exam_rules.proofs.Naming.{renames}
use Rattle.exam_rules.proofs.Following.{follows, lawful_seats}
use Rattle.exam_plan.proofs.KeptNames.{index_of_name}
use Rattle.exam_rules.proofs.laws.plans_by_name.Goals as goal

pub returns-clause-lawful : goal.returns-clause-lawful
returns-clause-lawful c = λ r s p up. IsLawful-named (naming r s) (renames r s up) p

pub returns-clause-size : goal.returns-clause-size
returns-clause-size c = λ r s p up. size-named (naming r s) (renames r s up) p

pub returns-clause-best : goal.returns-clause-best
returns-clause-best c = λ r s p up. IsBest-named (naming r s) (renames r s up) p

pub returns-clause-unseated : goal.returns-clause-unseated
returns-clause-unseated c = λ r s p up. unseated-named (naming r s) (renames r s up) p

pub returns-clause-back : goal.returns-clause-back
returns-clause-back c = λ r s p up lawful. index_of_name (naming r s) (renames r s up) (follows r s up) p lawful.fitting

pub returns-clause-seats : goal.returns-clause-seats
returns-clause-seats c = λ r s p. lawful_seats r s p
