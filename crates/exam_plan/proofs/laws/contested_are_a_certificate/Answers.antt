use Rattle.exam_plan.proofs.BestPlans.{some_best_plan}
use Rattle.exam_plan.proofs.Contested.{some_certificate, every_certificate}
use Rattle.exam_plan.proofs.laws.contested_are_a_certificate.Goals as goal

pub returns-clause-some : goal.returns-clause-some
returns-clause-some c p good = let best = some_best_plan p good in some_certificate p good best.0 best.1

pub returns-clause-every : goal.returns-clause-every
returns-clause-every c = every_certificate
