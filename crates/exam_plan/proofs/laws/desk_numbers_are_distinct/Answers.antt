use Rattle.exam_plan.proofs.NumberLaws.{numbers_differ}
use Rattle.exam_plan.proofs.laws.desk_numbers_are_distinct.Goals as goal

pub returns : goal.returns
returns c p q h i j good = numbers_differ p q h good i j
