use Rattle.exam_plan.proofs.NumberLaws.{number_fits}
use Rattle.exam_plan.proofs.laws.desk_number_is_within_the_hall.Goals as goal

pub returns : goal.returns
returns c p q h d n lawful = number_fits p q h lawful d n
