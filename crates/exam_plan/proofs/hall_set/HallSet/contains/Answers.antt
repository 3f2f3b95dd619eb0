use Rattle.std.proofs.Common.{◌%◌, ◌∙◌}
use Rattle.exam_plan.proofs.HallBits.{test_holds}
use Rattle.exam_plan.proofs.hall_set.HallSet.contains.Goals as goal

pub returns : goal.returns
returns c = test_holds c.word_of.result (c.args.hall % 128) ∙ c.word_of.ensures
