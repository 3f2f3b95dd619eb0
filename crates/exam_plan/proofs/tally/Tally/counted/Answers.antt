use Rattle.std.proofs.Common.{arith}
use Rattle.exam_plan.proofs.Tallying.{tally_counted}
use Rattle.exam_plan.proofs.tally.Tally.counted.Goals as goal

pub returns : goal.returns
returns c = rw c.of_mask.ensures
    (tally_counted c.args.self.now c.counted_word.result c.counted_word-2.result
    (omega arith) c.counted_word.ensures c.counted_word-2.ensures)
