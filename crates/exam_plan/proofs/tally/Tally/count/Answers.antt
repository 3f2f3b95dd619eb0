use Rattle.std.proofs.Common.{sym}
use Rattle.exam_plan.proofs.Tallying.{tally_more}
use Rattle.exam_plan.proofs.tally.Tally.count.Goals as goal

pub returns-clause-more : goal.returns-clause-more
returns-clause-more c =
    tally_more c.args.self.now _ c.args.halls _ _ c.mask.ensures.word
    (sym c.mask.ensures.bits) c.requires.room c.count_word.ensures.more c.count_word-2.ensures.more
