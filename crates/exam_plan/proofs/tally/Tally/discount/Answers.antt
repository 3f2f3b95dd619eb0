use Rattle.std.proofs.Common.{sym}
use Rattle.exam_plan.proofs.Tallying.{tally_less}
use Rattle.exam_plan.proofs.tally.Tally.discount.Goals as goal

pub returns-clause-less : goal.returns-clause-less
returns-clause-less c =
    tally_less c.args.self.now _ c.args.halls _ _ c.mask.ensures.word
    (sym c.mask.ensures.bits) c.requires.counted c.discount_word.ensures.less c.discount_word-2.ensures.less
