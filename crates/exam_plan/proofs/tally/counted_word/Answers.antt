use Rattle.std.proofs.Common.{get_or, bit_or, refl, arith}
use Rattle.exam_plan.proofs.HallBits.{holds_or}
use Rattle.exam_plan.proofs.Tallying.{counted_more, counted_all}
use Rattle.exam_plan.proofs.tally.counted_word.Goals as goal

pub loop-digit-preserved : goal.loop-digit-preserved
loop-digit-preserved c =
    counted_more c.args.digits.now c.loop-digit.digit-index c.loop-digit.counted
    (get_or c.args.digits.now c.loop-digit.digit-index 0)
    (bit_or c.loop-digit.counted (get_or c.args.digits.now c.loop-digit.digit-index 0)) c.loop-digit.invariant
    refl (holds_or c.loop-digit.counted (get_or c.args.digits.now c.loop-digit.digit-index 0))

pub returns : goal.returns
returns c = counted_all c.args.digits.now c.loop-digit.digit-index c.loop-digit.counted
    (omega (arith, c.requires, c.loop-digit-test.false, c.loop-digit.auto.digit-index-end)) c.loop-digit.invariant
