-- The borrow goes on to the next place only where a digit was none, as in a subtraction by hand. A hall that was
-- counted has some digit, so its borrow ends.
use Rattle.exam_plan.proofs.Words.{length-set, holds}
use Rattle.std.proofs.Common.{◌+◌, ◌&&◌, get_or, bit_and, bit_xor, refl, ap, ◌∙◌, arith}
use Rattle.exam_plan.proofs.HallBits.{holds_empty, holds_xor, holds_and}
use Rattle.exam_plan.proofs.Tallying.{still_borrowed, discounts_more, discounting_done, borrowed_none}
use Rattle.exam_plan.proofs.tally.discount_word.Goals as goal

pub loop-place-preserved : goal.loop-place-preserved
loop-place-preserved c =
    let digit = get_or c.loop-place.digits c.loop-place.place 0 in
    record {
      whole = simp length-set c.loop-place.invariant.whole;
      counting = discounts_more c.args.digits.now c.loop-place.digits c.args.word c.loop-place.place digit
          c.loop-place.borrow (bit_xor digit c.loop-place.borrow)
          (omega (arith, c.loop-place-test.true, c.loop-place.invariant.whole))
          refl
          (holds_xor digit c.loop-place.borrow) (bit_and c.loop-place.borrow (bit_xor digit c.loop-place.borrow))
          (λ h. holds_and c.loop-place.borrow (bit_xor digit c.loop-place.borrow) h
          ∙ ap (λ t. holds c.loop-place.borrow h && t) (holds_xor digit c.loop-place.borrow h)
          ∙ still_borrowed (holds digit h) (holds c.loop-place.borrow h)) (c.loop-place.place + 1)
          (omega arith) c.loop-place.invariant.counting;
    }

pub returns-clause-less : goal.returns-clause-less
returns-clause-less c h counted =
    discounting_done c.args.digits.now c.loop-place.digits c.args.word c.loop-place.place c.loop-place.borrow h
    (borrowed_none c.args.digits.now c.loop-place.digits c.args.word c.loop-place.place c.loop-place.borrow h
    (omega (arith, c.loop-place-test.false, c.loop-place.auto.place-end)) c.loop-place.invariant.whole counted
    c.loop-place.invariant.counting)
    c.loop-place.invariant.counting

pub returns-then-borrow-eq0-clause-less : goal.returns-then-borrow-eq0-clause-less
returns-then-borrow-eq0-clause-less c h counted =
    discounting_done c.args.digits.now c.loop-place.digits c.args.word c.loop-place.place c.loop-place.borrow h
    (ap (λ s. holds s h) c.if-borrow-eq0.true ∙ holds_empty h) c.loop-place.invariant.counting
