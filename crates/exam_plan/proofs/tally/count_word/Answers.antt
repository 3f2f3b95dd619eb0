use Rattle.exam_plan.proofs.Words.{length-set, holds}
use Rattle.std.proofs.Common.{◌+◌, get_or, bit_and, bit_xor, refl, ap, ◌∙◌, arith}
use Rattle.exam_plan.proofs.HallBits.{holds_empty, holds_xor, holds_and}
use Rattle.exam_plan.proofs.Tallying.{counts_more, counting_done, carried_none}
use Rattle.exam_plan.proofs.tally.count_word.Goals as goal

pub loop-place-preserved : goal.loop-place-preserved
loop-place-preserved c =
    let digit = get_or c.loop-place.digits c.loop-place.place 0 in
    record {
      whole = simp length-set c.loop-place.invariant.whole;
      counting = counts_more c.args.digits.now c.loop-place.digits c.args.word c.loop-place.place digit
          c.loop-place.carry (bit_xor digit c.loop-place.carry)
          (omega (arith, c.loop-place-test.true, c.loop-place.invariant.whole))
          refl
          (holds_xor digit c.loop-place.carry) (bit_and c.loop-place.carry digit) (holds_and c.loop-place.carry digit)
          (c.loop-place.place + 1) (omega arith) c.loop-place.invariant.counting;
    }

pub returns-clause-more : goal.returns-clause-more
returns-clause-more c h few =
    counting_done c.args.digits.now c.loop-place.digits c.args.word c.loop-place.place c.loop-place.carry h
    (carried_none c.args.digits.now c.loop-place.digits c.args.word c.loop-place.place c.loop-place.carry h
    (omega (arith, c.loop-place-test.false, c.loop-place.auto.place-end)) few c.loop-place.invariant.counting)
    c.loop-place.invariant.counting

pub returns-then-carry-eq0-clause-more : goal.returns-then-carry-eq0-clause-more
returns-then-carry-eq0-clause-more c h few =
    counting_done c.args.digits.now c.loop-place.digits c.args.word c.loop-place.place c.loop-place.carry h
    (ap (λ s. holds s h) c.if-carry-eq0.true ∙ holds_empty h) c.loop-place.invariant.counting
