use Rattle.std.proofs.Common.{◌≡◌, length}
use Rattle.exam_plan.proofs.Tallying.{IsDiscounting}
use Rattle.exam_plan.proofs.tally.discount_word.Given as goal

abbrev pub invariant-loop-place : goal.invariant-loop-place
invariant-loop-place l = record {
  whole : length l.digits ≡ 13;
  counting : IsDiscounting l.initial.digits l.fn.word l.digits l.place l.borrow;
}
