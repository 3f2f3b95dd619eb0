use Rattle.std.proofs.Common.{◌≡◌, length}
use Rattle.exam_plan.proofs.Tallying.{IsCounting}
use Rattle.exam_plan.proofs.tally.count_word.Given as goal

abbrev pub invariant-loop-place : goal.invariant-loop-place
invariant-loop-place l = record {
  whole : length l.digits ≡ 13;
  counting : IsCounting l.initial.digits l.fn.word l.digits l.place l.carry;
}
