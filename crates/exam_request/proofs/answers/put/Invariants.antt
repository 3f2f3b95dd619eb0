use Rattle.std.proofs.Common.{◌≡◌, ◌++◌, ◌+◌, drop}
use Rattle.arrayvec.specs.ArrayVec.{array_vec_len}
use Rattle.exam_request.proofs.answers.put.Given as goal

abbrev pub invariant-loop-b : goal.invariant-loop-b
invariant-loop-b l =
    (l.out.items ++ drop l.b-index l.bytes ≡ l.fn.out.items ++ l.bytes)
    × (array_vec_len l.out ≡ array_vec_len l.fn.out + l.b-index)
