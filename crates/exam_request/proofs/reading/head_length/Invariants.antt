use Rattle.std.proofs.Common.{◌≡◌, ◌+◌, length}
use Rattle.std.specs.Prelude.{option_map}
use Rattle.exam_request.specs.Input.{head_len}
use Rattle.exam_request.proofs.reading.head_length.Given as goal

-- the rest decides, and nothing before it
abbrev pub invariant-loop-rest : goal.invariant-loop-rest
invariant-loop-rest l =
    (head_len l.bytes ≡ option_map (λ n. l.passed + n) (head_len l.rest)) × (l.passed + length l.rest ≡ length l.bytes)

abbrev pub decreases-loop-rest : goal.decreases-loop-rest
decreases-loop-rest l = length l.rest
