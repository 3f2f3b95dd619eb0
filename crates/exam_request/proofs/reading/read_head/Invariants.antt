use Rattle.std.proofs.Common.{◌≡◌, ◌-◌, ◌≤◌, None, length, take}
use Rattle.std.specs.Io.KnownBytes.{Consumes}
use Rattle.exam_request.specs.Input.{head_len}
use Rattle.exam_request.proofs.reading.read_head.Given as goal
use Rattle.exam_request.specs.Sizes.{most_head}

-- what is in hand was consumed, and holds no end of a head
abbrev pub invariant-loop-filled : goal.invariant-loop-filled
invariant-loop-filled g l =
    (l.filled ≤ most_head) × (most_head ≤ length l.buffer) × (head_len (take l.filled l.buffer) ≡ None)
    × Consumes (g.R.Read.remaining l.fn.reader) (g.R.Read.remaining l.reader) (take l.filled l.buffer)

abbrev pub decreases-loop-filled : goal.decreases-loop-filled
decreases-loop-filled g l = most_head - l.filled
