use Rattle.std.proofs.Common.{◌≡◌, ◌-◌, ◌+◌, ◌≤◌, length, take}
use Rattle.exam_request.specs.Input.{HeadRead}
use Rattle.exam_request.proofs.Bodies.{JudgedAt}
use Rattle.exam_request.proofs.reading.read_message.Given as goal
use Rattle.exam_request.specs.Sizes.{most_request}

-- the head is in hand, and says how long the body is
abbrev pub invariant-loop-filled : goal.invariant-loop-filled
invariant-loop-filled g l =
    (l.filled ≤ length l.buffer) × (l.filled ≤ most_request) × (l.end ≤ length l.buffer) × (l.end ≤ most_request)
    × (l.head + l.spans.body_length ≡ l.end)
    × HeadRead (g.R.Read.remaining l.fn.reader) (g.R.Read.remaining l.reader) (take l.filled l.buffer) l.head
    × JudgedAt (take l.head (take l.filled l.buffer)) l.spans

abbrev pub decreases-loop-filled : goal.decreases-loop-filled
decreases-loop-filled g l = l.end - l.filled
