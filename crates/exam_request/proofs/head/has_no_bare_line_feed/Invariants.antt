use Rattle.std.proofs.Common.{◌≡◌, ◌+◌, ◌<◌, ℕ, get_or}
use Rattle.exam_request.proofs.head.has_no_bare_line_feed.Given as goal

-- each line feed so far follows a carriage return
abbrev pub invariant-loop-at : goal.invariant-loop-at
invariant-loop-at l = (k : ℕ) → k + 1 < l.at → get_or l.head (k + 1) 0 ≡ 10 → get_or l.head k 0 ≡ 13
