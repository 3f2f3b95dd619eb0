use Rattle.std.proofs.Common.{◌≡◌, drop, map, length}
use Rattle.std.specs.Prelude.{IfSome}
use Rattle.httparse.specs.Spans.{IsWithin, header_bytes}
use Rattle.exam_request.specs.Head.{found_in, only_place, shown, values_of}
use Rattle.exam_request.proofs.Founds.{with_more}
use Rattle.exam_request.proofs.lines.lines_of.Given as goal

-- the lines so far and the rest decide
abbrev pub invariant-loop-header : goal.invariant-loop-header
invariant-loop-header l =
    (with_more (shown l.head l.seen) (values_of l.name (map (header_bytes l.head) (drop l.header-index l.headers)))
    ≡ found_in (values_of l.name (map (header_bytes l.head) l.headers)))
    × IfSome (only_place l.seen) (IsWithin (length l.head))
