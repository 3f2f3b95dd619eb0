use Rattle.std.proofs.Common.{◌≡◌, ◌++◌, drop}
use Rattle.std.specs.List.{flat_map}
use Rattle.exam_files.specs.Attendances.{line_for}
use Rattle.exam_files.proofs.attendances.push_lines.Given as goal

abbrev pub invariant-loop-seat : goal.invariant-loop-seat
invariant-loop-seat l =
    l.text.items ++ flat_map (line_for l.paper) (drop l.seat-index l.seats) ≡ l.fn.text.items
    ++ flat_map (line_for l.paper) l.seats
