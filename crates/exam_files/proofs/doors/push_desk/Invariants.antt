use Rattle.std.proofs.Common.{◌≡◌, ◌++◌, drop}
use Rattle.std.specs.List.{flat_map}
use Rattle.exam_files.specs.Doors.{line_at}
use Rattle.exam_files.proofs.doors.push_desk.Given as goal

abbrev pub invariant-loop-seat : goal.invariant-loop-seat
invariant-loop-seat l =
    l.text.items ++ flat_map (line_at l.hall l.desk) (drop l.seat-index l.seats) ≡ l.fn.text.items
    ++ flat_map (line_at l.hall l.desk) l.seats
