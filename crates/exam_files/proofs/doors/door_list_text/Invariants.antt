use Rattle.std.proofs.Common.{◌≡◌, ◌++◌, ◌+◌, ◌-◌}
use Rattle.std.specs.List.{flat_map, range_with_len}
use Rattle.exam_files.specs.Doors.{door_text, line_at}
use Rattle.exam_files.proofs.doors.door_list_text.Given as goal

abbrev pub invariant-loop-desk : goal.invariant-loop-desk
invariant-loop-desk l =
    l.text.items ++ flat_map (λ desk. flat_map (line_at l.hall desk) l.seats)
    (range_with_len (1 + l.desk) (l.opening.desks - l.desk)) ≡ door_text l.fn.code l.fn.session l.hall l.opening l.seats
