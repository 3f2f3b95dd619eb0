use Rattle.std.proofs.Common.{◌≡◌, ◌++◌, drop}
use Rattle.std.specs.List.{flat_map}
use Rattle.exam_files.specs.Shortages.{hall_line}
use Rattle.exam_files.proofs.shortages.push_halls.Given as goal

abbrev pub invariant-loop-hall : goal.invariant-loop-hall
invariant-loop-hall l =
    l.text.items ++ flat_map hall_line (drop l.hall-index l.halls) ≡ l.fn.text.items ++ flat_map hall_line l.halls
