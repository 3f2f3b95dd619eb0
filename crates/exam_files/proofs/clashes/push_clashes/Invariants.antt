use Rattle.std.proofs.Common.{◌≡◌, ◌++◌, drop}
use Rattle.std.specs.List.{flat_map}
use Rattle.exam_files.specs.Clashes.{clash_line}
use Rattle.exam_files.proofs.clashes.push_clashes.Given as goal

abbrev pub invariant-loop-clash : goal.invariant-loop-clash
invariant-loop-clash l =
    l.text.items ++ flat_map clash_line (drop l.clash-index l.clashes) ≡ l.fn.text.items
    ++ flat_map clash_line l.clashes
