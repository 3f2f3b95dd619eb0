use Rattle.std.proofs.Common.{◌≡◌, ◌++◌, drop}
use Rattle.std.specs.List.{flat_map}
use Rattle.exam_files.specs.Shortages.{candidate_line}
use Rattle.exam_files.proofs.shortages.push_candidates.Given as goal

abbrev pub invariant-loop-number : goal.invariant-loop-number
invariant-loop-number l =
    l.text.items ++ flat_map candidate_line (drop l.number-index l.numbers) ≡ l.fn.text.items
    ++ flat_map candidate_line l.numbers
