use Rattle.std.proofs.Common.{◌≡◌, ◌++◌}
use Rattle.std.specs.List.{filter_map}
use Rattle.exam_commands.specs.Singles.{single_key}
use Rattle.exam_repair.proofs.singles.are_single.Given as goal

-- with those that are left they are all
abbrev pub invariant-loop-key : goal.invariant-loop-key
invariant-loop-key l =
    l.keys.items ++ filter_map single_key l.key-iterator ≡ filter_map single_key l.facts.appeals.entries
