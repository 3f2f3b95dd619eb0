use Rattle.exam_rules.proofs.Words.{flat_map, relations_of, clashes_of}
use Rattle.std.proofs.Common.{◌≡◌, ◌++◌, drop}
use Rattle.exam_rules.proofs.clashing.clashes_among.Given as goal

-- what is left makes of the list so far the whole
abbrev pub invariant-loop-number : goal.invariant-loop-number
invariant-loop-number l =
    l.list.items ++ flat_map (clashes_of (relations_of l.facts) l.session) (drop l.number-index l.numbers)
    ≡ flat_map (clashes_of (relations_of l.facts) l.session) l.numbers
