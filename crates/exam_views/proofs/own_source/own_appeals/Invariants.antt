use Rattle.std.proofs.Common.{◌≡◌, ◌++◌, map}
use Rattle.exam_rules.specs.Relations.{relations_of}
use Rattle.exam_commands.specs.Own.{own_appeal, own_appeals}
use Rattle.exam_views.proofs.own_source.own_appeals.Given as goal

-- what is left makes of the appeals so far the whole
abbrev pub invariant-loop-key : goal.invariant-loop-key
invariant-loop-key l =
    (goal.iterator-loop-key).can_next l.key-iterator × (goal.iterator-loop-key).is_finite l.key-iterator
    × (l.appeals.items ++ map (own_appeal (relations_of l.facts)) l.key-iterator.1
    ≡ own_appeals (relations_of l.facts) l.fn.number)
