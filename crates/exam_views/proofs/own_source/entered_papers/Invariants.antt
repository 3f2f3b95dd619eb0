use Rattle.std.proofs.Common.{◌≡◌}
use Rattle.exam_rules.specs.Relations.{relations_of}
use Rattle.exam_views.proofs.OwnEntered.{EnteredLeft}
use Rattle.exam_views.proofs.own_source.entered_papers.Given as goal

-- the lists so far, and what is left
abbrev pub invariant-loop-key : goal.invariant-loop-key
invariant-loop-key l =
    (goal.iterator-loop-key).can_next l.key-iterator × (goal.iterator-loop-key).is_finite l.key-iterator
    × (l.key-iterator.0 ≡ l.fn.number)
    × EnteredLeft (relations_of l.facts) l.fn.number l.entered.entries l.key-iterator.1
