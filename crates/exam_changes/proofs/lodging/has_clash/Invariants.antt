use Rattle.std.proofs.Common.{◌≡◌, filter, length, nat_eq, not}
use Rattle.exam_rules.specs.Relations.{relations_of}
use Rattle.exam_rules.specs.Sessions.{clash_papers, is_clash, live_papers_in}
use Rattle.exam_changes.proofs.lodging.has_clash.Given as goal

-- what is left answers as the whole
abbrev pub invariant-loop-key : goal.invariant-loop-key
invariant-loop-key l =
    (goal.iterator-loop-key).can_next l.key-iterator × (goal.iterator-loop-key).is_finite l.key-iterator
    × (l.key-iterator.0 ≡ l.fn.number)
    × (not (nat_eq (length
    (filter (is_clash l.sat)
    (live_papers_in (relations_of l.facts) l.key-iterator.1 l.session l.fn.number))) 0)
    ≡ not (nat_eq (length (clash_papers (relations_of l.facts) l.session l.fn.number)) 0))
