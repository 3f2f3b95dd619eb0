use Rattle.exam_rules.proofs.Words.{relations_of, is_clash, live_papers_in}
use Rattle.std.proofs.Common.{◌≡◌, ◌++◌, map, filter}
use Rattle.exam_rules.specs.Sessions.{live_papers}
use Rattle.exam_rules.proofs.clashing.push_clashes.Given as goal

-- what is left answers as the whole
abbrev pub invariant-loop-key : goal.invariant-loop-key
invariant-loop-key l =
    (goal.iterator-loop-key).can_next l.key-iterator × (goal.iterator-loop-key).is_finite l.key-iterator
    × (l.key-iterator.0 ≡ l.number)
    × (l.list.items ++ map (λ p. (l.number, p))
    (filter (is_clash l.sat)
    (live_papers_in (relations_of l.facts) l.key-iterator.1 l.session l.number))
    ≡ l.fn.list.items ++ map (λ p. (l.number, p))
    (filter (is_clash l.sat) (live_papers (relations_of l.facts) l.session l.number)))
