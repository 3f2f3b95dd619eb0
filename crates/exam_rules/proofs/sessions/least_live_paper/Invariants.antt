use Rattle.exam_rules.proofs.Words.{relations_of, head_of, live_papers_in}
use Rattle.std.proofs.Common.{◌≡◌}
use Rattle.exam_rules.specs.Sessions.{live_papers}
use Rattle.exam_rules.proofs.sessions.least_live_paper.Given as goal

-- what is left answers as the whole
abbrev pub invariant-loop-key : goal.invariant-loop-key
invariant-loop-key l =
    (goal.iterator-loop-key).can_next l.key-iterator × (goal.iterator-loop-key).is_finite l.key-iterator
    × (l.key-iterator.0 ≡ l.fn.number)
    × (head_of (live_papers_in (relations_of l.facts) l.key-iterator.1 l.session l.fn.number)
    ≡ head_of (live_papers (relations_of l.facts) l.session l.fn.number))
