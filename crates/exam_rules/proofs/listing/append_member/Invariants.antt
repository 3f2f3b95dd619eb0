use Rattle.exam_rules.proofs.Words.{Code, relations_of, least_live_paper, listed, with_member}
use Rattle.std.proofs.Common.{◌≡◌}
use Rattle.exam_rules.proofs.Listed.{first_in}
use Rattle.exam_rules.proofs.listing.append_member.Given as goal

-- what is left makes of each list what all entries make of the first one
abbrev pub invariant-loop-key : goal.invariant-loop-key
invariant-loop-key l =
    (goal.iterator-loop-key).can_next l.key-iterator × (goal.iterator-loop-key).is_finite l.key-iterator
    × (l.key-iterator.0 ≡ l.number)
    × ((s : Code) → with_member l.number (first_in (relations_of l.facts) l.number s l.key-iterator.1)
    (listed l.members.entries s)
    ≡ with_member l.number (least_live_paper (relations_of l.facts) s l.number) (listed l.fn.members.entries s))
