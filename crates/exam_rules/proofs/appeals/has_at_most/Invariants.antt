use Rattle.exam_rules.proofs.Words.{relations_of}
use Rattle.std.proofs.Common.{◌≡◌, ◌≤◌, ◌+◌, length}
use Rattle.exam_rules.specs.Sessions.{appeal_count}
use Rattle.exam_rules.proofs.appeals.has_at_most.Given as goal

-- those counted and those left are all
abbrev pub invariant-loop : goal.invariant-loop
invariant-loop l =
    (goal.iterator-loop).can_next l.iterator' × (goal.iterator-loop).is_finite l.iterator'
    × (l.count ≤ l.most) × (l.count + length l.iterator'.1 ≡ appeal_count (relations_of l.facts) l.fn.number)
