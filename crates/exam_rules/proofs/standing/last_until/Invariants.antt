use Rattle.exam_rules.proofs.Words.{relations_of, later_of}
use Rattle.std.proofs.Common.{◌≡◌, filter}
use Rattle.std.specs.Prelude.{fold, nat_le}
use Rattle.exam_rules.specs.Sessions.{last_until, standing_grants, standing_grants_in}
use Rattle.exam_rules.proofs.standing.last_until.Given as goal

-- the last so far and those left answer as the whole
abbrev pub invariant-loop-key : goal.invariant-loop-key
invariant-loop-key l =
    (goal.iterator-loop-key).can_next l.key-iterator × (goal.iterator-loop-key).is_finite l.key-iterator
    × (l.key-iterator.0 ≡ l.fn.number)
    × (fold later_of l.last
    (filter (λ grant. nat_le grant.day l.day)
    (standing_grants_in (relations_of l.facts) l.key-iterator.1 l.fn.number))
    ≡ last_until l.day (standing_grants (relations_of l.facts) l.fn.number))
