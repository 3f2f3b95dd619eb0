use Rattle.std.proofs.Common.{◌≡◌, ◌++◌}
use Rattle.exam_rules.specs.Sessions.{barred_halls_in}
use Rattle.exam_rules.proofs.appeals.barred_halls.Given as goal

-- what is left answers as the whole
abbrev pub invariant-loop-appeal : goal.invariant-loop-appeal
invariant-loop-appeal l =
    (goal.iterator-loop-appeal).can_next l.appeal-iterator × (goal.iterator-loop-appeal).is_finite l.appeal-iterator
    × (l.appeal-iterator.0 ≡ l.fn.number)
    × (l.halls.items ++ barred_halls_in l.appeal-iterator.1 l.session l.fn.number
    ≡ barred_halls_in l.facts.appeals.entries l.session l.fn.number)
