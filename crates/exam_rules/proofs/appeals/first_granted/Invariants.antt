use Rattle.std.proofs.Common.{◌≡◌, Option}
use Rattle.exam_rules.specs.Granted.{Subject, first_made}
use Rattle.exam_rules.proofs.appeals.first_granted.Given as goal

-- what is left answers as the whole
abbrev pub invariant-loop-appeal : goal.invariant-loop-appeal
invariant-loop-appeal g l =
    (goal.iterator-loop-appeal g).can_next l.appeal-iterator
    × (goal.iterator-loop-appeal g).is_finite l.appeal-iterator × (l.appeal-iterator.0 ≡ l.fn.number)
    × goal.F-IsAlwaysCallable g l.wanted
    × ((made : Subject → Option g.row.T.Denot)
    → ((s : Subject) (r : Option g.row.T.Denot) → goal.F-post g l.wanted s r → r ≡ made s)
    → first_made made l.appeal-iterator.1 l.session l.fn.number
    ≡ first_made made l.facts.appeals.entries l.session l.fn.number)
