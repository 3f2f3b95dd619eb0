use Rattle.std.proofs.Common.{◌≡◌}
use Rattle.std.specs.List.{find}
use Rattle.exam_commands.specs.Decisions.{is_earlier}
use Rattle.exam_commands.proofs.granting.earlier_grant.Given as goal

-- what is left answers as the whole
abbrev pub invariant-loop-key : goal.invariant-loop-key
invariant-loop-key l =
    (goal.iterator-loop-key).can_next l.key-iterator × (goal.iterator-loop-key).is_finite l.key-iterator
    × (l.key-iterator.0 ≡ l.number)
    × (find (is_earlier l.number l.appeal.session l.appeal.subject) l.key-iterator.1
    ≡ find (is_earlier l.number l.appeal.session l.appeal.subject) l.facts.appeals.entries)
