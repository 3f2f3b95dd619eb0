use Rattle.std.proofs.Common.{◌≡◌}
use Rattle.std.specs.List.{list_any}
use Rattle.exam_commands.specs.Appeals.{is_open_appeal}
use Rattle.exam_commands.proofs.appeals.has_open_appeal.Given as goal

-- what is left answers as the whole
abbrev pub invariant-loop-appeal : goal.invariant-loop-appeal
invariant-loop-appeal l =
    (goal.iterator-loop-appeal).can_next l.appeal-iterator × (goal.iterator-loop-appeal).is_finite l.appeal-iterator
    × (l.appeal-iterator.0 ≡ l.fn.number)
    × (list_any (is_open_appeal l.fn.number l.session l.subject) l.appeal-iterator.1
    ≡ list_any (is_open_appeal l.fn.number l.session l.subject) l.facts.appeals.entries)
