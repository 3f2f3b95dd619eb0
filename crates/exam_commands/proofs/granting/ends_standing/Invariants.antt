use Rattle.std.proofs.Common.{◌≡◌}
use Rattle.std.specs.List.{list_any}
use Rattle.exam_rules.specs.Relations.{relations_of}
use Rattle.exam_commands.specs.Touched.{ends_standing, is_ended}
use Rattle.exam_commands.proofs.granting.ends_standing.Given as goal

-- what is left answers as the whole
abbrev pub invariant-loop-key : goal.invariant-loop-key
invariant-loop-key l =
    (goal.iterator-loop-key).can_next l.key-iterator × (goal.iterator-loop-key).is_finite l.key-iterator
    × (l.key-iterator.0 ≡ l.decision.number)
    × (list_any (is_ended (relations_of l.facts) l.decision l.appeal) l.key-iterator.1
    ≡ ends_standing (relations_of l.facts) l.decision l.appeal)
