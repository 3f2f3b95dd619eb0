use Rattle.std.proofs.Common.{◌≡◌, ◌||◌}
use Rattle.std.specs.BTreeSet.{contains}
use Rattle.std.specs.List.{list_any}
use Rattle.exam_rules.specs.Relations.{Code, code_cmp, relations_of}
use Rattle.exam_rules.specs.Sessions.{has_live_entry, is_live_entry}
use Rattle.exam_repair.proofs.touching.add_entered.Given as goal

-- those held and those left are all
abbrev pub invariant-loop-key : goal.invariant-loop-key
invariant-loop-key l =
    (goal.iterator-loop-key).can_next l.key-iterator × (goal.iterator-loop-key).is_finite l.key-iterator
    × (l.key-iterator.0 ≡ l.fn.number)
    × ((s : Code) → (list_any (is_live_entry (relations_of l.facts) s l.fn.number)
    l.key-iterator.1 || contains code_cmp l.codes s)
    ≡ (has_live_entry (relations_of l.facts) s l.fn.number || contains code_cmp l.fn.codes s))
