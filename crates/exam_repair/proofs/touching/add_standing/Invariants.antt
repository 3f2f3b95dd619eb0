use Rattle.std.proofs.Common.{◌≡◌, ◌||◌}
use Rattle.std.specs.BTreeSet.{contains}
use Rattle.std.specs.List.{list_any}
use Rattle.exam_rules.specs.Relations.{Code, code_cmp, relations_of}
use Rattle.exam_commands.specs.Touched.{stands_in}
use Rattle.exam_repair.proofs.touching.add_standing.Given as goal

-- those held and those left are all
abbrev pub invariant-loop-key : goal.invariant-loop-key
invariant-loop-key l = (s : Code)
    → (list_any (stands_in (relations_of l.facts) s) l.key-iterator || contains code_cmp l.codes s)
    ≡ (list_any (stands_in (relations_of l.facts) s) l.facts.appeals.entries || contains code_cmp l.fn.codes s)
