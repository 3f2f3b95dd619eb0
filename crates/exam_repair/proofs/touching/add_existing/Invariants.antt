use Rattle.std.proofs.Common.{◌≡◌, ◌||◌}
use Rattle.std.specs.BTreeSet.{contains}
use Rattle.std.specs.List.{list_any}
use Rattle.exam_rules.specs.Relations.{Code, code_cmp, relations_of}
use Rattle.exam_commands.specs.Touched.{names}
use Rattle.exam_repair.proofs.touching.add_existing.Given as goal

-- those held and those left are all
abbrev pub invariant-loop-code : goal.invariant-loop-code
invariant-loop-code l = (s : Code)
    → (list_any (λ (k : Code). names (relations_of l.facts) k s) l.code-iterator || contains code_cmp l.codes s)
    ≡ (list_any (λ (k : Code). names (relations_of l.facts) k s) l.reached.keys || contains code_cmp l.fn.codes s)
