use Rattle.std.proofs.Common.{◌≡◌, ◌||◌, drop}
use Rattle.std.specs.BTreeSet.{contains}
use Rattle.std.specs.List.{list_any}
use Rattle.exam_rules.specs.Relations.{Code, code_cmp, relations_of}
use Rattle.exam_commands.specs.declared.import_row.Row.{Row}
use Rattle.exam_commands.specs.Touched.{names_session}
use Rattle.exam_repair.proofs.touching.add_rows.Given as goal

-- those held and those left are all
abbrev pub invariant-loop-row : goal.invariant-loop-row
invariant-loop-row l = (s : Code)
    → (list_any (λ (x : Row). names_session (relations_of l.facts) x s)
    (drop l.row-index l.rows) || contains code_cmp l.codes s)
    ≡ (list_any (λ (x : Row). names_session (relations_of l.facts) x s) l.rows || contains code_cmp l.fn.codes s)
