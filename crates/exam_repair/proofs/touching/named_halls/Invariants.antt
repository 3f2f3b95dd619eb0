use Rattle.std.proofs.Common.{◌≡◌, ◌||◌, drop}
use Rattle.std.specs.BTreeSet.{contains}
use Rattle.std.specs.List.{list_any}
use Rattle.exam_rules.specs.Relations.{Code, code_cmp}
use Rattle.exam_commands.specs.declared.import_row.Row.{Row}
use Rattle.exam_commands.specs.Touched.{names_hall}
use Rattle.exam_repair.proofs.touching.named_halls.Given as goal

-- those held and those left are all
abbrev pub invariant-loop-row : goal.invariant-loop-row
invariant-loop-row l = (h : Code)
    → (list_any (λ (x : Row). names_hall x h) (drop l.row-index l.rows) || contains code_cmp l.halls h)
    ≡ list_any (λ (x : Row). names_hall x h) l.rows
