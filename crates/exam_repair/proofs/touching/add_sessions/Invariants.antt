use Rattle.std.proofs.Common.{◌≡◌, ◌||◌, drop}
use Rattle.std.specs.BTreeSet.{contains}
use Rattle.std.specs.List.{list_any}
use Rattle.exam_rules.specs.Relations.{Code, code_cmp}
use Rattle.exam_commands.specs.Touched.{sets_session}
use Rattle.exam_repair.proofs.touching.add_sessions.Given as goal

-- those held and those left are all
abbrev pub invariant-loop-row : goal.invariant-loop-row
invariant-loop-row l = (s : Code)
    → (list_any (sets_session s) (drop l.row-index l.rows) || contains code_cmp l.codes s)
    ≡ (list_any (sets_session s) l.rows || contains code_cmp l.fn.codes s)
