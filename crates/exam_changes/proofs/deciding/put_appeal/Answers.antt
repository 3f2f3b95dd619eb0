use Rattle.exam_rules.specs.Tables as table
use Rattle.exam_commands.proofs.KeyedRows.{appeals_exact}
use Rattle.exam_changes.proofs.deciding.put_appeal.Goals as goal

pub returns-clause-back : goal.returns-clause-back
returns-clause-back c =
    λ first back. elim [
      | table.Appeals ↦ c.put_kept.ensures.back appeals_exact first.appeals
          (back table.Appeals)
      | t ↦ back t
    ]
