use Rattle.std.proofs.Common.{refl}
use Rattle.exam_rules.specs.Tables as table
use Rattle.exam_changes.proofs.kept.KeptRows.tables_before.Goals as goal

pub returns : goal.returns
returns c = λ r there. elim [ table.Sessions ↦ (there table.Sessions, refl) | t ↦ (there t, refl) ]
