use Rattle.exam_laws.proofs.KeptRows.{step_keeps}
use Rattle.exam_laws.proofs.laws.only_closing_takes_a_row_away.Goals as goal

pub returns : goal.returns
returns c = λ done today before after reply fine step. step_keeps done today before reply after fine step
