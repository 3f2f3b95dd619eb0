use Rattle.exam_laws.proofs.Lasting.{lodging_moves_nobody, retraction_moves_nobody}
use Rattle.exam_laws.proofs.laws.lodging_and_retracting_move_nobody.Goals as goal

pub returns-clause-lodging : goal.returns-clause-lodging
returns-clause-lodging c = lodging_moves_nobody

pub returns-clause-retracting : goal.returns-clause-retracting
returns-clause-retracting c = retraction_moves_nobody
