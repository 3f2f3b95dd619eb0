use Rattle.std.proofs.Common.{◌∙◌, ap}
use Rattle.exam_request.specs.Targets.{reading}
use Rattle.exam_request.proofs.Readings.{reading_says, text_reads}
use Rattle.exam_request.proofs.routes.reading_is_exact.Goals as goal

pub returns : goal.returns
returns c target t = (reading_says target t, λ h. ap reading h.1 ∙ text_reads t h.0)
