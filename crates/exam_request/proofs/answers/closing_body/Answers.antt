use Rattle.std.proofs.Common.{◌∙◌}
use Rattle.exam_request.proofs.DayBodies.{closing}
use Rattle.exam_request.proofs.answers.closing_body.Goals as goal

pub returns : goal.returns
returns c =
    closing c.args.day _ _ _ _ _ c.new-body.ensures c.put.ensures.text c.put-2.ensures.text c.put-3.ensures.text
    (c.as_slice.ensures.value ∙ c.text.ensures.text)
