use Rattle.exam_files.proofs.Fields.{hall_dashed}
use Rattle.exam_files.proofs.sheet_text.hall_bytes.Goals as goal

pub returns-in-Some-clause-form : goal.returns-in-Some-clause-form
returns-in-Some-clause-form c = rw c.as_bytes.ensures.value (hall_dashed c.in-Some.code c.as_bytes.ensures.form)
