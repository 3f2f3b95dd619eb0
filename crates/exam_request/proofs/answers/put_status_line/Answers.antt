use Rattle.std.proofs.Common.{append_assoc}
use Rattle.exam_request.proofs.answers.put_status_line.Goals as goal

pub returns-clause-text : goal.returns-clause-text
returns-clause-text c =
    simp (
      append_assoc,
      c.put-4.ensures.text,
      c.phrase_of.ensures.value,
      c.put-3.ensures.text,
      c.put-2.ensures.text,
      c.as_bytes.ensures.value,
      c.as_str.ensures,
      c.put.ensures.text,
    ) at c.put-5.ensures.text
