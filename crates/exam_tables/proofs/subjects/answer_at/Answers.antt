use Rattle.std.proofs.Common.{◌≡◌, Err, rules}
use Rattle.exam_tables.proofs.Reading.{no_answer}
use Rattle.exam_tables.proofs.subjects.answer_at.Goals as goal

pub returns-in_err-reason_at : goal.returns-in_err-reason_at
returns-in_err-reason_at c =
    let is : c.from_residual.result ≡ Err c.in_err-reason_at.field-0.0 = search rules in
    rw is (record {
      read = no_answer _ _ (search rules) c.in_err-reason_at.ensures.read;
      memory = c.in_err-reason_at.ensures.memory;
    })
