use Rattle.std.proofs.Common.{◌≡◌, ◌<◌, ◌^◌, ◌∙◌, decimal, arith}
use Rattle.exam_files.proofs.Fields.{desk_dashed}
use Rattle.exam_files.proofs.sheet_text.desk_bytes.Goals as goal

pub returns-in-Some : goal.returns-in-Some
returns-in-Some c =
    let text : c.as_bytes.result.now ≡ decimal c.in-Some.number = c.as_bytes.ensures.value ∙ c.format.ensures.text in
    let small : c.in-Some.number < 2 ^ 64 = omega arith in
    record { value = rw c.in-Some.is text; form = rw text (desk_dashed c.in-Some.number small) }
