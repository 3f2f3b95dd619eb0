use Rattle.std.proofs.Common.{◌≡◌, ◌∙◌, ◌++◌, ap}
use Rattle.exam_types.specs.Codes.{is_dashed}
use Rattle.exam_types.specs.Numbers.{number_text}
use Rattle.exam_files.specs.Places.{hall_word, desk_word}
use Rattle.exam_files.proofs.Fields.{all_allowed, bare, joined, number_dashed}
use Rattle.exam_files.proofs.exports.write_seat.Goals as goal

pub returns-clause-ok : goal.returns-clause-ok
returns-clause-ok c = λ bytes held.
    let code = c.args.code.now in
    let seat = c.args.seat.now in
    let hall = c.hall_bytes in
    let desk = c.desk_bytes in
    let number : c.as_slice.result.now ≡ number_text seat.number =
    c.as_slice.ensures.value ∙ c.in_ok-write_to.ensures.ok
    ∙ ap (λ t. t ++ number_text seat.number) c.new-number.ensures.items in
    let line = joined code (number_text seat.number) seat.paper (hall_word seat.hall) (desk_word seat.desk)
    (bare code (all_allowed is_dashed 1 12 code c.as_bytes.ensures.form))
    (bare (number_text seat.number) (number_dashed seat.number))
    (bare seat.paper (all_allowed is_dashed 1 12 seat.paper c.as_bytes-2.ensures.form))
    (rw hall.ensures.value at (bare hall.result.now hall.ensures.form))
    (rw desk.ensures.value at (bare desk.result.now desk.ensures.form)) in
    rw (c.as_bytes.ensures.value, number, c.as_bytes-2.ensures.value, hall.ensures.value, desk.ensures.value, line) at
    (c.write_record.ensures.ok bytes held)
