use Rattle.exam_types.proofs.DayTexts.{only_parts, text_of_numbers}
use Rattle.exam_types.proofs.day.parts_of.Goals as goal

pub returns : goal.returns
returns c =
    let long = c.if-bytes-ne10.false in
    let day = rw long at c.in_ok-day.ensures.value in
    let day_small = rw long at c.in_ok-day.ensures.bound in
    let read = text_of_numbers c.args.bytes.now c.in_ok-year.year c.in_ok-month.month c.in_ok-day.day long
    c.if-bytes-ne45.false c.if-bytes-ne45-2.false c.in_ok-year.ensures.value c.in_ok-year.ensures.bound
    c.in_ok-month.ensures.value c.in_ok-month.ensures.bound day day_small in
    only_parts c.args.bytes.now c.in_ok-year.year c.in_ok-month.month c.in_ok-day.day read.0 read.1 read.2 read.3
