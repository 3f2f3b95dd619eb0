-- A text that has no parts, or parts that are no date, is the text of no day. Otherwise the parts are those of that
-- date, which has this text and no other.
use Rattle.std.proofs.Common.{◌≡◌, Some, None, true, false}
use Rattle.exam_types.specs.Days as spec
use Rattle.exam_types.proofs.DayTexts.{day_of_is, is_date, no_text, parts_of_text, read_text}
use Rattle.exam_types.proofs.day.Day.parse.Goals as goal

pub returns-in_err-year : goal.returns-in_err-year
returns-in_err-year c =
    let bytes = c.args.bytes.now in
    let exact = no_text bytes c.from_residual.result c.from_residual.ensures (λ n is text.
    let read : None ≡ Some (spec.year_of n, spec.month_of n, spec.month_day_of n) =
    parts_of_text bytes None n c.in_err-year.ensures is text in cc) in
    record { exact = exact; value = day_of_is bytes c.from_residual.result exact }

pub date_of-requires-clause-year : goal.date_of-requires-clause-year
date_of-requires-clause-year c = ((c.parts_of.ensures _ _ _).0 c.in_ok-year.was).0

pub date_of-requires-clause-month : goal.date_of-requires-clause-month
date_of-requires-clause-month c = ((c.parts_of.ensures _ _ _).0 c.in_ok-year.was).1

pub date_of-requires-clause-day : goal.date_of-requires-clause-day
date_of-requires-clause-day c = ((c.parts_of.ensures _ _ _).0 c.in_ok-year.was).2

pub returns-in_err-date_of : goal.returns-in_err-date_of
returns-in_err-date_of c =
    let bytes = c.args.bytes.now in
    let none = c.from_residual-in_err-date_of in
    let exact = no_text bytes none.result none.ensures (λ n is text.
    let never : false ≡ true =
    c.in_err-date_of.ensures.is_date.1
    (is_date bytes c.parts_of.result n c.in_ok-year.year c.in_ok-year.month c.in_ok-year.day c.parts_of.ensures
    c.in_ok-year.was is text) in cc) in
    record { exact = exact; value = day_of_is bytes none.result exact }

pub returns : goal.returns
returns c =
    let bytes = c.args.bytes.now in
    let exact = read_text bytes c.parts_of.result c.in_ok-date_of.field-0 c.from_date.result c.in_ok-year.year
    c.in_ok-year.month c.in_ok-year.day c.parts_of.ensures c.in_ok-year.was c.in_ok-date_of.ensures.value
    c.from_date.ensures in
    record { exact = exact; value = day_of_is bytes c.from_date.result exact }
