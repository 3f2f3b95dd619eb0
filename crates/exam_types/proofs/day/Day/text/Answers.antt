use Rattle.std.proofs.Common.{w8, w16, ◌∙◌, pos, arith, ap}
use Rattle.exam_types.specs.Days as spec
use Rattle.exam_types.specs.Days.{IsDay}
use Rattle.exam_types.proofs.DayFacts.{date_parts}
use Rattle.exam_types.proofs.DayTexts.{parts_small, plain, written}
use Rattle.exam_types.proofs.day.Day.text.Goals as goal

pub returns-clause-text : goal.returns-clause-text
returns-clause-text c =
    let n = c.args.self in
    let is = c.date-date.ensures.range in
    let parts = date_parts c.date-date.result n is c.date-date.ensures.number in
    let small = parts_small n is in
    let year = plain w16 c.year.result (spec.year_of n) (c.year.ensures ∙ parts.0) (omega (arith, small.0)) in
    let month = plain w8 c.month.result (spec.month_of n) (c.month.ensures ∙ ap pos parts.1) (omega (arith, small.1)) in
    let day = plain w8 c.day.result (spec.month_day_of n) (c.day.ensures ∙ ap pos parts.2) (omega (arith, small.2)) in
    written n c.from.result c.from-2.result c.from-3.result _ _ _ _ _ _
    (c.from.ensures ∙ c.unsigned_abs.ensures.value ∙ year)
    (c.from-2.ensures ∙ c.unsigned_abs-2.ensures.value ∙ month)
    (c.from-3.ensures ∙ c.unsigned_abs-3.ensures.value ∙ day) c.new-text.ensures c.push_digits.ensures.text
    c.push.ensures.items c.push_digits-2.ensures.text c.push-2.ensures.items c.push_digits-3.ensures.text
