use Rattle.std.proofs.Common.{◌≡◌, ◌<◌, Some, None, arith, rules}
use Rattle.std.specs.Result.{result_ok}
use Rattle.jiff.specs.Words.{epoch_day}
use Rattle.exam_types.proofs.DayTexts.{jiff_subtracts, minus_is, number_before}
use Rattle.exam_types.proofs.day.Day.minus.Goals as goal

pub returns-in_err-ok : goal.returns-in_err-ok
returns-in_err-ok c =
    let none : result_ok c.checked_add.result ≡ None = search rules in
    let few : c.args.days < 65536 = omega arith in
    absurd (jiff_subtracts c.checked_add.result c.date.result c.args.self c.args.days c.days_back.result
    c.date.ensures.range few c.date.ensures.number c.days_back.ensures c.checked_add.ensures.succeeds none)

pub returns : goal.returns
returns c =
    let some : Some c.in_ok-ok.field-0 ≡ result_ok c.checked_add.result = search rules in
    let number = number_before c.checked_add.result c.date.result c.in_ok-ok.field-0 c.args.self c.args.days
    c.days_back.result c.date.ensures.number c.days_back.ensures some c.checked_add.ensures.value in
    minus_is c.from_date.result
    (epoch_day c.in_ok-ok.field-0) c.args.self c.args.days c.date.ensures.range number c.from_date.ensures
