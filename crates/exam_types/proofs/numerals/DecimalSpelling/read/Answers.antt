use Rattle.std.proofs.Common.{◌≡◌, ◌<◌, rules, None, Some, nat_eq, false}
use Rattle.std.specs.Cmp.Lexicographic.{pointwise}
use Rattle.std.specs.Fmt.{decimal}
use Rattle.exam_types.specs.Digits.{number_of}
use Rattle.exam_types.proofs.NumeralFacts.{reads_long, reads_others, reads_padded, reads_decimal, short_power}
use Rattle.exam_types.proofs.NumeralFacts.{other_text}
use Rattle.exam_types.proofs.numerals.DecimalSpelling.read.Goals as goal

pub returns-then-bytes-gt4 : goal.returns-then-bytes-gt4
returns-then-bytes-gt4 c = λ n. reads_long c.args.bytes.now n c.if-bytes-gt4.true

pub returns-in_err-number : goal.returns-in_err-number
returns-in_err-number c =
    let none : c.from_residual.result ≡ None = search rules in
    let others : number_of c.args.bytes.now ≡ None = search rules in
    λ n. reads_others c.args.bytes.now _ n none others

pub returns-then-eq : goal.returns-then-eq
returns-then-eq c =
    let number : number_of c.args.bytes.now ≡ Some c.in_ok-number.number = search rules in
    let small : c.in_ok-number.number < 10000 = short_power _ _ c.in_ok-number.ensures.bound c.if-bytes-gt4.false in
    let text : decimal c.in_ok-number.number ≡ c.args.bytes.now = search rules in
    λ n. reads_decimal c.args.bytes.now _ n number small text

pub returns-else-eq : goal.returns-else-eq
returns-else-eq c =
    let number : number_of c.args.bytes.now ≡ Some c.in_ok-number.number = search rules in
    let differs : false ≡ pointwise nat_eq (decimal c.in_ok-number.number) c.args.bytes.now = search rules in
    λ n. reads_padded c.args.bytes.now _ n number (other_text _ _ differs)
