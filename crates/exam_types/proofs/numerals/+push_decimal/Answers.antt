use Rattle.std.proofs.Common.{◌∙◌, ◌++◌, ◌%◌, ◌+◌, ◌/◌, [], ◌∷◌, append_assoc, ap, sym}
use Rattle.std.specs.Fmt.{decimal}
use Rattle.exam_types.proofs.NumeralFacts.{decimal_more}
use Rattle.exam_types.proofs.numerals.+push_decimal.Goals as goal

pub returns-clause-text : goal.returns-clause-text
returns-clause-text t c =
    let n = c.args.number in
    let before = c.args.text.now.items in
    c.push-2.ensures.items ∙ ap (λ front. front ++ (48 + n % 10) ∷ []) c.push_decimal.ensures.text
    ∙ append_assoc before (decimal (n / 10)) ((48 + n % 10) ∷ [])
    ∙ ap (λ text. before ++ text) (sym (decimal_more n c.if-number-lt10.false c.ranges.number.fits))
