use Rattle.std.proofs.Common.{◌∙◌, sym}
use Rattle.exam_types.specs.Numbers.{number_text}
use Rattle.exam_types.proofs.NumeralFacts.{reads_digits, digits_read, below_power}
use Rattle.exam_types.proofs.numerals.SevenDigitsSpelling.read.Goals as goal

pub returns : goal.returns
unfolding number_text
returns c =
    λ n. (
      (λ read. (
        below_power n c.args.bytes.now c.number_of.result c.number_of.ensures.bound read c.if-bytes-ne7.false,
        reads_digits 7 n c.args.bytes.now c.if-bytes-ne7.false (sym c.number_of.ensures.value ∙ read),
      )),
      (λ is. c.number_of.ensures.value ∙ digits_read 7 n c.args.bytes.now is.0 is.1),
    )
