use Rattle.exam_rules.proofs.Words.{code_cmp}
use Rattle.exam_types.specs.Codes.{is_capital_or_digit}
use Rattle.exam_rules.proofs.Together.{none_before, no_code_less, zero_is_least}
use Rattle.exam_rules.proofs.appeals.no_appeal_before.Goals as goal

pub returns-in-Some : goal.returns-in-Some
returns-in-Some c =
    none_before code_cmp c.args.number c.args.least c.args.facts.now.appeals.entries c.range.result
    c.next_back.new.self (c.in-Some.key.now, c.in-Some.field-0-1.now)
    c.range.ensures.ordered (c.range.ensures.between tt) c.in-Some.ensures.steps
    ((c.range.ensures.in_range tt).3 _ _ c.in-Some.ensures.steps).0.1
    (rw c.requires (no_code_less is_capital_or_digit 16 48 zero_is_least c.in-Some.key.now.1
    c.as_bytes-reference.ensures.form))
