use Rattle.exam_rules.proofs.Words.{code_cmp}
use Rattle.exam_types.specs.Codes.{is_dashed}
use Rattle.exam_rules.proofs.Together.{none_before, no_code_less, dash_is_least}
use Rattle.exam_rules.proofs.sessions.no_entry_before.Goals as goal

pub returns-in-Some : goal.returns-in-Some
returns-in-Some c =
    none_before code_cmp c.args.number c.args.least c.args.facts.now.entries.entries c.range.result
    c.next_back.new.self (c.in-Some.key.now, c.in-Some.field-0-1.now)
    c.range.ensures.ordered (c.range.ensures.between tt) c.in-Some.ensures.steps
    ((c.range.ensures.in_range tt).3 _ _ c.in-Some.ensures.steps).0.1
    (rw c.requires (no_code_less is_dashed 12 45 dash_is_least c.in-Some.key.now.1 c.as_bytes-code.ensures.form))
