use Rattle.exam_rules.proofs.Words.{Entry, Code, relations_of, is_live_entry}
use Rattle.std.proofs.Common.{ap, is_some, sym, ◌∙◌, ℕ}
use Rattle.exam_rules.proofs.Together.{any_is}
use Rattle.exam_rules.proofs.sessions.has_live_entry.Goals as goal

pub returns : goal.returns
returns c = c.is_some.ensures ∙ ap is_some c.least_live_paper.ensures
    ∙ sym (any_is (is_live_entry (relations_of c.args.facts.now) c.args.session.now c.args.number)
    (λ (e : (ℕ × Code) × Entry). e.0.1) c.args.facts.now.entries.entries)
