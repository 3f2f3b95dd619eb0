use Rattle.exam_tables.proofs.Words.{deref_pair}
use Rattle.std.proofs.Common.{sym, ◌∙◌}
use Rattle.std.proofs.lemmas.Map.Iter.{rest_more}
use Rattle.exam_tables.proofs.FirstFrom.{one_found, one_passed}
use Rattle.exam_tables.proofs.counting.first_appeal.Goals as goal

pub returns-then-eq : goal.returns-then-eq
returns-then-eq c =
    let rest = rest_more deref_pair _ _ _ _ c.in-Some.is c.next.ensures.steps in
    one_found c.args.session.now c.args.from c.args.facts.now.appeals.entries c.appeals.key-iterator c.next.new.self
    (c.in-Some.key, c.in-Some.appeal) c.appeals.invariant rest
    c.range-key-items.ensures.ordered (sym c.eq.ensures ∙ c.if-eq.true)

pub appeals-preserved : goal.appeals-preserved
appeals-preserved c =
    let rest = rest_more deref_pair _ _ _ _ c.in-Some.is c.next.ensures.steps in
    one_passed c.args.session.now c.args.from c.args.facts.now.appeals.entries c.appeals.key-iterator c.next.new.self
    (c.in-Some.key, c.in-Some.appeal) c.appeals.invariant rest
    (sym c.eq.ensures ∙ c.if-eq.false)
