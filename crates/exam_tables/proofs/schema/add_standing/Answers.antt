use Rattle.exam_tables.proofs.Words.{state, HasOlder, HasRuled, Leads}
use Rattle.std.proofs.Common.{Ok, sym, subst}
use Rattle.exam_tables.proofs.Creating.{leads_itself}
use Rattle.exam_tables.proofs.schema.add_standing.Goals as goal

-- where the table is there
pub returns-then-has_marks-clause-made : goal.returns-then-has_marks-clause-made
returns-then-has_marks-clause-made g c = λ all.
    let s = state g.S.Store c.args.tx.now.conn.now in
    subst (λ there. Leads (HasOlder s.is_open there all) (HasRuled s.is_open all) s s (Ok tt))
    (sym c.if-has_marks.true) (leads_itself (HasRuled s.is_open all) (HasRuled s.is_open all) s (λ has. has))

pub returns-clause-made : goal.returns-clause-made
returns-clause-made g c = λ all.
    let old = state g.S.Store c.args.tx.now.conn.now in
    let new = state g.S.Store c.create_standing.new.tx.conn.now in
    subst (λ there. Leads (HasOlder old.is_open there all) (HasRuled new.is_open all) old new c.create_standing.result)
    (sym c.if-has_marks.false) (c.create_standing.ensures.made new.is_open all)
