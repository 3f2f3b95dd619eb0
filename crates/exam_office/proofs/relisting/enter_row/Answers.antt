-- Only an entry that is live in the facts enters a list. Rows that come later can only withdraw or add other entries,
-- so the list is right for the facts of all rows.
use Rattle.std.proofs.Common.{◌∷◌, ap, sym, subst, ◌∙◌}
use Rattle.std.proofs.lemmas.Result.{on_ok_weaker}
use Rattle.exam_rules.specs.Lists.{AreListsOf}
use Rattle.exam_rules.specs.Relations.{Relations, relations_of}
use Rattle.exam_commands.specs.declared.import_row.Row.{Row}
use Rattle.exam_commands.specs.declared.import_row.Row.TheVariants as row
use Rattle.exam_commands.specs.Changes.{with_row}
use Rattle.exam_office.specs.Relisting.{EntersRows}
use Rattle.exam_office.proofs.EnteredRows.{changes_nothing, makes_live}
use Rattle.exam_office.proofs.ListsPutBack.{changed_back, same_are}
use Rattle.exam_office.proofs.relisting.enter_row.Goals as goal

pub returns-in_ok-set_aside-in-Some-clause-ok : goal.returns-in_ok-set_aside-in-Some-clause-ok
returns-in_ok-set_aside-in-Some-clause-ok c =
    let t : Relations = relations_of c.args.facts.now in
    let n = c.in-OfEntry.number in
    let p = c.in-OfEntry.paper in
    on_ok_weaker c.enter.result
    (λ entered r later are enters.
    subst (λ (x : Row). AreListsOf (with_row r x) c.enter.new.self) (sym c.in-OfEntry.is)
    (entered r (with_row r (row.OfEntry n p)) enters.order
    (same_are r c.args.lists.now c.set_aside.new.lists c.in_ok-set_aside-in-Some.ensures.same are)
    (makes_live r t n p later
    (subst (λ (x : Row). EntersRows r (x ∷ later) t) c.in-OfEntry.is enters) c.in-Some.session
    (sym c.live_session.ensures ∙ c.in-Some.is))))
    c.enter.ensures.ok

pub returns-in_ok-set_aside-in-Some-clause-back : goal.returns-in_ok-set_aside-in-Some-clause-back
returns-in_ok-set_aside-in-Some-clause-back c = λ was back.
    changed_back c.set_aside.new.before c.in-Some.session c.set_aside.new.lists c.enter.new.self was
    c.in_ok-set_aside-in-Some.ensures.kept c.enter.ensures.others c.enter.ensures.halls c.enter.ensures.stay
    (c.in_ok-set_aside-in-Some.ensures.back was back)

pub returns-in-None-clause-ok : goal.returns-in-None-clause-ok
returns-in-None-clause-ok c = λ r later are enters.
    let t : Relations = relations_of c.args.facts.now in
    let n = c.in-OfEntry.number in
    let p = c.in-OfEntry.paper in
    subst (λ (u : Relations). AreListsOf u c.args.lists.now)
    (sym (ap (with_row r) c.in-OfEntry.is
    ∙ changes_nothing r t n p later (subst (λ (x : Row). EntersRows r (x ∷ later) t) c.in-OfEntry.is enters)
    (sym c.live_session.ensures ∙ c.in-None.is))) are
