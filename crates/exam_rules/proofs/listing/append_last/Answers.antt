use Rattle.exam_rules.proofs.Words.{is_at, option_copied_mut, code_cmp, row_at, with_last}
use Rattle.std.proofs.Common.{◌≡◌, None, Some, IsSome, cond, refl, ap, sym, subst, ◌∙◌}
use Rattle.std.proofs.lemmas.Result.{on_ok_weaker}
use Rattle.exam_rules.proofs.Listed.{changed, items_at}
use Rattle.exam_rules.proofs.listing.append_last.Goals as goal

pub returns-in-Some-clause-ok : goal.returns-in-Some-clause-ok
returns-in-Some-clause-ok c =
    let at : row_at code_cmp c.args.members.now.entries c.args.session ≡ Some c.in-Some.list.now =
    sym c.get_mut.ensures.value ∙ ap option_copied_mut c.in-Some.is in
    on_ok_weaker c.push_last.result
    (λ pushed. changed (with_last c.args.entrant) c.args.members.now.entries
    (c.get_mut.follows.lender c.push_last.new.list).entries c.push_last.new.list c.args.session
    (((c.get_mut.follows.holds c.push_last.new.list).3 (subst (λ o. IsSome o) (sym at) refl)).0)
    (pushed ∙ ap (with_last c.args.entrant)
    (items_at c.args.members.now.entries c.args.session (Some c.in-Some.list.now) at)))
    c.push_last.ensures.ok

pub returns-in_ok-insert-in-None-clause-ok : goal.returns-in_ok-insert-in-None-clause-ok
returns-in_ok-insert-in-None-clause-ok c =
    let at : row_at code_cmp c.args.members.now.entries c.args.session ≡ None =
    sym c.get_mut.ensures.value ∙ ap option_copied_mut c.in-None.is in
    changed (with_last c.args.entrant) c.args.members.now.entries c.insert.new.self.entries c.in_ok-list-in-None.list
    c.args.session
    (λ s. c.in_ok-insert-in-None.ensures.updates.0 s
    ∙ ap (λ m. cond (is_at (code_cmp c.args.session) s) (Some c.in_ok-list-in-None.list)
    (row_at code_cmp m.entries s)) c.get_mut.follows.holds-at-none)
    (c.in_ok-list-in-None.ensures.ok
    ∙ ap (with_last c.args.entrant) (items_at c.args.members.now.entries c.args.session None at))
