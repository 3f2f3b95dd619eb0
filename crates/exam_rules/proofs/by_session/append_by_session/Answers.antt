use Rattle.exam_rules.proofs.Words.{option_copied_mut, is_at, code_cmp, row_at}
use Rattle.std.proofs.Common.{◌≡◌, ◌++◌, ◌∷◌, [], Some, None, IsSome, List, cond, refl, ap, sym, subst, ◌∙◌}
use Rattle.exam_rules.proofs.Listed.{changed, items_at}
use Rattle.exam_rules.proofs.by_session.append_by_session.Goals as goal

pub returns-in_ok-push-in-Some-clause-ok : goal.returns-in_ok-push-in-Some-clause-ok
returns-in_ok-push-in-Some-clause-ok g c =
    let at : row_at code_cmp c.args.lists.now.entries c.args.session ≡ Some c.in-Some.list.now =
    sym c.get_mut.ensures.value ∙ ap option_copied_mut c.in-Some.is in
    changed (λ (xs : List g.row.T.Denot). xs ++ c.args.value ∷ []) c.args.lists.now.entries
    (c.get_mut.follows.lender c.push.new.self).entries c.push.new.self c.args.session
    (((c.get_mut.follows.holds c.push.new.self).3 (subst (λ o. IsSome o) (sym at) refl)).0)
    (c.in_ok-push-in-Some.ensures.items
    ∙ ap (λ xs. xs ++ c.args.value ∷ [])
    (items_at c.args.lists.now.entries c.args.session (Some c.in-Some.list.now) at))

pub returns-in_ok-insert-in-None-clause-ok : goal.returns-in_ok-insert-in-None-clause-ok
returns-in_ok-insert-in-None-clause-ok g c =
    let at : row_at code_cmp c.args.lists.now.entries c.args.session ≡ None =
    sym c.get_mut.ensures.value ∙ ap option_copied_mut c.in-None.is in
    changed (λ (xs : List g.row.T.Denot). xs ++ c.args.value ∷ []) c.args.lists.now.entries c.insert.new.self.entries
    c.in_ok-list-in-None.list c.args.session
    (λ s. c.in_ok-insert-in-None.ensures.updates.0 s
    ∙ ap (λ m. cond (is_at (code_cmp c.args.session) s) (Some c.in_ok-list-in-None.list)
    (row_at code_cmp m.entries s)) c.get_mut.follows.holds-at-none)
    (c.in_ok-list-in-None.ensures.ok
    ∙ ap (λ xs. xs ++ c.args.value ∷ []) (items_at c.args.lists.now.entries c.args.session None at))
