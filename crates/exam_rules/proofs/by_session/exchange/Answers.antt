use Rattle.exam_rules.proofs.Words.{Global, option_copied_mut, code_cmp, same_code, row_at, listed}
use Rattle.std.proofs.Common.{◌≡◌, Some, Vec, IsSome, refl, cond, ap, sym, subst, ◌∙◌}
use Rattle.exam_rules.proofs.Relisting.{exchanged}
use Rattle.exam_rules.proofs.by_session.exchange.Goals as goal

pub returns-in-Some-clause-lists : goal.returns-in-Some-clause-lists
returns-in-Some-clause-lists g c = λ s.
    let at : row_at code_cmp c.args.lists.now.entries c.args.session.now ≡ Some c.in-Some.place.now =
    sym c.get_mut.ensures.value ∙ ap option_copied_mut c.in-Some.is in
    exchanged c.args.lists.now.entries
    (c.get_mut.follows.lender c.replace.new.dest).entries c.replace.new.dest c.args.session.now s
    (((c.get_mut.follows.holds c.replace.new.dest).3 (subst (λ o. IsSome o) (sym at) refl)).0 s)
    ∙ ap (λ (v : Vec g.row.T.Denot Global). cond (same_code c.args.session.now s) v.items
    (listed c.args.lists.now.entries s)) c.replace.ensures.after
