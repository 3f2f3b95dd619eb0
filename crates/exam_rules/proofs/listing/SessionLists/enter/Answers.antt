-- Only the list of that session is changed, or made if there is none; the lists of all others are as they were.
use Rattle.exam_rules.proofs.Words.{Global, IsNonDecreasingBy, option_copied_mut, Entrant, code_cmp, row_at, same_code}
use Rattle.exam_rules.proofs.Words.{entered, listed}
use Rattle.std.proofs.Common.{◌≡◌, Bool, true, false, List, Some, IsSome, Vec, cond, refl, ap, sym, subst, ◌∙◌}
use Rattle.std.proofs.lemmas.Result.{on_err_weaker, on_ok_weaker}
use Rattle.exam_rules.proofs.Entered.{entered_all, numbers_rise}
use Rattle.exam_rules.proofs.Listed.{changed, items_at}
use Rattle.exam_rules.proofs.Relisting.{exchanged}
use Rattle.exam_rules.proofs.listing.SessionLists.enter.Goals as goal

either_same : {A : Type 0} (b : Bool) (x : A) → cond b x x ≡ x
either_same true x = refl
either_same false x = refl

pub returns-in-Some-clause-ok : goal.returns-in-Some-clause-ok
returns-in-Some-clause-ok c =
    let old = c.args.self.now in
    let at : row_at code_cmp old.members.entries c.args.session.now ≡ Some c.in-Some.list.now =
    sym c.get_mut.ensures.value ∙ ap option_copied_mut c.in-Some.is in
    let here : c.in-Some.list.now.items ≡ listed old.members.entries c.args.session.now =
    items_at old.members.entries c.args.session.now (Some c.in-Some.list.now) at in
    let new : Vec Entrant Global = c.enter_among.new.list in
    on_ok_weaker c.enter_among.result
    (λ is before after up are made.
    entered_all before after c.args.session.now c.args.number c.args.paper made old
    (record { members = c.get_mut.follows.lender new; halls = old.halls }) new.items up are
    (is (subst (IsNonDecreasingBy (λ (e : Entrant). e.number)) (sym here)
    (numbers_rise before old c.args.session.now are)) ∙ ap (entered c.args.number c.args.paper) here)
    (λ t. exchanged old.members.entries (c.get_mut.follows.lender new).entries new c.args.session.now t
    ((((c.get_mut.follows.holds new).3 (subst (λ o. IsSome o) (sym at) refl)).0) t)) refl)
    c.enter_among.ensures.ok

pub returns-in-Some-clause-others : goal.returns-in-Some-clause-others
returns-in-Some-clause-others c =
    let old = c.args.self.now in
    let at : row_at code_cmp old.members.entries c.args.session.now ≡ Some c.in-Some.list.now =
    sym c.get_mut.ensures.value ∙ ap option_copied_mut c.in-Some.is in
    let new : Vec Entrant Global = c.enter_among.new.list in
    λ s other.
    exchanged old.members.entries (c.get_mut.follows.lender new).entries new c.args.session.now s
    ((((c.get_mut.follows.holds new).3 (subst (λ o. IsSome o) (sym at) refl)).0) s)
    ∙ ap (λ b. cond b new.items (listed old.members.entries s)) other

pub returns-in-Some-clause-err : goal.returns-in-Some-clause-err
returns-in-Some-clause-err c =
    let old = c.args.self.now in
    let at : row_at code_cmp old.members.entries c.args.session.now ≡ Some c.in-Some.list.now =
    sym c.get_mut.ensures.value ∙ ap option_copied_mut c.in-Some.is in
    let here : c.in-Some.list.now.items ≡ listed old.members.entries c.args.session.now =
    items_at old.members.entries c.args.session.now (Some c.in-Some.list.now) at in
    let new : Vec Entrant Global = c.enter_among.new.list in
    on_err_weaker c.enter_among.result
    (λ same s.
    changed (λ (es : List Entrant). es) old.members.entries
    (c.get_mut.follows.lender new).entries new c.args.session.now
    (((c.get_mut.follows.holds new).3 (subst (λ o. IsSome o) (sym at) refl)).0) (same ∙ here) s
    ∙ either_same (same_code c.args.session.now s) (listed old.members.entries s))
    c.enter_among.ensures.err
