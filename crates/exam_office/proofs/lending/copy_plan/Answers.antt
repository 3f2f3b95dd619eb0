-- The seats of the members walked so far are there. Who is no member has no seat in a good office, so nothing is left
-- out.
use Rattle.std.proofs.Common.{◌≡◌, ◌+◌, ◌++◌, ◌∷◌, [], List, nat_eq, length, take, ap, sym, subst, arith, ◌∙◌}
use Rattle.std.specs.Prelude.{◌&&◌, ◌≤◌, if◌then◌else◌}
use Rattle.std.specs.List.{list_any}
use Rattle.std.specs.Option.{option_or}
use Rattle.std.proofs.lemmas.List.{take_more}
use Rattle.exam_rules.specs.declared.listing.Entrant.{Entrant}
use Rattle.exam_rules.specs.Lists.{listed}
use Rattle.exam_rules.specs.Relations.{same_code}
use Rattle.exam_rules.specs.Seatings.{plan_of}
use Rattle.exam_office.proofs.LentPlans.{any_more, copied_step, take_whole}
use Rattle.exam_office.proofs.lending.copy_plan.Goals as goal

pub loop-entrant-preserved : goal.loop-entrant-preserved
loop-entrant-preserved c = λ s d.
    let i = c.loop-entrant.entrant-index in
    let all = listed c.args.lists.now.members.entries c.args.session.now in
    let p = λ (e : Entrant). nat_eq e.number d in
    let mine = plan_of c.args.seats.now.entries s d in
    let first = plan_of c.args.plans.now.entries s d in
    let items = c.members_of-entrant-items.result.now in
    let longer : take (i + 1) items ≡ take i items ++ c.entrant-item.result ∷ [] =
    take_more items i c.entrant-item.result c.loop-entrant-test.true
    ∙ ap (λ z. take i items ++ z ∷ []) (sym c.entrant-item.is) in
    let more = any_more p (take i all) (take (i + 1) all) c.entrant-item.result
    (subst (λ (es : List Entrant). take (i + 1) es ≡ take i es ++ c.entrant-item.result ∷ [])
    c.members_of-entrant-items.ensures longer) in
    copied_step (same_code c.args.session.now s) (nat_eq c.entrant-item.result.number d)
    (list_any p (take i all)) mine first (plan_of c.loop-entrant.plans.entries s d)
    (plan_of c.copy_seat.new.plans.entries s d)
    (c.loop-entrant.invariant s d) (c.in_ok-copy_seat.ensures.ok s d)
    ∙ ap (λ b. if same_code c.args.session.now s && b then option_or mine first else first) (sym more)

pub returns-clause-ok : goal.returns-clause-ok
returns-clause-ok c = λ s d.
    let all = listed c.args.lists.now.members.entries c.args.session.now in
    let whole : take c.loop-entrant.entrant-index all ≡ all =
    take_whole all c.loop-entrant.entrant-index
    (subst (λ (es : List Entrant). length es ≤ c.loop-entrant.entrant-index) c.members_of-entrant-items.ensures
    (omega (arith, c.loop-entrant-test.false))) in
    c.loop-entrant.invariant s d
    ∙ ap (λ (es : List Entrant). if same_code c.args.session.now s
    && list_any (λ (e : Entrant). nat_eq e.number d) es then option_or (plan_of c.args.seats.now.entries s d)
    (plan_of c.args.plans.now.entries s d) else plan_of c.args.plans.now.entries s d) whole
