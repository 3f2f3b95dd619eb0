-- The plans of the sessions walked so far are those of the office, and the sessions are those that the command reads.
use Rattle.std.proofs.Common.{◌≡◌, ◌+◌, ◌++◌, ◌∷◌, [], List, None, take, ap, sym, subst, arith, ◌∙◌}
use Rattle.std.specs.Prelude.{◌&&◌, ◌↔◌, Contains, IsTrue, if◌then◌else◌}
use Rattle.std.specs.List.{list_any}
use Rattle.std.proofs.lemmas.List.{take_more}
use Rattle.std.specs.Option.{option_or}
use Rattle.exam_rules.specs.Relations.{Code, Relations, same_code}
use Rattle.exam_rules.specs.Seatings.{plan_of}
use Rattle.exam_commands.specs.Parts.{is_listed, reads}
use Rattle.exam_commands.specs.State.{Seats}
use Rattle.exam_office.proofs.LentPlans.{any_more, plans_agree, plans_step, take_whole, unlisted}
use Rattle.exam_office.proofs.lending.read_plans.Goals as goal

pub loop-session-preserved : goal.loop-session-preserved
loop-session-preserved c = λ s d.
    let i = c.loop-session.session-index in
    let items = c.deref-session-items.result.now in
    let t : Code = c.session-item.result in
    let p = λ (q : Code). same_code q s in
    let longer : take (i + 1) items ≡ take i items ++ t ∷ [] =
    take_more items i t c.loop-session-test.true ∙ ap (λ z. take i items ++ z ∷ []) (sym c.session-item.is) in
    let mine = plan_of c.args.office.now.seats s d in
    let step = c.in_ok-copy_plan.ensures.ok s d
    ∙ ap (λ (seats : Seats). if same_code t s
    && is_listed c.lists.result.now t d then option_or (plan_of seats s d)
    (plan_of c.loop-session.plans.entries s d) else plan_of c.loop-session.plans.entries s d) c.seats.ensures in
    plans_step (same_code t s) (is_listed c.lists.result.now t d) (list_any p (take i items)) mine
    (plan_of c.loop-session.plans.entries s d) (plan_of c.copy_plan.new.plans.entries s d)
    (c.loop-session.invariant s d)
    (λ same away. unlisted c.args.office.now c.lists.result.now c.show_good.ensures c.lists.ensures t s d same
    away) step
    ∙ ap (λ b. if b then mine else None) (sym (any_more p (take i items) (take (i + 1) items) t longer))

pub returns-clause-plans : goal.returns-clause-plans
returns-clause-plans c =
    let items = c.deref-session-items.result.now in
    let whole : take c.loop-session.session-index items ≡ items =
    take_whole items c.loop-session.session-index (omega (arith, c.loop-session-test.false)) in
    plans_agree c.args.command.now c.args.office.now c.loop-session.plans.entries items
    (λ s. subst (λ (list : List Code). Contains list s ↔ IsTrue
    (reads c.args.office.now.relations c.args.command.now s)) (sym c.deref-session-items.ensures.value)
    (subst (λ (r : Relations). Contains c.in_ok-sessions.sessions.items s ↔ IsTrue (reads r c.args.command.now s))
    c.facts.ensures (c.in_ok-sessions.ensures.exact s)))
    (λ s d. c.loop-session.invariant s d
    ∙ ap (λ (list : List Code). if list_any
    (λ q. same_code q s) list then plan_of c.args.office.now.seats s d else None) whole)
