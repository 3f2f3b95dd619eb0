use Rattle.std.proofs.Common.{◌∙◌, ap, sym, subst}
use Rattle.exam_plan.specs.Matching.{IsBest}
use Rattle.exam_plan.specs.Problems.{seating_of, plan_at}
use Rattle.exam_plan.specs.Repair.{IsRepair}
use Rattle.exam_rules.specs.Relations.{relations_of}
use Rattle.exam_rules.specs.Plans.{places_of}
use Rattle.exam_commands.proofs.Repairing.{is_plan, is_repaired, on_ok}
use Rattle.exam_repair.proofs.repair.repair_session.Goals as goal

pub repaired_plan-requires-clause-plan : goal.repaired_plan-requires-clause-plan
repaired_plan-requires-clause-plan c =
    is_plan (relations_of c.args.facts.now) c.args.session.now c.args.seats.now.entries
    (c.requires.lists.rising c.args.session.now) c.args.first.now
    c.in_ok-listed.listed.problem c.deref.result.now c.deref-2.result.now c.in_ok-plan.plan.items
    (c.deref.ensures.value ∙ c.in_ok-listed.ensures.numbers)
    (c.deref-2.ensures.value ∙ c.in_ok-listed.ensures.halls) c.in_ok-listed.ensures.ok c.in_ok-plan.ensures.ok

pub returns-clause-ok : goal.returns-clause-ok
returns-clause-ok c = on_ok c.write_plan.result _ _ c.write_plan.ensures.ok (λ written.
    is_repaired (relations_of c.args.facts.now) c.args.session.now c.args.seats.now.entries
    (c.requires.lists.rising c.args.session.now) c.args.first.now
    c.in_ok-listed.listed.problem c.deref-3.result.now c.deref-2.result.now c.in_ok-plan.plan.items
    (c.deref-3.ensures.value ∙ c.in_ok-listed.ensures.numbers)
    (c.deref-2.ensures.value ∙ c.in_ok-listed.ensures.halls) c.in_ok-listed.ensures.ok
    (c.in_ok-plan.ensures.ok
    ∙ ap (places_of c.args.seats.now.entries c.args.session.now c.deref-2.result.now)
    (c.deref.ensures.value ∙ sym c.deref-3.ensures.value))
    c.place_of_number-first.result c.deref-6.result.now c.write_plan.new.seats.entries c.place_of_number-first.ensures
    (subst (λ m. IsRepair (seating_of c.in_ok-listed.listed.problem) c.place_of_number-first.result
    (plan_at c.in_ok-plan.plan.items) (plan_at m)) (sym c.deref-6.ensures.value) c.in_ok-plan-2.ensures.repair)
    (subst (λ m. IsBest (seating_of c.in_ok-listed.listed.problem) (plan_at m))
    (sym c.deref-6.ensures.value) c.in_ok-plan-2.ensures.best)
    (written (relations_of c.args.facts.now) (c.requires.lists.rising c.args.session.now)
    (c.deref-4.ensures.value ∙ c.in_ok-listed.ensures.numbers)
    (c.deref-5.ensures.value ∙ c.in_ok-listed.ensures.halls)))
