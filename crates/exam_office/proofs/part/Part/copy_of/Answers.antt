use Rattle.std.proofs.Common.{sym, subst, ◌∙◌}
use Rattle.exam_rules.specs.Relations.{Relations}
use Rattle.exam_commands.specs.Parts.{Agrees}
use Rattle.exam_office.proofs.part.Part.copy_of.Goals as goal

pub returns-clause-agrees : goal.returns-clause-agrees
returns-clause-agrees c =
    subst (Agrees c.args.command.now c.args.office.now) (sym c.new.ensures.state)
    (subst (λ (r : Relations). Agrees c.args.command.now c.args.office.now
    (record { relations = r; seats = c.in_ok-plans.plans.entries }))
    (sym (c.in_ok-facts.ensures.ok ∙ c.facts.ensures)) c.in_ok-plans.ensures.plans)

pub returns-clause-ready : goal.returns-clause-ready
returns-clause-ready c =
    c.new.ensures.ready c.args.command.now c.args.office.now c.show_good.ensures c.show_order.ensures
    (subst (Agrees c.args.command.now c.args.office.now) c.new.ensures.state (returns-clause-agrees c))
