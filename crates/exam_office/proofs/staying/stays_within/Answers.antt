use Rattle.std.proofs.Common.{sym, subst, ◌∙◌}
use Rattle.exam_rules.specs.Relations.{relations_of}
use Rattle.exam_commands.specs.declared.command.Command.{Command}
use Rattle.exam_commands.specs.FactsMade.{WasMade}
use Rattle.exam_laws.proofs.MadeWithin.{lodged_within, still_within}
use Rattle.exam_office.proofs.staying.stays_within.Goals as goal

pub returns-then-not-may_pass_limit : goal.returns-then-not-may_pass_limit
returns-then-not-may_pass_limit c =
    sym (still_within c.args.command.now c.requires.made.0 (relations_of c.args.facts.now) c.requires.made.1
    (sym c.may_pass_limit.ensures ∙ c.if-not-may_pass_limit.true))

pub returns-in-Lodge : goal.returns-in-Lodge
returns-in-Lodge c =
    c.has_at_most.ensures
    ∙ sym (lodged_within c.in-Lodge.lodging c.requires.made.0 (relations_of c.args.facts.now)
    (subst (λ (done : Command). WasMade done c.requires.made.0 (relations_of c.args.facts.now)) c.in-Lodge.is
    c.requires.made.1))
