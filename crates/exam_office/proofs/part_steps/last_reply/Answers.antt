use Rattle.std.proofs.Common.{rules, ◌≡◌, ap, ◌∙◌}
use Rattle.exam_rules.specs.Relations.{relations_of}
use Rattle.exam_commands.specs.NextPlans.{after_plans, decided_reply}
use Rattle.exam_office.proofs.part_steps.last_reply.Goals as goal
use Rattle.exam_office.proofs.part_steps.last_reply.Goals.{in-Some, in-None}

pub returns-in-Decide-Some : goal.returns-in-Decide-Some
returns-in-Decide-Some c =
    let after : c.match-next.after.now.entries ≡ after_plans c.args.next.now c.args.plans.now.entries =
    elim c.match-next.branch [ in-Some w ↦ search rules | in-None w ↦ search rules ] in
    rw (c.in-Decide-Some.is-0, c.in-Decide-Some.is-1)
    (c.decided_reply.ensures
    ∙ ap (decided_reply c.in-Decide-Some.decision c.in-Decide-Some.session
    (relations_of c.args.facts.now) c.args.plans.now.entries) after)
