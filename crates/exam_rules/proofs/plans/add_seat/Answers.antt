use Rattle.exam_rules.proofs.Words.{plan_of}
use Rattle.std.proofs.Common.{cond, Some, ap, ◌∙◌}
use Rattle.exam_rules.proofs.Writing.{seat_at}
use Rattle.exam_rules.proofs.plans.add_seat.Goals as goal

pub returns-clause-ok : goal.returns-clause-ok
returns-clause-ok c =
    λ s d. c.in_ok-insert.ensures.updates.0 (s, d)
    ∙ ap (λ b. cond b (Some c.args.hall) (plan_of c.args.seats.now.entries s d))
    (seat_at c.args.session.now s c.args.number d)
