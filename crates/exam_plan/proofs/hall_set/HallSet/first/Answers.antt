use Rattle.std.proofs.Common.{sym, arith}
use Rattle.exam_plan.proofs.HallBits.{first_low, first_high, first_nowhere}
use Rattle.exam_plan.proofs.hall_set.HallSet.first.Goals as goal

pub returns-then-self-ne0 : goal.returns-then-self-ne0
returns-then-self-ne0 c =
    rw (sym c.self.view_is)
    (first_low c.self.inside.low c.self.inside.high c.self.invariant.0 (omega (arith, c.if-self-ne0.true)))

pub returns-then-self-ne0-2 : goal.returns-then-self-ne0-2
returns-then-self-ne0-2 c =
    rw (sym c.self.view_is)
    (first_high c.self.inside.low c.self.inside.high (omega (arith, c.if-self-ne0.false)) c.self.invariant.1
    (omega (arith, c.if-self-ne0-2.true)))

pub returns-else-self-ne0-2 : goal.returns-else-self-ne0-2
returns-else-self-ne0-2 c =
    rw (sym c.self.view_is)
    (first_nowhere c.self.inside.low c.self.inside.high (omega (arith, c.if-self-ne0.false))
    (omega (arith, c.if-self-ne0-2.false)))
