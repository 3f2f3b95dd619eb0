use Rattle.std.proofs.Common.{◌≡◌, ◌<◌, sym, arith}
use Rattle.exam_plan.proofs.HallBits.{first_low, first_high, first_nowhere, others_low, others_high}
use Rattle.exam_plan.proofs.hall_set.HallSet.split_first.Goals as goal

pub returns-then-self-ne0 : goal.returns-then-self-ne0
returns-then-self-ne0 c =
    let low = c.self.inside.low in
    let some : 0 < low = omega (arith, c.if-self-ne0.true) in
    rw (sym c.self.view_is) (
      first_low low c.self.inside.high c.self.invariant.0 some,
      λ h. others_low low c.self.inside.high h c.self.invariant.0 some,
    )

pub returns-then-self-ne0-2 : goal.returns-then-self-ne0-2
returns-then-self-ne0-2 c =
    let low = c.self.inside.low in
    let none : low ≡ 0 = omega (arith, c.if-self-ne0.false) in
    let some : 0 < c.self.inside.high = omega (arith, c.if-self-ne0-2.true) in
    rw (sym c.self.view_is) (
      first_high low c.self.inside.high none c.self.invariant.1 some,
      λ h. others_high low c.self.inside.high h none c.self.invariant.1 some,
    )

pub returns-else-self-ne0-2 : goal.returns-else-self-ne0-2
returns-else-self-ne0-2 c =
    rw (sym c.self.view_is)
    (first_nowhere c.self.inside.low c.self.inside.high (omega (arith, c.if-self-ne0.false))
    (omega (arith, c.if-self-ne0-2.false)))
