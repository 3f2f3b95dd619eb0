use Rattle.std.proofs.Common.{◌%◌, sym, arith}
use Rattle.exam_plan.proofs.HallBits.{with_within, with_low, with_high}
use Rattle.exam_plan.proofs.hall_set.HallSet.with.Goals as goal

pub invariant_of-t-7 : goal.invariant_of-t-7
invariant_of-t-7 c =
    (with_within c.self.inside.low (c.args.hall % 128) c.self.invariant.0 (omega arith), c.self.invariant.1)

pub invariant_of-result : goal.invariant_of-result
invariant_of-result c =
    (c.self.invariant.0, with_within c.self.inside.high (c.args.hall % 128) c.self.invariant.1 (omega arith))

pub returns-then-hall-lt128 : goal.returns-then-hall-lt128
returns-then-hall-lt128 c h =
    rw (sym c.self.view_is)
    (with_low c.self.inside.low c.self.inside.high c.args.hall h c.self.invariant.0 c.if-hall-lt128.true)

pub returns-else-hall-lt128 : goal.returns-else-hall-lt128
returns-else-hall-lt128 c h =
    rw (sym c.self.view_is)
    (with_high c.self.inside.low c.self.inside.high c.args.hall h c.self.invariant.0 c.if-hall-lt128.false c.requires)
