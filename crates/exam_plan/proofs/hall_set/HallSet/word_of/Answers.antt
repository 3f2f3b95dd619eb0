use Rattle.std.proofs.Common.{sym}
use Rattle.exam_plan.proofs.HallBits.{low_bit, high_bit, no_bit_past}
use Rattle.exam_plan.proofs.hall_set.HallSet.word_of.Goals as goal

pub returns-then-hall-lt128 : goal.returns-then-hall-lt128
returns-then-hall-lt128 c =
    rw (sym c.self.view_is) (low_bit c.self.inside.low c.self.inside.high c.args.hall c.if-hall-lt128.true)

pub returns-then-hall-lt-MOST_HALLS : goal.returns-then-hall-lt-MOST_HALLS
returns-then-hall-lt-MOST_HALLS c =
    rw (sym c.self.view_is)
    (high_bit c.self.inside.low c.self.inside.high c.args.hall c.self.invariant.0 c.if-hall-lt128.false
    c.if-hall-lt-MOST_HALLS.true)

pub returns-else-hall-lt-MOST_HALLS : goal.returns-else-hall-lt-MOST_HALLS
returns-else-hall-lt-MOST_HALLS c =
    rw (sym c.self.view_is)
    (no_bit_past c.self.inside.low c.self.inside.high c.args.hall c.self.invariant.0 c.self.invariant.1
    c.if-hall-lt-MOST_HALLS.false)
