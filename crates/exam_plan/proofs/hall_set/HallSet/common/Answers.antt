use Rattle.std.proofs.Common.{◌&&◌, sym}
use Rattle.exam_plan.proofs.HallBits.{holds_and, and_within, in_both}
use Rattle.exam_plan.proofs.hall_set.HallSet.common.Goals as goal

pub invariant_of-result : goal.invariant_of-result
invariant_of-result c =
    (and_within c.self.inside.low _ c.self.invariant.0, and_within c.self.inside.high _ c.self.invariant.1)

pub returns : goal.returns
returns c h =
    let a = c.self.inside in
    let b = c.other.inside in
    rw (sym c.self.view_is, sym c.other.view_is)
    (in_both (λ x y. x && y) a.low a.high b.low b.high _ _ h c.self.invariant.0 c.other.invariant.0
    (and_within a.low _ c.self.invariant.0)
    (holds_and a.low b.low) (holds_and a.high b.high))
