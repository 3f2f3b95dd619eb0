use Rattle.exam_plan.proofs.Words.{holds}
use Rattle.std.proofs.Common.{nat_eq, cond, ◌||◌, ◌&&◌, not, sym, ap, ◌∙◌}
use Rattle.exam_plan.proofs.HallBits.{put_in, put_out}
use Rattle.exam_plan.proofs.hall_set.HallSet.put.Goals as goal

pub returns-then-inside : goal.returns-then-inside
returns-then-inside c h =
    c.union.ensures h ∙ ap (λ t. holds c.args.self h || t) (c.with-one.ensures h)
    ∙ put_in (holds c.args.self h) (nat_eq h c.args.hall) (holds c.empty.result h) (c.empty.ensures h)
    ∙ ap (λ t. cond (nat_eq h c.args.hall) t (holds c.args.self h)) (sym c.if-inside.true)

pub returns-else-inside : goal.returns-else-inside
returns-else-inside c h =
    c.minus.ensures h ∙ ap (λ t. holds c.args.self h && not t) (c.with-one.ensures h)
    ∙ put_out (holds c.args.self h) (nat_eq h c.args.hall) (holds c.empty.result h) (c.empty.ensures h)
    ∙ ap (λ t. cond (nat_eq h c.args.hall) t (holds c.args.self h)) (sym c.if-inside.false)
