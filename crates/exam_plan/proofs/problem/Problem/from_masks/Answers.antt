use Rattle.exam_plan.proofs.Words.{length-map, AreMasks}
use Rattle.std.proofs.Common.{arith, sym, ap, ◌∙◌, subst, ◌≡◌, length}
use Rattle.exam_plan.specs.HallSets.{set_of_mask, sets_of}
use Rattle.exam_plan.proofs.HallRows.{are_masks}
use Rattle.exam_plan.proofs.problem.Problem.from_masks.Goals as goal

pub invariant_of-result : goal.invariant_of-result
invariant_of-result c =
    let same : c.in_ok-sets.sets.items ≡ sets_of c.args.fit.items =
    c.in_ok-sets.ensures.sets ∙ ap sets_of c.as_slice.ensures.value in
    let long : length (sets_of c.args.fit.items) ≡ length c.args.fit.items = length-map c.args.fit.items set_of_mask in
    subst (λ sets. AreMasks c.args.desks.items sets c.args.rank.items) (sym same)
    (are_masks c.args.desks.items (sets_of c.args.fit.items) c.args.rank.items c.requires.few_halls
    (omega (arith, long, c.requires.few)) (c.requires.ranked ∙ sym long) c.requires.distinct c.requires.exist)
