use Rattle.exam_plan.proofs.Words.{seating_of, plan_at, fitting_part, room_part}
use Rattle.std.proofs.Common.{◌≡◌, ℕ, List, Option, length, take, drop, ◌++◌, ap, ◌∙◌, take_at}
use Rattle.exam_plan.proofs.KeptLemmas.{kept_after, lawful_after}
use Rattle.exam_plan.proofs.calls.keep_lawful.Goals as goal

pub returns-clause-kept : goal.returns-clause-kept
returns-clause-kept c d =
    let long : length c.put_out_unfit.new.plan ≡ c.args.plan.len =
    c.put_out_unfit.auto.plan ∙ c.as_mut_slice.ensures.len in
    let first : take c.args.plan.len
    (c.put_out_unfit.new.plan ++ drop (length c.put_out_unfit.new.plan) c.args.plan.items)
    ≡ c.put_out_unfit.new.plan =
    take_at c.put_out_unfit.new.plan (drop (length c.put_out_unfit.new.plan) c.args.plan.items) c.args.plan.len long in
    let also : length c.put_out_crowded.new.plan ≡ c.args.plan.len =
    c.put_out_crowded.auto.plan ∙ c.as_mut_slice-2.ensures.len in
    let second = take_at c.put_out_crowded.new.plan
    (drop (length c.put_out_crowded.new.plan)
    (take c.args.plan.len (c.put_out_unfit.new.plan ++ drop (length c.put_out_unfit.new.plan) c.args.plan.items)))
    c.args.plan.len also in
    ap (λ (m : List (Option ℕ)). plan_at m d) second
    ∙ kept_after c.args.problem.now (plan_at c.args.plan.items) (plan_at c.put_out_unfit.new.plan)
    (plan_at c.put_out_crowded.new.plan)
    (λ k. c.put_out_unfit.ensures.kept k
    ∙ ap (λ (m : List (Option ℕ)). fitting_part (seating_of c.args.problem.now) (plan_at m) k)
    c.as_mut_slice.ensures.value)
    (λ k. c.put_out_crowded.ensures.kept k
    ∙ ap (λ (m : List (Option ℕ)). room_part (seating_of c.args.problem.now) (plan_at m) k)
    (c.as_mut_slice-2.ensures.value ∙ first)) d

pub returns-clause-lawful : goal.returns-clause-lawful
returns-clause-lawful c = lawful_after c.args.problem.now (plan_at c.args.plan.items) _ (returns-clause-kept c)
