use Rattle.exam_plan.proofs.Words.{plan_at, AreInward}
use Rattle.std.proofs.Common.{ℕ, List, sym, subst}
use Rattle.exam_plan.proofs.Tables.{inward_of}
use Rattle.exam_plan.proofs.chains.search_chain.Goals as goal

pub layer_until-requires-clause-inward : goal.layer_until-requires-clause-inward
layer_until-requires-clause-inward c =
    subst (λ (s : List ℕ). AreInward c.args.problem.now (plan_at c.args.plan.now.items) s)
    (sym c.as_slice.ensures.value)
    (inward_of c.args.problem.now c.args.plan.now.items c.note.new.self c.requires.plan c.note.ensures.kept
    c.note.ensures.noted)
