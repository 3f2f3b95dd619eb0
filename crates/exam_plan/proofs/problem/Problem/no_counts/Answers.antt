use Rattle.exam_plan.proofs.Words.{get_or-replicate, Problem}
use Rattle.std.proofs.Common.{◌≤◌, length, arith, subst}
use Rattle.exam_plan.proofs.problem.Problem.no_counts.Goals as goal

pub returns-clause-none : goal.returns-clause-none
returns-clause-none c h below =
    let few : length c.args.self.now.desk_counts ≤ 256 =
    subst (λ (p : Problem). length p.desk_counts ≤ 256) c.self.view_is c.self.invariant.few_halls in
    get_or-replicate 256 h 0 0 (omega (arith, below, few))
