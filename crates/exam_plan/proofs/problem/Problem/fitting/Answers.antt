use Rattle.exam_plan.proofs.Words.{list_any, holds, Problem}
use Rattle.std.proofs.Common.{◌≡◌, ◌<◌, [], length, get_or, nat_eq, subst}
use Rattle.exam_plan.proofs.HallRows.{row_read}
use Rattle.exam_plan.proofs.problem.Problem.fitting.Goals as goal

pub returns-clause-fits : goal.returns-clause-fits
returns-clause-fits c h =
    let P : Problem → Type 0 = λ p. c.args.candidate < length p.fit
    → holds c.index.result.now h ≡ list_any (nat_eq h) (get_or p.fit c.args.candidate []) in
    subst P c.self.view_is
    (λ below. row_read c.self.inside.desk_counts.items c.self.inside.fit.items c.self.inside.rank.items
    c.args.candidate c.index.result.now h c.self.invariant below c.index.ensures) c.requires
