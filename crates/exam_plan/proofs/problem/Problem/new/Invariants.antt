use Rattle.std.proofs.Common.{length, take, map, Vec, Global, ℕ}
use Rattle.exam_plan.proofs.HallRows.{AreSets}
use Rattle.exam_plan.proofs.problem.Problem.new.Given as goal

abbrev pub invariant-loop-row : goal.invariant-loop-row
invariant-loop-row l =
    AreSets (length l.desks.items) (take l.row-index (map (λ (row : Vec ℕ Global). row.items) l.row-items)) l.sets.items
