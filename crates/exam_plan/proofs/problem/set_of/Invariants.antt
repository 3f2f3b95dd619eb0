use Rattle.exam_plan.proofs.Words.{list_any, holds}
use Rattle.std.proofs.Common.{◌≡◌, ℕ, take, nat_eq}
use Rattle.exam_plan.proofs.problem.set_of.Given as goal

abbrev pub invariant-loop-hall : goal.invariant-loop-hall
invariant-loop-hall l = (h : ℕ) → holds l.set h ≡ list_any (nat_eq h) (take l.hall-index l.row)
