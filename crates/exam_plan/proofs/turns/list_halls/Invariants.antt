use Rattle.exam_plan.proofs.Words.{halls_below}
use Rattle.std.proofs.Common.{◌≡◌, ◌++◌}
use Rattle.std.specs.Prelude.{vec_capacity}
use Rattle.exam_plan.proofs.turns.list_halls.Given as goal

abbrev pub invariant-loop-hall : goal.invariant-loop-hall
invariant-loop-hall l = record {
  listed : l.listed.items ≡ l.initial.listed.items ++ halls_below l.hall l.set;
  room : vec_capacity l.listed ≡ vec_capacity l.initial.listed;
}
