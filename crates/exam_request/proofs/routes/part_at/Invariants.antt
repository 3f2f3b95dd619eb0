use Rattle.std.proofs.Common.{◌≡◌, ◌++◌, take, drop}
use Rattle.exam_request.specs.Targets.{part}
use Rattle.exam_request.proofs.routes.part_at.Given as goal

abbrev pub invariant-loop-b : goal.invariant-loop-b
invariant-loop-b l = (l.end ≡ l.b-index) × (part l.rest ≡ take l.end l.rest ++ part (drop l.end l.rest))
