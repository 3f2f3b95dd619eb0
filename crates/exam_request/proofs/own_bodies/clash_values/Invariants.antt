use Rattle.std.proofs.Common.{◌≡◌, ◌++◌, drop, map}
use Rattle.serde_json.specs.View.{view}
use Rattle.exam_request.specs.Bodies.{clash_object}
use Rattle.exam_request.specs.Values.{object_data}
use Rattle.exam_request.proofs.own_bodies.clash_values.Given as goal

abbrev pub invariant-loop-row : goal.invariant-loop-row
invariant-loop-row l =
    map view l.values.items ++ map object_data (map clash_object (drop l.row-index l.rows))
    ≡ map object_data (map clash_object l.rows)
