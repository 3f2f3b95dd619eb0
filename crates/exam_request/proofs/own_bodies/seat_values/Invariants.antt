use Rattle.std.proofs.Common.{◌≡◌, ◌++◌, drop, map}
use Rattle.serde_json.specs.View.{view}
use Rattle.exam_commands.specs.Own.{shown_session}
use Rattle.exam_request.specs.Bodies.{seat_object}
use Rattle.exam_request.specs.Values.{object_data}
use Rattle.exam_request.proofs.own_bodies.seat_values.Given as goal

abbrev pub invariant-loop-session : goal.invariant-loop-session
invariant-loop-session l =
    map view l.values.items ++ map object_data (map seat_object (map shown_session (drop l.session-index l.sessions)))
    ≡ map object_data (map seat_object (map shown_session l.sessions))
