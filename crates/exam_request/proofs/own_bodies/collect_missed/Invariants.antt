use Rattle.std.proofs.Common.{◌≡◌, ◌++◌, drop, map}
use Rattle.std.specs.Prelude.{flat_map}
use Rattle.exam_request.specs.Bodies.{missed_in}
use Rattle.exam_commands.specs.Own.{shown_session}
use Rattle.exam_request.proofs.own_bodies.collect_missed.Given as goal

abbrev pub invariant-loop-session : goal.invariant-loop-session
invariant-loop-session l =
    l.rows.items ++ flat_map missed_in (map shown_session (drop l.session-index l.sessions)) ≡ l.fn.rows.items
    ++ flat_map missed_in (map shown_session l.sessions)
