use Rattle.std.proofs.Common.{◌≡◌, ◌++◌, drop, map}
use Rattle.exam_request.specs.Bodies.{missed_paper}
use Rattle.exam_commands.specs.Own.{shown_session}
use Rattle.exam_request.proofs.own_bodies.push_missed.Given as goal

abbrev pub invariant-loop-paper : goal.invariant-loop-paper
invariant-loop-paper l =
    l.rows.items ++ map (missed_paper (shown_session l.own)) (drop l.paper-index l.papers) ≡ l.fn.rows.items
    ++ map (missed_paper (shown_session l.own)) l.papers
