use Rattle.std.proofs.Common.{◌≡◌, ◌++◌, map}
use Rattle.std.specs.Map.{keys_of}
use Rattle.exam_rules.specs.Relations.{relations_of}
use Rattle.exam_commands.specs.Own.{own_sessions, shown_session}
use Rattle.exam_views.specs.Desks.{session_without_desk}
use Rattle.exam_views.proofs.OwnEntered.{AreEntered, rows_of}
use Rattle.exam_views.proofs.OwnRows.{sessions_left}
use Rattle.exam_views.proofs.own_source.deskless_sessions.Given as goal

-- what is left makes of the sessions so far the whole
abbrev pub invariant-loop-session : goal.invariant-loop-session
invariant-loop-session l =
    (goal.iterator-loop-session).can_next l.session-iterator × (goal.iterator-loop-session).is_finite l.session-iterator
    × AreEntered (relations_of l.facts) l.number l.session-iterator
    × (map shown_session l.list.items
    ++ sessions_left (record { relations = relations_of l.facts; seats = l.seats.entries }) l.number
    (rows_of (relations_of l.facts) (keys_of l.session-iterator))
    ≡ map session_without_desk
    (own_sessions (record { relations = relations_of l.facts; seats = l.seats.entries }) l.number))
