use Rattle.std.proofs.Common.{◌≡◌, map}
use Rattle.exam_rules.specs.Relations.{relations_of}
use Rattle.exam_commands.specs.Own.{own_sessions, shown_session}
use Rattle.exam_views.proofs.OwnDesks.{shown_to}
use Rattle.exam_views.proofs.own_source.show_desks.Given as goal

-- the desks of the sessions so far are shown
abbrev pub invariant-loop-own : goal.invariant-loop-own
invariant-loop-own l =
    map shown_session l.sessions
    ≡ shown_to l.own-index
    (own_sessions (record { relations = relations_of l.facts; seats = l.seats.entries }) l.number)
