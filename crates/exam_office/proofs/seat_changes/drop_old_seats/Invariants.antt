use Rattle.std.proofs.Common.{◌≡◌}
use Rattle.exam_rules.specs.Relations.{seat_cmp}
use Rattle.exam_commands.specs.Exchanges.{without_old}
use Rattle.exam_office.proofs.seat_changes.drop_old_seats.Given as goal

abbrev pub invariant-loop-key : goal.invariant-loop-key
invariant-loop-key l =
    without_old seat_cmp l.seats.entries l.key-iterator l.new.entries
    ≡ without_old seat_cmp l.fn.seats.entries l.old.entries l.new.entries
