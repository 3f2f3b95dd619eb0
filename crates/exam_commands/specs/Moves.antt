-- Who moves when plans change.
use Rattle.std.specs.Prelude.{ℕ, ◌==◌, ◌&&◌, not, Bool, false, count_by}
use Rattle.std.specs.Option.{option_map_or}
use Rattle.exam_rules.specs.Relations.{Code, same_code}
use Rattle.exam_rules.specs.Seatings.{plan_of}
use Rattle.exam_commands.specs.State.{Seats}

-- the candidate of a seat sits, in the same session, in another hall
abbrev pub is_elsewhere : Seats → (Code × ℕ) × Code → Bool
is_elsewhere after seat =
    option_map_or (λ h. not (same_code h seat.1)) (plan_of after seat.0.0 seat.0.1) false

-- a candidate other than this one sits, in the session of the seat, in another hall
abbrev pub is_move : Seats → ℕ → (Code × ℕ) × Code → Bool
is_move after c seat = not (seat.0.1 == c) && is_elsewhere after seat

-- Over all sessions, how many others than the candidate sit both before and after, but after in another hall. One who
-- moves in two sessions counts twice.
abbrev pub moved : Seats → Seats → ℕ → ℕ
moved before after c = count_by (is_move after c) before
