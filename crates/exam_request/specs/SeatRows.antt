-- The texts of a candidate's seat, as the program makes them.
use Rattle.std.specs.Prelude.{◌≡◌}
use Rattle.exam_types.specs.Days.{day_text}
use Rattle.exam_types.specs.Features.{features_text}
use Rattle.exam_types.specs.Numbers.{minute_text}
use Rattle.exam_commands.specs.Own.{OwnSessionRow}
use Rattle.exam_request.specs.declared.own_bodies.SeatTexts.{SeatTexts}

-- these are the date, the finish, the needs and the start of the seat
abbrev pub HasSeatTexts : OwnSessionRow → SeatTexts → Type 0
HasSeatTexts own texts =
    (texts.date.items ≡ day_text own.day) × (texts.finish.items ≡ minute_text own.finish)
    × (texts.needs.items ≡ features_text own.arrangement.needs) × (texts.start.items ≡ minute_text own.start)
