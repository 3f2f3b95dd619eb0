use Rattle.std.proofs.Common.{subst, sym}
use Rattle.std.specs.Str.{IsAscii}
use Rattle.exam_request.proofs.Ascii.{ascii_day}
use Rattle.exam_request.proofs.own_bodies.appeal_value_of.Goals as goal

pub ascii_text-requires-2 : goal.ascii_text-requires-2
ascii_text-requires-2 c = subst IsAscii (sym c.requires.lodged) (ascii_day _)

pub ascii_text-requires-6 : goal.ascii_text-requires-6
ascii_text-requires-6 c = c.requires.ascii
