use Rattle.std.proofs.Common.{◌∙◌, subst, sym}
use Rattle.std.specs.Str.{IsAscii}
use Rattle.exam_commands.specs.Own.{shown_session}
use Rattle.exam_request.proofs.Ascii.{ascii_day, ascii_features, ascii_minute}
use Rattle.exam_request.proofs.own_bodies.seat_value.Goals as goal

pub ascii_text-requires : goal.ascii_text-requires
ascii_text-requires c = subst IsAscii (sym (c.deref.ensures.value ∙ c.requires.0)) (ascii_day _)

pub ascii_text-requires-2 : goal.ascii_text-requires-2
ascii_text-requires-2 c = subst IsAscii (sym (c.deref-2.ensures.value ∙ c.requires.1)) (ascii_minute _)

pub ascii_text-requires-3 : goal.ascii_text-requires-3
ascii_text-requires-3 c =
    subst IsAscii (sym (c.deref-3.ensures.value ∙ c.requires.2))
    (ascii_features (shown_session c.args.own.now).arrangement.needs)

pub ascii_text-requires-6 : goal.ascii_text-requires-6
ascii_text-requires-6 c = subst IsAscii (sym (c.deref-4.ensures.value ∙ c.requires.3)) (ascii_minute _)
