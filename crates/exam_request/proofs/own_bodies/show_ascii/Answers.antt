use Rattle.std.proofs.Common.{◌^◌, ◌<◌, sym, subst, arith}
use Rattle.std.specs.Str.{IsAscii}
use Rattle.exam_commands.specs.Words.{subject_text}
use Rattle.exam_request.proofs.Ascii.{ascii_arrangement}
use Rattle.exam_request.proofs.own_bodies.show_ascii.Goals as goal

pub returns-in-Arrangement : goal.returns-in-Arrangement
returns-in-Arrangement c =
    subst (λ s. IsAscii (subject_text s)) (sym c.in-Arrangement.is) (ascii_arrangement c.in-Arrangement.wanted small)
  where
    fits : c.get.result < 2 ^ 64
    fits = let l : c.get.result < 65536 = c.get.type_inv in omega arith

    small : c.in-Arrangement.wanted.extra < 2 ^ 64
    small = subst (λ n. n < 2 ^ 64) c.get.ensures.value fits
