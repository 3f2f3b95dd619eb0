use Rattle.std.proofs.Common.{◌≡◌, ◌<◌, ◌+◌, ◌++◌, [], ℕ, List, length, get_or, take, codes, refl, arith}
use Rattle.std.specs.List.{flat_map}
use Rattle.std.proofs.lemmas.Grind.{common_steps}
use Rattle.exam_files.specs.Exports.{export_line}
use Rattle.exam_files.specs.Held.{Holds}
use Rattle.exam_files.proofs.Fields.{joined}
use Rattle.exam_files.proofs.exports.export_text.Goals as goal

one_more : {X : Type 0} (f : X → List ℕ) (xs : List X) (i : ℕ) (x : X) → i < length xs → x ≡ get_or xs i x
    → flat_map f (take (i + 1) xs) ≡ flat_map f (take i xs) ++ f x
one_more f xs i x below at = grind (arith, common_steps)

pub loop-seat-init : goal.loop-seat-init
loop-seat-init c =
    let made = c.from_writer-records in
    let none : Holds made.result [] =
    record {
      setup = made.ensures.cfg;
      text =
          rw (made.ensures.wtr, made.ensures.empty, c.new.ensures.items) refl;
      fields = made.ensures.fields;
      wrote =
          made.ensures.wrote;
    } in
    let header = joined (codes "session") (codes "number") (codes "paper") (codes "hall")
    (codes "desk") refl refl refl refl refl in
    rw header at (c.in_ok-write_record.ensures.ok [] none)

pub loop-seat-preserved : goal.loop-seat-preserved
loop-seat-preserved c =
    let more = one_more (export_line c.args.code) c.args.seats.now c.loop-seat.seat-index c.seat-item.result
    (omega arith) c.seat-item.is in
    rw more (c.in_ok-write_seat.ensures.ok _ c.loop-seat.invariant)
