use Rattle.std.proofs.Common.{take}
use Rattle.exam_files.specs.Exports.{export_text}
use Rattle.exam_files.specs.Held.{Holds}
use Rattle.exam_files.proofs.exports.export_text.Given as goal

-- the header, and a record for each seat so far
abbrev pub invariant-loop-seat : goal.invariant-loop-seat
invariant-loop-seat l = Holds l.records (export_text l.code (take l.seat-index l.seats))
