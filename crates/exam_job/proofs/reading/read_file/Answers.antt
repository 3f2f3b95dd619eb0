use Rattle.std.proofs.Common.{◌≤◌, ◌++◌, length, take, rules}
use Rattle.std.proofs.KnownBytes.{Consumes-trans}
use Rattle.std.proofs.lemmas.List.{length-append, length-take}
use Rattle.exam_job.specs.Reading.{most_read}
use Rattle.exam_job.proofs.Given.{on_err, reads}
use Rattle.exam_job.proofs.reading.read_file.Goals as goal

pub returns-in_err-append-clause-read : goal.returns-in_err-append-clause-read
returns-in_err-append-clause-read g c =
    let had = c.loop-piece.bytes.items in
    let more = take c.in_ok-count.count c.read_piece.new.piece in
    let bound = c.in_ok-count.ensures.bound in
    let kept = c.read_piece.auto.piece in
    let few : length (had ++ more) ≤ most_read =
    search (rules, length-append had more, length-take c.in_ok-count.count c.read_piece.new.piece) in
    on_err c.from_residual-in_err-append.result
    (reads _ _ (had ++ more) few (Consumes-trans _ _ _ _ _ c.loop-piece.invariant.1 c.in_ok-count.ensures.given))
