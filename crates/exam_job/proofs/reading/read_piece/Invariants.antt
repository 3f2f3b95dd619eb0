use Rattle.std.specs.Io.KnownBytes.{Keeps}
use Rattle.exam_job.proofs.reading.read_piece.Given as goal

-- a read that failed consumed nothing
abbrev pub invariant-tries : goal.invariant-tries
invariant-tries g l = Keeps (g.R.Read.remaining l.initial.reader) (g.R.Read.remaining l.reader)
