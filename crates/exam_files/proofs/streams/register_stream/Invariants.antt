use Rattle.exam_files.proofs.Streaming.{HasStreamed}
use Rattle.exam_files.proofs.streams.register_stream.Given as goal

-- what the source leaves as it is has stayed; where it is honest, it was so at first, and the lines of those that came
-- went out
abbrev pub invariant-loop-place : goal.invariant-loop-place
invariant-loop-place g l =
    g.A.AppealSource.Stays l.fn.source l.source
    × (g.A.AppealSource.IsHonest l.source → g.A.AppealSource.IsHonest l.fn.source)
    × (g.A.AppealSource.IsHonest l.source
    → HasStreamed l.session l.count (g.A.AppealSource.coming l.fn.source) (g.W.Write.contents l.fn.writer) l._place
    (g.A.AppealSource.coming l.source) (g.W.Write.contents l.writer))
