use Rattle.exam_program.specs.Running.{AreEnded}
use Rattle.exam_program.proofs.serving.serve_each.Given as goal

-- connections ended in turn
abbrev pub invariant-connections : goal.invariant-connections
invariant-connections g l = AreEnded g.S.Store g.E.Write.contents l.fn.today l.fn.store l.fn.err l.store l.err
