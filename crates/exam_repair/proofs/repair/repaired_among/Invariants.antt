use Rattle.exam_rules.specs.Relations.{relations_of}
use Rattle.exam_repair.proofs.ChosenSessions.{IsRepairedAmong}
use Rattle.exam_repair.proofs.repair.repaired_among.Given as goal

abbrev pub invariant-loop-session : goal.invariant-loop-session
invariant-loop-session l =
    IsRepairedAmong l.sessions (relations_of l.facts) l.first l.seats.entries l.repaired.entries l.session-iterator
