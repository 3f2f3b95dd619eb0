use Rattle.exam_tables.proofs.FirstFrom.{HasPassed}
use Rattle.exam_tables.proofs.counting.first_appeal.Given as goal

abbrev pub invariant-appeals : goal.invariant-appeals
invariant-appeals l = HasPassed l.session l.fn.from l.facts.appeals.entries l.key-iterator
