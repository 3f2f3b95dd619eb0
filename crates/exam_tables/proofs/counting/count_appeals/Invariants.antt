use Rattle.exam_tables.proofs.Counted.{HasCounted}
use Rattle.exam_tables.proofs.counting.count_appeals.Given as goal

abbrev pub invariant-appeals : goal.invariant-appeals
invariant-appeals l = HasCounted l.session l.facts.appeals.entries l.count l.key-iterator
