use Rattle.std.proofs.Common.{◌≡◌}
use Rattle.exam_tables.proofs.differences.entries_of.Given as goal

abbrev pub invariant-entries : goal.invariant-entries
invariant-entries g l = l.entries.items ≡ l.yielded
