use Rattle.exam_tables.proofs.Words.{deref_pair}
use Rattle.std.proofs.Common.{◌+◌, length, map}
use Rattle.exam_tables.proofs.Differing.{IsWalked}
use Rattle.exam_tables.proofs.differences.merge.Given as goal

abbrev pub invariant-rows : goal.invariant-rows
invariant-rows g l =
    IsWalked g.K.Ord.cmp g.V.PartialEq.eq (map deref_pair l.fn.old) (map deref_pair l.fn.new) (map deref_pair l.old)
    (map deref_pair l.new) (map deref_pair l.put.items) (map (λ key. key.now) l.delete.items)

abbrev pub decreases-rows : goal.decreases-rows
decreases-rows g l = length l.old + length l.new
