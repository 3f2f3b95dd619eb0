use Rattle.std.proofs.Common.{◌≡◌, ◌++◌, map}
use Rattle.std.specs.Map.Iter.{deref_pair}
use Rattle.exam_store.proofs.RowsTurning.{rows_at}
use Rattle.exam_store.proofs.saving.rows_put.Given as goal

-- the rows so far, and those at the keys that are left, are those at all keys
abbrev pub invariant-loop-key : goal.invariant-loop-key
invariant-loop-key g l =
    map deref_pair l.put.items
    ++ rows_at g.K.Ord.cmp l.after.entries l.key-iterator ≡ rows_at g.K.Ord.cmp l.after.entries l.was.entries
