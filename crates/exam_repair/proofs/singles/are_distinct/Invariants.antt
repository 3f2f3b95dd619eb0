use Rattle.std.proofs.Common.{◌≡◌, take}
use Rattle.std.specs.List.{list_any, IsDistinct}
use Rattle.std.specs.Ordering.{eq_by_cmp}
use Rattle.std.specs.BTreeSet.{contains}
use Rattle.exam_repair.proofs.singles.are_distinct.Given as goal

abbrev pub invariant-loop-key : goal.invariant-loop-key
invariant-loop-key g l = record {
  seen : (k : g.row.K.Denot)
      → contains g.K.Ord.cmp l.seen k ≡ list_any (eq_by_cmp g.K.Ord.cmp k) (take l.key-index l.keys);
  distinct : IsDistinct (eq_by_cmp g.K.Ord.cmp) (take l.key-index l.keys);
}
