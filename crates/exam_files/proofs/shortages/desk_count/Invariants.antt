use Rattle.std.proofs.Common.{◌≡◌, ◌+◌, ◌*◌, ◌≤◌, ◌^◌, drop}
use Rattle.std.specs.Prelude.{sum_by}
use Rattle.exam_files.proofs.shortages.desk_count.Given as goal

abbrev pub invariant-loop-hall : goal.invariant-loop-hall
invariant-loop-hall l = record {
  so_far : l.count + sum_by (λ hall. hall.1) (drop l.hall-index l.halls) ≡ sum_by (λ hall. hall.1) l.halls;
  bound : l.count ≤ l.hall-index * 2 ^ 32;
}
