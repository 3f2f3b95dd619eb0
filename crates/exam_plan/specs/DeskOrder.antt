-- The order in which desks are numbered.
use Rattle.std.specs.Prelude.{ℕ, slice_index}
use Rattle.std.specs.Ordering.{nat_cmp, ordering_then}
use Rattle.std.specs.declared.cmp.Ordering.{Ordering}
use Rattle.exam_plan.specs.Problems.{Problem}

-- a candidate behind their rank
abbrev pub behind_rank : Problem → ℕ → ℕ × ℕ
behind_rank p c = (slice_index p.rank c, c)

-- by the rank, and then by the number
abbrev pub rank_cmp : ℕ × ℕ → ℕ × ℕ → Ordering
rank_cmp x y = ordering_then (nat_cmp x.0 y.0) (nat_cmp x.1 y.1)
