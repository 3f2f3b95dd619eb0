use Rattle.exam_rules.proofs.Words.{is_lt, desk_cmp}
use Rattle.std.proofs.Common.{◌≡◌, ◌++◌, map, count_by, drop}
use Rattle.exam_rules.proofs.desk_order.ranks.Given as goal

-- a rank for each key so far
abbrev pub invariant-loop-key : goal.invariant-loop-key
invariant-loop-key l =
    l.ranks.items ++ map (λ k. count_by (λ other. is_lt (desk_cmp other k)) l.sorted.items) (drop l.key-index l.keys)
    ≡ map (λ k. count_by (λ other. is_lt (desk_cmp other k)) l.sorted.items) l.keys
