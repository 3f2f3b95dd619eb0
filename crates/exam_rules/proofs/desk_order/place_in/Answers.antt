use Rattle.exam_rules.proofs.Words.{is_lt, desk_cmp}
use Rattle.std.proofs.Common.{rules, arith}
use Rattle.std.proofs.lemmas.List.Sorted.{IsPartitionPoint-from_clause}
use Rattle.exam_rules.proofs.Ranking.{count_at_point, lesser_first}
use Rattle.exam_rules.proofs.desk_order.place_in.Goals as goal

pub returns : goal.returns
returns c =
    let point = IsPartitionPoint-from_clause
    (λ other. is_lt (desk_cmp other c.args.key.now)) c.args.sorted.now c.partition_point.result
    c.partition_point.ensures.partitioned
    (lesser_first c.args.sorted.now c.args.key.now c.requires.sorted) (λ a r f' called. search rules) in
    count_at_point (λ other. is_lt (desk_cmp other c.args.key.now)) c.args.sorted.now c.partition_point.result
    c.partition_point.ensures.bound (λ k d h. point.0 k d (omega arith) h) (λ k d h l. point.1 k d h l)
