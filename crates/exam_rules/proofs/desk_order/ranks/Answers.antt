use Rattle.exam_rules.proofs.Words.{is_lt, desk_cmp}
use Rattle.std.proofs.Common.{◌++◌, ◌∷◌, [], count_by, ap, subst, ◌∙◌}
use Rattle.std.specs.List.Sorted.{IsPermutation}
use Rattle.exam_rules.proofs.Ranking.{map_step, map_end, ranks_sorted}
use Rattle.exam_rules.proofs.desk_order.ranks.Goals as goal

pub loop-key-preserved : goal.loop-key-preserved
loop-key-preserved c =
    map_step (λ k. count_by (λ other. is_lt (desk_cmp other k)) c.sort.new.self.items) c.args.keys.now
    c.loop-key.key-index c.key-item.result
    c.loop-key.ranks.items c.push.new.self.items _ c.loop-key-test.true
    (c.in_ok-push.ensures.items
    ∙ ap (λ n. c.loop-key.ranks.items ++ n ∷ [])
    (c.place_in.ensures ∙ ap (count_by (λ other. is_lt (desk_cmp other c.key-item.result))) c.deref.ensures.value)
    ∙ ap (λ k. c.loop-key.ranks.items ++ count_by (λ other. is_lt (desk_cmp other k)) c.sort.new.self.items ∷ [])
    c.key-item.is)
    c.loop-key.invariant

pub returns-clause-ok : goal.returns-clause-ok
returns-clause-ok c =
    map_end (λ k. count_by (λ other. is_lt (desk_cmp other k)) c.sort.new.self.items) c.args.keys.now
    c.loop-key.key-index c.loop-key.ranks.items c.loop-key-test.false c.loop-key.invariant
    ∙ ranks_sorted c.args.keys.now c.sort.new.self.items
    (subst (λ keys. IsPermutation keys c.sort.new.self.items) c.in_ok-sorted.ensures.items
    c.sort.ensures.permutation)
