use Rattle.std.proofs.Common.{◌≡◌, ◌++◌, [], IfOk, ap, sym, subst, ◌∙◌, append-nil}
use Rattle.std.specs.Bool.{Decides}
use Rattle.std.specs.List.{filter_map, IsDistinct}
use Rattle.std.specs.Ordering.{eq_by_cmp}
use Rattle.std.specs.Map.Iter.{deref_pair}
use Rattle.std.proofs.lemmas.Map.Iter.{rest_all}
use Rattle.exam_commands.specs.Singles.{single_key}
use Rattle.exam_repair.proofs.SingleKeys.{compared_same, single_cmp}
use Rattle.exam_repair.proofs.singles.are_single.Goals as goal

pub returns-clause-ok : goal.returns-clause-ok
returns-clause-ok c =
    let left : c.loop-key.key-iterator ≡ [] = rest_all deref_pair _ _ _ c.in-None.is c.next.ensures.steps in
    let all : c.deref.result.now ≡ filter_map single_key c.args.facts.now.appeals.entries =
    c.deref.ensures.value ∙ sym (append-nil c.loop-key.keys.items)
    ∙ ap (λ es. c.loop-key.keys.items ++ filter_map single_key es) (sym left) ∙ c.loop-key.invariant in
    subst (λ same. IfOk c.are_distinct.result
    (λ b. Decides b (IsDistinct same (filter_map single_key c.args.facts.now.appeals.entries)))) compared_same
    (subst (λ ks. IfOk c.are_distinct.result (λ b. Decides b (IsDistinct (eq_by_cmp single_cmp) ks))) all
    c.are_distinct.ensures.ok)
