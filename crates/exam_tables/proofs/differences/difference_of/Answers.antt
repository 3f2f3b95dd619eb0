use Rattle.exam_tables.proofs.Words.{deref_pair}
use Rattle.std.proofs.Common.{ap, subst₂, map, ◌∙◌}
use Rattle.std.proofs.lemmas.Result.{IfOk-weaker}
use Rattle.exam_tables.specs.Differences.{Differs}
use Rattle.exam_tables.proofs.Turning.{differs_turns}
use Rattle.exam_tables.proofs.differences.difference_of.Goals as goal

pub returns-clause-turns : goal.returns-clause-turns
returns-clause-turns g c exact =
    let cmp = g.K.Ord.cmp in
    let same = g.V.PartialEq.eq in
    let old = c.args.old.now.entries in
    let new = c.args.new.now.entries in
    IfOk-weaker c.merge.result _ _ (λ d differs.
    differs_turns g.met.K.Ord.total same exact old new (map deref_pair d.put.items)
    (map (λ key. key.now) d.delete.items) c.in_ok-old.ensures.rises c.in_ok-new.ensures.rises
    (subst₂ (λ o n. Differs cmp same o n (map deref_pair d.put.items) (map (λ key. key.now) d.delete.items))
    (ap (map deref_pair) c.as_slice.ensures.value ∙ c.in_ok-old.ensures.entries)
    (ap (map deref_pair) c.as_slice-2.ensures.value ∙ c.in_ok-new.ensures.entries) differs)) c.merge.ensures
