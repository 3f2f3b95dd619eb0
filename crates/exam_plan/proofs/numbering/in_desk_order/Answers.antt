use Rattle.exam_plan.proofs.Words.{range_with_len, behind_rank}
use Rattle.std.proofs.Common.{◌++◌, ◌∷◌, [], map, ap, sym, ◌∙◌, zero-add}
use Rattle.std.proofs.lemmas.List.FromFn.{map-range_with_len_more}
use Rattle.exam_plan.proofs.numbering.in_desk_order.Goals as goal

pub loop-candidate-preserved : goal.loop-candidate-preserved
loop-candidate-preserved c =
    c.in_ok-push.ensures.items
    ∙ ap (λ es. es ++ (c.rank.result, c.loop-candidate.candidate) ∷ []) c.loop-candidate.invariant
    ∙ ap (λ r. map (behind_rank c.args.problem.now) (range_with_len 0 c.loop-candidate.candidate)
    ++ (r, c.loop-candidate.candidate) ∷ []) c.rank.ensures
    ∙ sym (map-range_with_len_more
    (behind_rank c.args.problem.now) 0 c.loop-candidate.candidate c.loop-candidate.candidate
    (zero-add c.loop-candidate.candidate))
