use Rattle.std.specs.Prelude.{[], ◌∷◌, codes}
use Rattle.exam_line.proofs.Jobs.{and_job, last_job}
use Rattle.exam_line.proofs.grammar.with_changes.Goals as goal

pub returns : goal.returns
returns c =
    let two = and_job _ _ _ _ [] c.in_ok-command-2.ensures c.in_ok-command.ensures in
    let three = and_job _ _ _ _ [] c.in_ok-command-3.ensures two in
    let four = and_job _ _ _ _ (codes "kind" ∷ codes "file" ∷ []) c.in_ok-command-4.ensures three in
    let five = and_job _ _ _ _ (codes "number" ∷ codes "paper" ∷ []) c.in_ok-command-5.ensures four in
    let six = and_job _ _ _ _ (codes "number" ∷ codes "paper" ∷ []) c.in_ok-command-6.ensures five in
    let seven = and_job _ _ _ _ (codes "session" ∷ codes "hall" ∷ []) c.in_ok-command-7.ensures six in
    let eight = and_job _ _ _ _
    (codes "number" ∷ codes "ref" ∷ codes "outcome" ∷ codes "reason" ∷ []) c.in_ok-command-8.ensures seven in
    last_job _ _ _ _ (codes "port" ∷ []) eight c.with_job-9.ensures
