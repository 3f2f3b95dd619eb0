use Rattle.std.specs.Prelude.{[], ◌∷◌, codes}
use Rattle.exam_line.proofs.Jobs.{and_job, last_job}
use Rattle.exam_line.proofs.grammar.with_sheets.Goals as goal

pub returns : goal.returns
returns c =
    let two = and_job _ _ _ _
    (codes "session" ∷ codes "paper" ∷ []) c.in_ok-command-2.ensures c.in_ok-command.ensures in
    let three = and_job _ _ _ _ (codes "session" ∷ []) c.in_ok-command-3.ensures two in
    let four = and_job _ _ _ _ (codes "session" ∷ []) c.in_ok-command-4.ensures three in
    let five = and_job _ _ _ _ (codes "session" ∷ []) c.in_ok-command-5.ensures four in
    last_job _ _ _ _ (codes "session" ∷ []) five c.with_job-6.ensures
