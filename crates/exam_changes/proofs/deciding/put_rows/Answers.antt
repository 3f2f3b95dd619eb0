use Rattle.exam_changes.proofs.deciding.put_rows.Goals as goal

pub returns-in_err-put_appeal-clause-back : goal.returns-in_err-put_appeal-clause-back
returns-in_err-put_appeal-clause-back c =
    λ first back. c.put_appeal.ensures.back first (c.put_earlier.ensures.back first back)

pub returns-clause-back : goal.returns-clause-back
returns-clause-back c =
    λ first back. c.put_mark.ensures.back first
    (c.in_ok-put_appeal.ensures.back first (c.in_ok-put_earlier.ensures.back first back))
