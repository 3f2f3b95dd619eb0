use Rattle.exam_store.proofs.appeal_rows.AppealRowsAppealSource.next.Goals as goal

pub returns-clause-row : goal.returns-clause-row
returns-clause-row g c =
    λ honest. rw (c.bound_after-self.ensures, c.read_appeal.ensures.read.office) c.in_ok-row.ensures.row
