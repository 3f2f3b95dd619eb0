use Rattle.exam_files.proofs.Appending.{more}
use Rattle.exam_files.proofs.shortages.push_hall.Goals as goal

pub returns-clause-ok : goal.returns-clause-ok
returns-clause-ok c =
    let t = c.args.text.now.items in
    more t _ _ _ _ (more t _ _ _ _
    (more t _ _ _ _ (more t _ _ _ _ c.in_ok-append.ensures.ok c.in_ok-write_to.ensures.ok)
    c.in_ok-append-2.ensures.ok) c.in_ok-push_decimal.ensures.ok) c.in_ok-append-3.ensures.ok
