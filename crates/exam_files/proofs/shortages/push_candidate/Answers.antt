use Rattle.exam_files.proofs.Appending.{more}
use Rattle.exam_files.proofs.shortages.push_candidate.Goals as goal

pub returns-clause-ok : goal.returns-clause-ok
returns-clause-ok c = more c.args.text.now.items _ _ _ _ c.in_ok-write_to.ensures.ok c.in_ok-append.ensures.ok
