use Rattle.exam_files.proofs.Appending.{all_spaces, more_spaces}
use Rattle.exam_files.proofs.sheet_text.push_spaces.Goals as goal

pub loop-space-preserved : goal.loop-space-preserved
loop-space-preserved c =
    rw c.in_ok-push.ensures.items
    (more_spaces c.loop-space.text.items _ c.loop-space._space c.args.count c.loop-space-test.true
    c.loop-space.invariant)

pub returns-clause-ok : goal.returns-clause-ok
returns-clause-ok c =
    all_spaces c.loop-space.text.items _ c.loop-space._space c.args.count c.loop-space-test.false c.loop-space.invariant
