use Rattle.std.proofs.Common.{◌≡◌, arith, rules}
use Rattle.exam_send.proofs.Sent.{open_range, sends-fails, sends-more, sends-none}
use Rattle.exam_send.proofs.sending.send.Goals as goal

pub returns-in-Ok-eq0-clause-err : goal.returns-in-Ok-eq0-clause-err
returns-in-Ok-eq0-clause-err g c =
    sends-none _ _ _ _ _ c.loop-sent.invariant.1 (omega (arith, c.loop-sent-test.true))
    (let zero : c.in-Ok-eq0.field-0 ≡ 0 = search rules in rw zero at c.in-Ok-eq0.ensures.bytes)

pub loop-sent-preserved : goal.loop-sent-preserved
loop-sent-preserved g c = (
  omega (arith, c.in-Ok.ensures.bound),
  sends-more _ _ _ _ _ _ c.loop-sent.invariant.1 (rw open_range at c.in-Ok.ensures.bytes),
)

pub returns-in-Err-clause-err : goal.returns-in-Err-clause-err
returns-in-Err-clause-err g c =
    sends-fails _ _ _ _ _ c.loop-sent.invariant.1 (omega (arith, c.loop-sent-test.true)) c.in-Err.ensures.bytes
