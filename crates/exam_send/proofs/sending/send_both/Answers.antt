use Rattle.exam_send.proofs.Sent.{begins-both, begins-unsent, sends-both}
use Rattle.exam_send.proofs.sending.send_both.Goals as goal

pub returns-in_err-send-clause-err : goal.returns-in_err-send-clause-err
returns-in_err-send-clause-err g c = begins-unsent _ _ _ _ _ c.in_err-send.ensures.err

pub returns-clause-ok : goal.returns-clause-ok
returns-clause-ok g c = sends-both _ _ _ _ _ _ c.in_ok-send.ensures.ok c.send-2.ensures.ok

pub returns-clause-err : goal.returns-clause-err
returns-clause-err g c = begins-both _ _ _ _ _ _ c.in_ok-send.ensures.ok c.send-2.ensures.err
