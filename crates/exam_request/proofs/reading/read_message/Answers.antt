-- What is in hand begins with the head and the spans are judged by it alone, so the bytes that follow do not matter
-- until the body is whole.
use Rattle.std.proofs.Common.{◌≡◌, arith, rules}
use Rattle.std.specs.Prelude.{Err}
use Rattle.std.proofs.lemmas.List.{length-take-le}
use Rattle.exam_request.specs.declared.reading.Stop.TheVariants.{Failed, Faulty}
use Rattle.exam_request.proofs.Bodies.{bad_head_in, fails, fronts_stay, head_more, message_in, no_body}
use Rattle.exam_request.proofs.InHand.{ended}
use Rattle.exam_request.proofs.reading.read_message.Goals as goal

pub returns-in_err-spans : goal.returns-in_err-spans
returns-in_err-spans g c =
    let is : c.from_residual-in_err-spans.result ≡ Err (Faulty c.in_err-spans.field-0.0) = search rules in
    bad_head_in _ _ _ _ _ _ _ c.in_ok-head.ensures.1 c.in_err-spans.ensures.judges c.in_ok-head.ensures.0 is

pub returns-then-total-filled : goal.returns-then-total-filled
returns-then-total-filled g c =
    let inv = c.loop-filled.invariant in
    let r = c.in_ok-total.ensures in
    let kept = c.read_more.auto.buffer in
    let a = length-take-le c.loop-filled.filled c.loop-filled.buffer inv.0 in
    let b = length-take-le c.in_ok-total.total c.read_more.new.buffer (omega (arith, r.1)) in
    let e = ended _ _ _ _ _ inv.5.consumed r.2 (omega arith) in
    let same = c.if-total-filled.true in
    let j = fronts_stay _ _ _ _ _ _ _ inv.5 r.2 inv.6 in
    no_body _ _ _ _ _ (head_more _ _ _ _ _ _ inv.5 r.2) j.judged (omega arith) e.1 (omega arith)

pub loop-filled-preserved : goal.loop-filled-preserved
loop-filled-preserved g c =
    let inv = c.loop-filled.invariant in
    let r = c.in_ok-total.ensures in
    let kept = c.read_more.auto.buffer in (
      omega (arith, r.1),
      omega (arith, r.1),
      omega arith,
      omega arith,
      omega arith,
      head_more _ _ _ _ _ _ inv.5 r.2,
      fronts_stay _ _ _ _ _ _ _ inv.5 r.2 inv.6,
    )

pub returns : goal.returns
returns g c =
    let inv = c.loop-filled.invariant in
    message_in _ _ _ _ _ c.loop-filled.filled inv.5 inv.6 (omega arith) inv.0 inv.1

pub returns-in_err-total : goal.returns-in_err-total
returns-in_err-total g c =
    let inv = c.loop-filled.invariant in
    let is : c.from_residual-in_err-total.result ≡ Err Failed = search rules in
    fails _ _ _ _ _ _ _ inv.5.consumed c.in_err-total.ensures.1 inv.1 is
