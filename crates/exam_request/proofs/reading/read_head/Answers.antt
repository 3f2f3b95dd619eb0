-- What is in hand has no whole empty line, and is what the reader has given. If nothing more comes the head is broken
-- off; if the buffer is full the head is too long.
use Rattle.std.proofs.Common.{◌≡◌, ◌∙◌, arith, take, rules, refl, Some}
use Rattle.std.proofs.KnownBytes.{Consumes-nil}
use Rattle.std.proofs.lemmas.List.{length-take-le}
use Rattle.exam_request.specs.Input.{head_len}
use Rattle.exam_request.proofs.Finding.{none_in}
use Rattle.exam_request.proofs.InHand.{cut_short, ended, in_hand, taken, too_long}
use Rattle.exam_request.proofs.reading.read_head.Goals as goal
use Rattle.exam_request.specs.Sizes.{most_head}

pub loop-filled-init : goal.loop-filled-init
loop-filled-init g c = (omega arith, c.requires, none_in _ refl, Consumes-nil _)

pub returns-then-total-filled : goal.returns-then-total-filled
returns-then-total-filled g c =
    let inv = c.loop-filled.invariant in
    let r = c.in_ok-total.ensures in
    let kept = c.read_more.auto.buffer in
    let a = length-take-le c.loop-filled.filled c.loop-filled.buffer (omega arith) in
    let b = length-take-le c.in_ok-total.total c.read_more.new.buffer (omega (arith, r.1)) in
    let e = ended _ _ _ _ _ inv.3 r.2 (omega arith) in
    cut_short _ _ _ (omega arith) inv.2 e.0 e.1

pub returns-in-Some : goal.returns-in-Some
returns-in-Some g c =
    let inv = c.loop-filled.invariant in
    let r = c.in_ok-total.ensures in
    let kept = c.read_more.auto.buffer in
    let b = length-take-le c.in_ok-total.total c.read_more.new.buffer (omega (arith, r.1)) in
    let found : head_len (take c.in_ok-total.total c.read_more.new.buffer) ≡ Some c.in-Some.head = search rules in
    (r.1, in_hand _ _ _ _ (omega (arith, r.1)) found (taken _ _ _ _ _ inv.3 r.2))

pub returns : goal.returns
returns g c =
    let inv = c.loop-filled.invariant in
    let all : c.loop-filled.filled ≡ most_head = omega arith in
    too_long _ _ _ (length-take-le _ _ (omega arith) ∙ all) inv.2 inv.3
