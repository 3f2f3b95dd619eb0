use Rattle.std.proofs.Common.{◌<◌, ◌≤◌, ◌∙◌, arith, ap, length, take, rules}
use Rattle.exam_request.proofs.InHand.{read_behind}
use Rattle.exam_request.proofs.reading.read_more.Goals as goal

pub returns-in-Ok : goal.returns-in-Ok
returns-in-Ok g c =
    let bound = c.in-Ok.ensures.bound in
    let size = c.read.auto.buf in
    let room : 0 < length c.read.new.buf = search rules in
    let at : c.args.filled ≤ length c.args.buffer.now = omega arith in (
      omega arith,
      omega (arith, bound.0),
      record {
        got = take c.in-Ok.count c.read.new.buf;
        now_is = read_behind _ _ _ _ _ at bound.0;
        consumed = c.in-Ok.ensures.bytes.0;
        at_end = λ e. c.in-Ok.ensures.bytes.1 (bound.1 ∙ ap length e) room;
      },
    )
