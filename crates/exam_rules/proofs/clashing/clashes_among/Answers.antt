use Rattle.exam_rules.proofs.Words.{relations_of, clashes_of}
use Rattle.exam_rules.proofs.Turns.{flat_step}
use Rattle.std.proofs.Common.{◌≡◌, ◌++◌, get_or}
use Rattle.exam_rules.proofs.clashing.clashes_among.Goals as goal

pub loop-number-preserved : goal.loop-number-preserved
loop-number-preserved c =
    flat_step (clashes_of (relations_of c.args.facts.now) c.args.session.now) c.args.numbers.now
    c.loop-number.number-index c.number-item.result
    c.loop-number.list.items c.push_clashes.new.list.items _ c.loop-number-test.true
    (let e : c.number-item.result ≡ get_or c.args.numbers.now c.loop-number.number-index c.number-item.result =
    c.number-item.is in
    let h : c.push_clashes.new.list.items ≡ c.loop-number.list.items
    ++ clashes_of (relations_of c.args.facts.now) c.args.session.now c.number-item.result =
    c.in_ok-push_clashes.ensures.ok in
    rw (← e) h)
    c.loop-number.invariant
