use Rattle.exam_tables.proofs.Words.{deref_pair}
use Rattle.std.proofs.Common.{arith}
use Rattle.std.proofs.lemmas.Map.Iter.{rest_more}
use Rattle.exam_tables.proofs.Counted.{still_fits}
use Rattle.exam_tables.proofs.counting.count_appeals.Goals as goal

pub overflow_add-count : goal.overflow_add-count
overflow_add-count c =
    let rest = rest_more deref_pair _ _ _ _ c.in-Some.is c.next.ensures.steps in
    let fits = still_fits c.args.session.now c.args.facts.now.appeals.entries c.appeals.count c.counted-count.result
    c.appeals.key-iterator c.next.new.self
    (c.in-Some.key, c.in-Some.appeal) c.appeals.invariant rest c.counted-count.ensures in
    omega (arith, fits, c.len-most.ensures.len, c.len-most.ensures.small)
