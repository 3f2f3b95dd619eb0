-- The first is refused, where the second was to follow; or the second comes after the first.
use Rattle.exam_tables.proofs.Words.{state}
use Rattle.std.proofs.Common.{◌≡◌, Err, rules}
use Rattle.exam_tables.proofs.Steps.{makes_part, makes_then}
use Rattle.exam_tables.proofs.writes.Tuple2Writes.write.Goals as goal

pub returns-in_err-write-clause-made : goal.returns-in_err-write-clause-made
returns-in_err-write-clause-made g c =
    let is : c.from_residual.result ≡ Err c.in_err-write.field-0.0 = search rules in
    rw is (makes_part (state g.S.Store c.args.tx.now.conn.now) (state g.S.Store c.write.new.tx.conn.now) _
    (g.A.Writes.writes c.args.self.now.0) (g.B.Writes.writes c.args.self.now.1) c.in_err-write.ensures.made)

pub returns-clause-made : goal.returns-clause-made
returns-clause-made g c =
    makes_then (state g.S.Store c.args.tx.now.conn.now) (state g.S.Store c.write.new.tx.conn.now)
    (state g.S.Store c.write-2.new.tx.conn.now) _ (g.A.Writes.writes c.args.self.now.0)
    (g.B.Writes.writes c.args.self.now.1) c.in_ok-write.ensures.made c.write-2.ensures.made
