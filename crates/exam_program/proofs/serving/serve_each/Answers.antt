use Rattle.std.proofs.Common.{[], refl}
use Rattle.exam_program.proofs.Ending.{ended_next}
use Rattle.exam_program.proofs.serving.serve_each.Goals as goal

pub connections-init : goal.connections-init
connections-init g c = ([], (refl, refl))

pub connections-preserved : goal.connections-preserved
connections-preserved g c =
    ended_next g.S.Store g.E.Write.contents c.args.today c.args.store.now c.args.err.now c.connections.store
    c.connections.err c.serve_connection.new.store c.serve_connection.new.err
    c.connections.invariant c.serve_connection.ensures
