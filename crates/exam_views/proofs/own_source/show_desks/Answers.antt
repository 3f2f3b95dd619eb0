use Rattle.std.proofs.Common.{arith}
use Rattle.exam_rules.specs.Relations.{relations_of}
use Rattle.exam_commands.specs.State.{State}
use Rattle.exam_views.proofs.OwnDesks.{all_desks, desk_turn, left_at, own_are}
use Rattle.exam_views.proofs.own_source.show_desks.Goals as goal

pub desk-own-requires-clause-known : goal.desk-own-requires-clause-known
desk-own-requires-clause-known c =
    let office : State = record { relations = relations_of c.args.facts.now; seats = c.args.seats.now.entries } in
    (left_at office c.args.number c.loop-own.own-index c.loop-own.sessions _ c.own-item.result
    (own_are office c.args.number) c.loop-own.invariant (omega (arith, c.loop-own.auto, c.loop-own-test.true))).0

pub desk-own-requires-clause-hall : goal.desk-own-requires-clause-hall
desk-own-requires-clause-hall c =
    let office : State = record { relations = relations_of c.args.facts.now; seats = c.args.seats.now.entries } in
    (left_at office c.args.number c.loop-own.own-index c.loop-own.sessions _ c.own-item.result
    (own_are office c.args.number) c.loop-own.invariant (omega (arith, c.loop-own.auto, c.loop-own-test.true))).1

pub loop-own-preserved : goal.loop-own-preserved
loop-own-preserved c =
    let office : State = record { relations = relations_of c.args.facts.now; seats = c.args.seats.now.entries } in
    desk_turn office c.args.number c.loop-own.own-index c.loop-own.sessions _ c.own-item.result c.desk-own.result
    (own_are office c.args.number) c.loop-own.invariant
    (omega (arith, c.loop-own.auto, c.loop-own-test.true)) c.desk-own.ensures

pub returns : goal.returns
returns c = all_desks c.loop-own.own-index c.loop-own.sessions _ c.loop-own.invariant
    (omega (arith, c.loop-own.auto, c.loop-own-test.false))
