-- The connection is asked first, which changes nothing, so what is committed is committed from the state at the start.
use Rattle.exam_tables.proofs.Words.{both_ways, state, HasCleanDisk, survives_then, Becomes, all_saved}
use Rattle.std.proofs.Common.{◌≡◌, IsTrue, Err, arith, rules}
use Rattle.exam_tables.proofs.Asking.{asks_left}
use Rattle.exam_tables.proofs.Committing.{reads_commit, then_commits}
use Rattle.exam_tables.proofs.Undoing.{unasked, written_later}
use Rattle.exam_tables.proofs.writing.save_changes.Goals as goal

pub returns-clause-made : goal.returns-clause-made
returns-clause-made g c =
    then_commits (state g.S.Store c.args.conn.now) (state g.S.Store c.ask_nothing.new.conn)
    (state g.S.Store c.commit_changes.new.conn) c.commit_changes.result (Becomes (all_saved c.args.changes.now))
    c.in_ok-ask_nothing.ensures.ok c.ask_nothing.ensures.survives c.commit_changes.ensures.made

pub returns-clause-failed : goal.returns-clause-failed
returns-clause-failed g c = λ ended clean ours.
    let old = state g.S.Store c.args.conn.now in
    let mid = state g.S.Store c.ask_nothing.new.conn in
    let new = state g.S.Store c.commit_changes.new.conn in
    let after = c.commit_changes.ensures.made.survives in
    let clean_mid : HasCleanDisk mid = omega (arith, after.clean, clean) in
    written_later (all_saved c.args.changes.now) old mid new c.ask_nothing.ensures.survives clean_mid after.counts
    (c.in_ok-ask_nothing.ensures.ok clean_mid) ours c.commit_changes.result (c.commit_changes.ensures.failed clean)

pub returns-clause-shut : goal.returns-clause-shut
returns-clause-shut g c = λ shut.
    let old = state g.S.Store c.args.conn.now in
    let mid = state g.S.Store c.ask_nothing.new.conn in
    let new = state g.S.Store c.commit_changes.new.conn in
    let after = c.commit_changes.ensures.made.survives in
    survives_then old mid new _ _ _ (λ _ trees none. none)
    (λ clean trees may. absurd
    (both_ways _ shut (c.in_ok-ask_nothing.ensures.ok (omega (arith, after.clean))).0.was_open))
    c.ask_nothing.ensures.survives after

-- where no statement can be run

pub returns-in_err-ask_nothing-clause-made : goal.returns-in_err-ask_nothing-clause-made
returns-in_err-ask_nothing-clause-made g c =
    let old = state g.S.Store c.args.conn.now in
    let new = state g.S.Store c.ask_nothing.new.conn in
    let e = c.in_err-ask_nothing.field-0.0 in
    let is : c.from_residual.result ≡ Err e = search rules in
    let settled : IsTrue old.is_open → old.now ≡ old.committed = search rules in
    rw is (reads_commit old new e (Becomes (all_saved c.args.changes.now)) settled
    (λ clean. asks_left old new e (c.in_err-ask_nothing.ensures.failed clean)) c.ask_nothing.ensures.survives)

pub returns-in_err-ask_nothing-clause-failed : goal.returns-in_err-ask_nothing-clause-failed
returns-in_err-ask_nothing-clause-failed g c = λ ended clean ours.
    let old = state g.S.Store c.args.conn.now in
    let new = state g.S.Store c.ask_nothing.new.conn in
    let e = c.in_err-ask_nothing.field-0.0 in
    let is : c.from_residual.result ≡ Err e = search rules in
    rw is (unasked _ old new e (c.in_err-ask_nothing.ensures.failed clean))
