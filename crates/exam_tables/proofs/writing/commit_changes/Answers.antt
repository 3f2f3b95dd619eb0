-- What was written in the transaction becomes what is committed, all of it or none. A write that fails ends the
-- transaction without a commit.
use Rattle.exam_tables.proofs.Words.{state, HasCleanDisk, survives_begin, Becomes, all_saved, Commits, FailsToWrite}
use Rattle.std.proofs.Common.{◌≡◌, IsTrue, Err, IfErr, arith, refl, sym, subst, rules}
use Rattle.exam_tables.specs.Inside.{RefusesOne}
use Rattle.exam_tables.proofs.Committing.{committed_by}
use Rattle.exam_tables.proofs.Undoing.{uncommitted, undone}
use Rattle.exam_tables.proofs.writing.commit_changes.Goals as goal

pub returns-clause-made : goal.returns-clause-made
returns-clause-made g c =
    let old = state g.S.Store c.args.conn.now in
    let last = c.write_changes.new.tx.conn.now in
    let end = c.commit.new.tx.0 in
    let change = all_saved c.args.changes.now in
    let made = rw c.transaction-tx.ensures.begun at c.in_ok-write_changes.ensures.made in
    let settled : IsTrue old.is_open → old.now ≡ old.committed = search rules in
    let same : end ≡ c.conn-2-1.given.0 = search rules in
    subst (λ h. Commits old (state g.S.Store h) c.commit.result (Becomes change)) same
    (committed_by old (state g.S.Store last) (state g.S.Store end) c.commit.result (Becomes change) settled
    (λ clean. made.made clean refl)
    (λ clean. let kept = made.kept clean in record { was_open = kept.was_open; committed = kept.committed })
    (survives_begin g.S.Store c.args.conn.now (state g.S.Store last) _ made.survives) c.commit.ensures.ok
    c.commit.ensures.failed c.commit.ensures.survives
    (λ trees is may. g.met.S.Store.settled end.store trees is may))

pub returns-clause-failed : goal.returns-clause-failed
returns-clause-failed g c = λ clean ours.
    let old = state g.S.Store c.args.conn.now in
    let last = state g.S.Store c.write_changes.new.tx.conn.now in
    let end = c.commit.new.tx.0 in
    let writes = all_saved c.args.changes.now in
    let made = rw c.transaction-tx.ensures.begun at c.in_ok-write_changes.ensures.made in
    let same : end ≡ c.conn-2-1.given.0 = search rules in
    let clean_end : HasCleanDisk (state g.S.Store end) =
    subst (λ h. HasCleanDisk (state g.S.Store h)) (sym same) clean in
    let clean_last : HasCleanDisk last = omega (arith, c.commit.ensures.survives.clean, clean_end) in
    let going = (made.made clean_last refl).1 in
    subst (λ h. IfErr c.commit.result (FailsToWrite writes old (state g.S.Store h))) same
    (uncommitted (RefusesOne writes old.step_limit old.now) old last (state g.S.Store end)
    (survives_begin g.S.Store c.args.conn.now last _ made.survives) c.commit.ensures.survives clean_last going
    c.commit.result (c.commit.ensures.failed clean_end))

pub returns-in_err-write_changes-clause-failed : goal.returns-in_err-write_changes-clause-failed
returns-in_err-write_changes-clause-failed g c = λ clean ours.
    let old = state g.S.Store c.args.conn.now in
    let last = state g.S.Store c.write_changes.new.tx.conn.now in
    let end = c.drop-tx.new.self.0 in
    let writes = all_saved c.args.changes.now in
    let made = rw c.transaction-tx.ensures.begun at c.in_err-write_changes.ensures.made in
    let e = c.in_err-write_changes.field-0.0 in
    let is : c.from_residual.result ≡ Err e = search rules in
    let same : end ≡ c.conn-1.given.0 = search rules in
    let clean_end : HasCleanDisk (state g.S.Store end) =
    subst (λ h. HasCleanDisk (state g.S.Store h)) (sym same) clean in
    let clean_last : HasCleanDisk last = omega (arith, c.drop-tx.ensures.survives.clean, clean_end) in
    rw is (subst (λ h. FailsToWrite writes old (state g.S.Store h) e) same
    (undone (RefusesOne writes old.step_limit old.now) old last
    (state g.S.Store end) e c.drop-tx.ensures.survives.counts (made.failed clean_last refl ours)))
