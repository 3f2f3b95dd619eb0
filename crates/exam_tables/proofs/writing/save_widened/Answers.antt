-- What the version lacks is made and its number is set in one transaction. The rows of all other tables are not named
-- in it.
use Rattle.exam_tables.proofs.Words.{IfErr-weaker, HasCleanDisk, Survives, state, survives_begin, Commits, FailsToMake}
use Rattle.std.proofs.Common.{◌≡◌, [], IsTrue, IsSome, Err, IfErr, arith, inl, refl, sym, subst, rules}
use Rattle.exam_tables.specs.Versions.{Widens}
use Rattle.exam_tables.proofs.Committing.{committed_by, undone_by}
use Rattle.exam_tables.proofs.Creating.{not_created}
use Rattle.exam_tables.proofs.Marked.{older_of}
use Rattle.exam_tables.proofs.Leaving.{both_survive}
use Rattle.exam_tables.proofs.Undoing.{not_bad, uncommitted, undone}
use Rattle.exam_tables.proofs.writing.save_widened.Goals as goal

pub returns-clause-made : goal.returns-clause-made
returns-clause-made g c =
    let old = state g.S.Store c.args.conn.now in
    let last = c.widen_tables.new.tx.conn.now in
    let end = c.commit.new.tx.0 in
    let made = rw c.transaction-tx.ensures.begun at c.in_ok-widen_tables.ensures.made in
    let settled : IsTrue old.is_open → old.now ≡ old.committed = search rules in
    let same : end ≡ c.conn-2-1.given.0 = search rules in
    subst (λ h. Commits old (state g.S.Store h) c.commit.result Widens) same
    (committed_by old (state g.S.Store last) (state g.S.Store end) c.commit.result Widens settled
    (λ clean. (
      λ all was. ((made all).made clean refl).0
          (older_of old all c.has_marks-has_marks.result c.has_marks-has_marks.ensures c.show_rules.ensures was),
      ((made (λ tree. [])).made clean refl).1,
    ))
    (λ clean. let kept =
    (made (λ tree. [])).kept clean in record { was_open = kept.was_open; committed = kept.committed })
    (survives_begin g.S.Store c.args.conn.now (state g.S.Store last) _ (made (λ tree. [])).survives)
    c.commit.ensures.ok c.commit.ensures.failed c.commit.ensures.survives
    (λ trees is may. g.met.S.Store.settled end.store trees is may))

pub returns-clause-failed : goal.returns-clause-failed
returns-clause-failed g c = λ clean first.
    let old = state g.S.Store c.args.conn.now in
    let last = state g.S.Store c.widen_tables.new.tx.conn.now in
    let end = c.commit.new.tx.0 in
    let made = rw c.transaction-tx.ensures.begun at c.in_ok-widen_tables.ensures.made in
    let same : end ≡ c.conn-2-1.given.0 = search rules in
    let clean_end : HasCleanDisk (state g.S.Store end) =
    subst (λ h. HasCleanDisk (state g.S.Store h)) (sym same) clean in
    let clean_last : HasCleanDisk last = omega (arith, c.commit.ensures.survives.clean, clean_end) in
    let going = ((made (λ tree. [])).made clean_last refl).1 in
    not_created old (state g.S.Store c.conn-2-1.given.0) c.commit.result
    (subst (λ h. IfErr c.commit.result (FailsToMake old (state g.S.Store h))) same
    (uncommitted (IsSome old.step_limit) old last (state g.S.Store end)
    (survives_begin g.S.Store c.args.conn.now last _ (made (λ tree. [])).survives) c.commit.ensures.survives
    clean_last going c.commit.result (c.commit.ensures.failed clean_end)))

pub returns-in_err-widen_tables-clause-failed : goal.returns-in_err-widen_tables-clause-failed
returns-in_err-widen_tables-clause-failed g c = λ clean first.
    let old = state g.S.Store c.args.conn.now in
    let last = state g.S.Store c.widen_tables.new.tx.conn.now in
    let end = c.drop-tx.new.self.0 in
    let made = rw c.transaction-tx.ensures.begun at c.in_err-widen_tables.ensures.made in
    let e = c.in_err-widen_tables.field-0.0 in
    let is : c.from_residual.result ≡ Err e = search rules in
    let same : end ≡ c.conn-1.given.0 = search rules in
    let clean_end : HasCleanDisk (state g.S.Store end) =
    subst (λ h. HasCleanDisk (state g.S.Store h)) (sym same) clean in
    let clean_last : HasCleanDisk last = omega (arith, c.drop-tx.ensures.survives.clean, clean_end) in
    rw is (inl (subst (λ h. FailsToMake old (state g.S.Store h) e) same
    (undone (IsSome old.step_limit) old last (state g.S.Store end) e c.drop-tx.ensures.survives.counts
    ((made first.0).failed clean_last refl
    (older_of old first.0 c.has_marks-has_marks.result c.has_marks-has_marks.ensures c.show_rules.ensures
    first.1)))))

pub returns-in_err-widen_tables-clause-made : goal.returns-in_err-widen_tables-clause-made
returns-in_err-widen_tables-clause-made g c =
    let old = state g.S.Store c.args.conn.now in
    let last = state g.S.Store c.widen_tables.new.tx.conn.now in
    let end = c.drop-tx.new.self.0 in
    let made = rw c.transaction-tx.ensures.begun at c.in_err-widen_tables.ensures.made in
    let e = c.in_err-widen_tables.field-0.0 in
    let is : c.from_residual.result ≡ Err e = search rules in
    let same : end ≡ c.conn-1.given.0 = search rules in
    let settled : IsTrue old.is_open → old.now ≡ old.committed = search rules in
    rw is (subst (λ h. Commits old (state g.S.Store h) (Err e) Widens) same
    (undone_by old last (state g.S.Store end) e Widens settled
    (λ clean. let kept =
    (made (λ tree. [])).kept clean in record { was_open = kept.was_open; committed = kept.committed })
    (survives_begin g.S.Store c.args.conn.now last _ (made (λ tree. [])).survives) c.drop-tx.ensures.undone
    c.drop-tx.ensures.survives))

pub returns-in_err-widen_tables-clause-told : goal.returns-in_err-widen_tables-clause-told
returns-in_err-widen_tables-clause-told g c =
    let is : c.from_residual.result ≡ Err c.in_err-widen_tables.field-0.0 = search rules in
    rw is (c.in_err-widen_tables.ensures.made (λ tree. [])).told

-- refused as a bad store

pub returns-clause-still : goal.returns-clause-still
returns-clause-still g c = λ clean.
    let old = state g.S.Store c.args.conn.now in
    let last = state g.S.Store c.widen_tables.new.tx.conn.now in
    let end = c.commit.new.tx.0 in
    let made = rw c.transaction-tx.ensures.begun at c.in_ok-widen_tables.ensures.made in
    let same : end ≡ c.conn-2-1.given.0 = search rules in
    let clean_end : HasCleanDisk (state g.S.Store end) =
    subst (λ h. HasCleanDisk (state g.S.Store h)) (sym same) clean in
    let clean_last : HasCleanDisk last = omega (arith, c.commit.ensures.survives.clean, clean_end) in
    let going = ((made (λ tree. [])).made clean_last refl).1 in
    IfErr-weaker c.commit.result _ _
    (λ e fails bad. absurd (not_bad (IsSome old.step_limit) old (state g.S.Store end) e fails bad))
    (uncommitted (IsSome old.step_limit) old last (state g.S.Store end)
    (survives_begin g.S.Store c.args.conn.now last _ (made (λ tree. [])).survives) c.commit.ensures.survives
    clean_last going c.commit.result (c.commit.ensures.failed clean_end))

pub returns-in_err-widen_tables-clause-still : goal.returns-in_err-widen_tables-clause-still
returns-in_err-widen_tables-clause-still g c = λ clean.
    let old = state g.S.Store c.args.conn.now in
    let last = state g.S.Store c.widen_tables.new.tx.conn.now in
    let end = c.drop-tx.new.self.0 in
    let made = rw c.transaction-tx.ensures.begun at c.in_err-widen_tables.ensures.made in
    let e = c.in_err-widen_tables.field-0.0 in
    let is : c.from_residual.result ≡ Err e = search rules in
    let same : end ≡ c.conn-1.given.0 = search rules in
    rw is (λ bad. subst (λ h. Survives old (state g.S.Store h) (λ _. ⊥)) same
    (both_survive old last (state g.S.Store end)
    (survives_begin g.S.Store c.args.conn.now last _ (made (λ tree. [])).survives) c.drop-tx.ensures.survives))
