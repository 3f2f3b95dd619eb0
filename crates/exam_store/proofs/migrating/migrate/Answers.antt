-- What was judged is what is saved, since judging only reads. The rows are those of before with the table that was
-- missing and the number of the newest version, in one transaction.
use Rattle.std.proofs.Common.{◌≡◌, ◌≢◌, IsTrue, Ok, Err, true, false, inl, inr, refl, arith, subst, rules}
use Rattle.std.proofs.lemmas.Bool.{both_ways}
use Rattle.sqlite.specs.State.{HasCleanDisk}
use Rattle.sqlite.specs.Held.{state}
use Rattle.exam_types.specs.declared.refusal.Refusal.TheVariants.{BadStore, Store}
use Rattle.exam_sql.specs.Texts.{held_texts}
use Rattle.exam_tables.specs.Versions.{Widens, version}
use Rattle.exam_tables.proofs.Committing.{commits_at, commits_err, commits_ok, then_commits, unchanged_commits}
use Rattle.exam_tables.proofs.Leaving.{both_survive}
use Rattle.exam_tables.proofs.Refusing.{part_failed}
use Rattle.exam_store.specs.Found.{HoldsGood, Migrates}
use Rattle.exam_store.proofs.Marking.{made_of, older, some_understood, still_made}
use Rattle.exam_store.proofs.Newest.{migrates, newest_alone, not_made}
use Rattle.exam_store.proofs.migrating.migrate.Goals as goal

-- brought to the newest version

pub returns-clause-made : goal.returns-clause-made
returns-clause-made g c =
    let old = state g.S.Store c.args.conn.now in
    let mid = state g.S.Store c.judged_version.new.conn in
    let new = state g.S.Store c.save_widened.new.conn in
    let v = c.in_ok-version.version.number in
    let other : v ≢ version = search rules in
    let made = c.in_ok-save_widened.ensures.made in
    commits_ok old new tt (v, version) Migrates
    (commits_at old new (Ok tt) Widens Migrates
    (λ clean db. migrates old.now db v (older v c.in_ok-version.ensures.known.0 other)
    (c.in_ok-version.ensures.judges.rows (omega (arith, made.survives.clean, clean))))
    (then_commits old mid new
    (Ok tt) Widens c.in_ok-version.ensures.judges.left c.judged_version.ensures.judges.survives made))

pub returns-in_err-save_widened-clause-made : goal.returns-in_err-save_widened-clause-made
returns-in_err-save_widened-clause-made g c =
    let old = state g.S.Store c.args.conn.now in
    let mid = state g.S.Store c.judged_version.new.conn in
    let new = state g.S.Store c.save_widened.new.conn in
    let v = c.in_ok-version.version.number in
    let other : v ≢ version = search rules in
    let made = c.in_err-save_widened.ensures.made in
    let e = c.in_err-save_widened.field-0.0 in
    let is : c.from_residual-in_err-save_widened.result ≡ Err e = search rules in
    rw is (commits_err old new e e Migrates
    (commits_at old new (Err e) Widens Migrates
    (λ clean db. migrates old.now db v (older v c.in_ok-version.ensures.known.0 other)
    (c.in_ok-version.ensures.judges.rows (omega (arith, made.survives.clean, clean))))
    (then_commits old mid new
    (Err e) Widens c.in_ok-version.ensures.judges.left c.judged_version.ensures.judges.survives made)))

pub returns-in_err-save_widened-clause-refused : goal.returns-in_err-save_widened-clause-refused
returns-in_err-save_widened-clause-refused g c = λ clean.
    let old = state g.S.Store c.args.conn.now in
    let mid = state g.S.Store c.judged_version.new.conn in
    let new = state g.S.Store c.save_widened.new.conn in
    let e = c.in_err-save_widened.field-0.0 in
    let is : c.from_residual-in_err-save_widened.result ≡ Err e = search rules in
    let s = c.in_err-save_widened.ensures.made.survives in
    let clean_mid : HasCleanDisk mid = omega (arith, s.clean, clean) in
    let same = c.in_ok-version.ensures.judges.left clean_mid in
    let calm : old.in_transaction ≡ false = search rules in
    let known = c.in_ok-version.ensures.judges.understood clean_mid in
    let judged = c.judged_version.ensures.judges.survives in
    rw is (record {
      refusal = inr (inr (
        (known.0, some_understood old.now held_texts _ known.1),
        λ made. not_made old mid new e judged clean_mid s.counts calm same
            (c.in_err-save_widened.ensures.failed clean (made.0, still_made old mid made.0 same made.1)),
      ));
      unlisted = λ calm none. absurd (both_ways _ none c.in_ok-version.ensures.listed);
      still = λ bad. both_survive old mid new judged (c.in_err-save_widened.ensures.still clean bad);
    })

-- no office of any version is there

pub returns-in_err-version-clause-refused : goal.returns-in_err-version-clause-refused
returns-in_err-version-clause-refused g c = λ clean.
    let it = c.in_err-version.ensures in
    let is : c.from_residual.result ≡ Err c.in_err-version.field-0.0 = search rules in
    rw is (record {
      refusal = inr (inl (part_failed c.in_err-version.field-0.0 (λ told. told)
          (λ none v known all was. none all (made_of v (state g.S.Store c.args.conn.now).now all was) v known was)
          (it.judges.bad clean)));
      unlisted = λ calm none. it.unlisted clean none;
      still = λ bad. c.judged_version.ensures.judges.survives;
    })

-- a transaction is open

pub returns-then-not-is_autocommit-clause-refused : goal.returns-then-not-is_autocommit-clause-refused
returns-then-not-is_autocommit-clause-refused g c = λ clean.
    let open_already : c.args.conn.now.in_transaction ≡ true = search rules in
    record {
      refusal = inl (refl, search rules);
      unlisted = λ calm none. absurd (both_ways _ calm open_already);
      still = λ bad. let same : Store ≡ BadStore = bad in absurd cc;
    }

-- an office that was there

pub returns-clause-found : goal.returns-clause-found
returns-clause-found g c = λ clean.
    let early : HasCleanDisk (state g.S.Store c.judged_version.new.conn) =
    omega (arith, c.in_ok-save_widened.ensures.made.survives.clean, clean) in
    let judges = c.in_ok-version.ensures.judges in
    record { listed = c.in_ok-version.ensures.listed; understood = judges.understood early; good = judges.rows early }

pub returns-then-version-clause-found : goal.returns-then-version-clause-found
returns-then-version-clause-found g c = λ clean.
    let judges = c.in_ok-version.ensures.judges in
    record { listed = c.in_ok-version.ensures.listed; understood = judges.understood clean; good = judges.rows clean }

-- of the newest version already

pub returns-then-version-clause-made : goal.returns-then-version-clause-made
returns-then-version-clause-made g c =
    let old = state g.S.Store c.args.conn.now in
    let new = c.judged_version.new.conn in
    let newest : c.in_ok-version.version.number ≡ version = search rules in
    let settled : IsTrue old.is_open → old.now ≡ old.committed = search rules in
    unchanged_commits old (state g.S.Store new)
    (c.in_ok-version.version.number, version) Migrates settled c.in_ok-version.ensures.judges.left
    (λ clean. newest_alone old.now (state g.S.Store new).now
    (λ all was. subst (λ v. HoldsGood v old.now all) newest (c.in_ok-version.ensures.judges.rows clean all was))
    (c.in_ok-version.ensures.judges.left clean).0.now_is)
    (λ trees is may. g.met.S.Store.settled new.store trees is may)
    c.judged_version.ensures.judges.survives
