-- The names are those of tables or no query is asked. Where they are, the one row of `office` has the version; a
-- version that no record has is none.
use Rattle.exam_tables.proofs.Words.{IfErr-weaker, state, shown_unchanged, failed_unchanged}
use Rattle.std.proofs.Common.{◌≡◌, Err, [], arith, rules, inl, inr, refl, sym, ◌∙◌}
use Rattle.std.proofs.lemmas.Result.{IfOk-weaker}
use Rattle.exam_sql.specs.Texts.{load_office}
use Rattle.exam_sql.proofs.Loads.{load_fails, shown_by}
use Rattle.exam_sql.proofs.OfOffice as office
use Rattle.exam_tables.proofs.Asking.{asks_as_load, asks_left, asks_not_bad, never_unlisted, ok_listed, unlisted_none}
use Rattle.exam_tables.proofs.Leaving.{bad_unchanged, query_survives, reads_only, shown_understood, understood_still}
use Rattle.exam_tables.proofs.Leaving.{fails_to_load}
use Rattle.exam_tables.proofs.Versioned.{version_held, version_shown}
use Rattle.exam_tables.proofs.schema.version_of.Goals as goal

pub returns-clause-reads : goal.returns-clause-reads
returns-clause-reads g c =
    let old = state g.S.Store c.args.conn.now in
    let new = state g.S.Store c.all_rows.new.conn in
    let rows = c.in_ok-rows.rows.items in
    record {
      rows = λ clean. IfOk-weaker c.version_in.result _ _ (λ version is all was.
          let shown = shown_by (office.loads was.has_marks) old new rows all was.contains
          (c.in_ok-rows.ensures.shown clean) in
          version_held version.number (all 0) rows shown.0 (sym c.as_slice.ensures.value ∙ is)) c.version_in.ensures.ok;
      bad = λ clean. IfErr-weaker c.version_in.result _ _ (λ e why. inr (inr (
        why.0,
        λ all was version one held.
            let shown = shown_by (office.loads was.has_marks) old new rows all was.contains
            (c.in_ok-rows.ensures.shown clean) in
            why.1 version one (c.as_slice.ensures.value ∙ version_shown version (all 0) rows shown.0 held),
      ))) c.version_in.ensures.bad;
      left = λ clean. reads_only old new c.version_in.result
          (shown_unchanged load_office office.is_query [] old new rows (c.in_ok-rows.ensures.shown clean));
      unchanged = λ clean. IfErr-weaker c.version_in.result _ _
          (λ e why bad. shown_unchanged load_office office.is_query [] old new rows (c.in_ok-rows.ensures.shown clean))
          c.version_in.ensures.bad;
      understood = λ clean. understood_still c.version_in.result
          (shown_understood load_office old new rows (c.in_ok-rows.ensures.shown clean));
      survives = query_survives load_office office.is_query old new c.all_rows.ensures.survives;
      early = λ clean. omega (arith, c.all_rows.ensures.survives.clean, clean);
      told = IfErr-weaker c.version_in.result _ _ (λ e why. rw why.0 refl) c.version_in.ensures.bad;
    }

pub returns-in_err-rows-clause-reads : goal.returns-in_err-rows-clause-reads
returns-in_err-rows-clause-reads g c =
    let is : c.from_residual-in_err-rows.result ≡ Err c.in_err-rows.field-0.0 = search rules in
    let old = state g.S.Store c.args.conn.now in
    let new = state g.S.Store c.all_rows.new.conn in
    rw is (record {
      rows = λ clean. tt;
      bad = λ clean. inr (inl
          (fails_to_load load_office (λ old new has_marks. load_fails (office.loads has_marks) old new) old new
          c.in_err-rows.field-0.0 (c.in_err-rows.ensures.failed clean)));
      left = λ clean. let it = c.in_err-rows.ensures.failed clean in failed_unchanged load_office [] old new it.0 it.2;
      unchanged = λ clean bad. let it = c.in_err-rows.ensures.failed clean in
          bad_unchanged load_office [] old new it.0 it.2 (sym it.1 ∙ bad);
      understood = λ clean. tt;
      survives = query_survives load_office office.is_query old new c.all_rows.ensures.survives;
      early = λ clean. omega (arith, c.all_rows.ensures.survives.clean, clean);
      told = c.in_err-rows.ensures.told;
    })

-- ---- the names of the tables

pub returns-clause-listed : goal.returns-clause-listed
returns-clause-listed g c = ok_listed c.version_in.result (sym c.lists_tables.ensures ∙ c.if-not-lists_tables.false)

pub returns-clause-unlisted : goal.returns-clause-unlisted
returns-clause-unlisted g c =
    λ clean none. never_unlisted _ c.version_in.result (sym c.lists_tables.ensures ∙ c.if-not-lists_tables.false) none

pub returns-in_err-rows-clause-unlisted : goal.returns-in_err-rows-clause-unlisted
returns-in_err-rows-clause-unlisted g c =
    λ clean none. never_unlisted _ c.from_residual-in_err-rows.result
    (sym c.lists_tables.ensures ∙ c.if-not-lists_tables.false) none

pub returns-then-not-lists_tables-clause-unlisted : goal.returns-then-not-lists_tables-clause-unlisted
returns-then-not-lists_tables-clause-unlisted g c = λ clean none. inl (refl, c.in_ok-ask_nothing.ensures.ok clean)

pub returns-then-not-lists_tables-clause-reads : goal.returns-then-not-lists_tables-clause-reads
returns-then-not-lists_tables-clause-reads g c = record {
  rows = λ clean. tt;
  bad = λ clean. inr (inr (
    refl,
    λ all was version one held.
        unlisted_none (state g.S.Store c.args.conn.now).now all
        (sym c.lists_tables.ensures ∙ c.if-not-lists_tables.true) was,
  ));
  left = λ clean. inl (c.in_ok-ask_nothing.ensures.ok clean);
  unchanged = λ clean bad. c.in_ok-ask_nothing.ensures.ok clean;
  understood = λ clean. tt;
  survives = c.ask_nothing.ensures.survives;
  early = λ clean. omega (arith, c.ask_nothing.ensures.survives.clean, clean);
  told = refl;
}

-- where no statement can be run

pub returns-in_err-ask_nothing-clause-unlisted : goal.returns-in_err-ask_nothing-clause-unlisted
returns-in_err-ask_nothing-clause-unlisted g c = λ clean none.
    let is : c.from_residual.result ≡ Err c.in_err-ask_nothing.field-0.0 = search rules in
    rw is (inr (c.in_err-ask_nothing.ensures.failed clean))

pub returns-in_err-ask_nothing-clause-reads : goal.returns-in_err-ask_nothing-clause-reads
returns-in_err-ask_nothing-clause-reads g c =
    let is : c.from_residual.result ≡ Err c.in_err-ask_nothing.field-0.0 = search rules in
    let old = state g.S.Store c.args.conn.now in
    let new = state g.S.Store c.ask_nothing.new.conn in
    rw is (record {
      rows = λ clean. tt;
      bad = λ clean. inr (inl
          (asks_as_load load_office old new c.in_err-ask_nothing.field-0.0
          (c.in_err-ask_nothing.ensures.failed clean)));
      left = λ clean. asks_left old new c.in_err-ask_nothing.field-0.0 (c.in_err-ask_nothing.ensures.failed clean);
      unchanged = λ clean bad. absurd
          (asks_not_bad old new c.in_err-ask_nothing.field-0.0 (c.in_err-ask_nothing.ensures.failed clean) bad);
      understood = λ clean. tt;
      survives = c.ask_nothing.ensures.survives;
      early = λ clean. omega (arith, c.ask_nothing.ensures.survives.clean, clean);
      told = c.in_err-ask_nothing.ensures.told;
    })
