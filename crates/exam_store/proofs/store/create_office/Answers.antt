-- A blank database gets the tables of the empty office in one transaction. Any other one is opened as it is, and only
-- read.
use Rattle.std.proofs.Common.{◌≡◌, Err, rules}
use Rattle.sqlite.specs.Held.{state}
use Rattle.exam_tables.specs.Versions.{IsBlank}
use Rattle.sqlite.proofs.StateLemmas.{survives_weaker}
use Rattle.exam_store.proofs.Marking.{opens_as}
use Rattle.exam_store.proofs.Rekeeping.{keeps_empty}
use Rattle.exam_store.proofs.store.create_office.Goals as goal

pub returns-clause-found : goal.returns-clause-found
returns-clause-found g c =
    let blank : IsBlank (state g.S.Store c.args.conn.now).now = search rules in
    λ there. absurd (there blank)

pub returns-clause-kept : goal.returns-clause-kept
returns-clause-kept g c =
    let blank : IsBlank (state g.S.Store c.args.conn.now).now = search rules in
    λ clean ours. rw c.empty.ensures (keeps_empty _ ((c.in_ok-save_empty.ensures.made.turned clean).0 blank))

pub returns-in_err-save_empty-clause-told : goal.returns-in_err-save_empty-clause-told
returns-in_err-save_empty-clause-told g c =
    let is : c.from_residual.result ≡ Err c.in_err-save_empty.field-0.0 = search rules in
    rw is (opens_as c.in_err-save_empty.field-0.0 c.in_err-save_empty.ensures.told)

pub returns-clause-made : goal.returns-clause-made
returns-clause-made g c = λ blank.
    let old = state g.S.Store c.args.conn.now in
    let new = state g.S.Store c.save_empty.new.conn in
    let made = c.in_ok-save_empty.ensures.made in
    record {
      turned = λ clean. let it = made.turned clean in (keeps_empty _ (it.0 blank), it.1, it.2);
      same = made.same;
      was_open = made.was_open;
      settled = made.settled;
      survives = survives_weaker old new _ _ (λ clean trees it. (it.0, keeps_empty _ (it.1 blank), it.2)) made.survives;
    }

pub returns-in_err-save_empty-clause-made : goal.returns-in_err-save_empty-clause-made
returns-in_err-save_empty-clause-made g c = λ blank.
    let old = state g.S.Store c.args.conn.now in
    let new = state g.S.Store c.save_empty.new.conn in
    let made = c.in_err-save_empty.ensures.made in
    let is : c.from_residual.result ≡ Err c.in_err-save_empty.field-0.0 = search rules in
    rw is (record {
      turned = λ clean. tt;
      same = made.same;
      was_open = made.was_open;
      settled = λ clean. tt;
      survives = survives_weaker old new _ _ (λ clean trees it. (it.0, keeps_empty _ (it.1 blank), it.2)) made.survives;
    })
