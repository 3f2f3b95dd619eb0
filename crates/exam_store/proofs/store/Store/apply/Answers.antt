-- The draft takes the step before anything is saved. If saving fails it is taken back, so office and tables agree in
-- both cases.
use Rattle.std.proofs.Common.{◌≡◌, Ok, false, rules, subst, sym}
use Rattle.sqlite.specs.Held.{state}
use Rattle.exam_commands.specs.State.{State}
use Rattle.exam_commands.specs.Steps.{Step}
use Rattle.exam_laws.proofs.KeptRows.{step_keeps}
use Rattle.exam_tables.proofs.Committing.{commits_weaker, commits_ok, commits_err}
use Rattle.exam_store.proofs.Applying.{draft_turns, draft_fails}
use Rattle.exam_store.proofs.store.Store.apply.Goals as goal

pub returns-in-Ok-save-clause-made : goal.returns-in-Ok-save-clause-made
returns-in-Ok-save-clause-made g c =
    let old = state g.S.Store c.self.inside.conn in
    let new = state g.S.Store c.save.new.conn in
    let turns = draft_turns c.args.command.now c.args.today c.in-Ok.draft _ c.self.inside.office c.in-Ok.ensures.before
    c.replace-office.ensures.value c.in-Ok.ensures.step in
    rw (← c.self.view_is)
    (commits_weaker old new _ _ _ turns
    (commits_ok old new tt c.finish-office.result.1 _ c.in-Ok-save.ensures.made))

pub returns-in-Err-save-clause-made : goal.returns-in-Err-save-clause-made
returns-in-Err-save-clause-made g c =
    let old = state g.S.Store c.self.inside.conn in
    let new = state g.S.Store c.save.new.conn in
    let turns = draft_turns c.args.command.now c.args.today c.in-Ok.draft _ c.self.inside.office c.in-Ok.ensures.before
    c.replace-office.ensures.value c.in-Ok.ensures.step in
    rw (← c.self.view_is) (commits_weaker old new _ _ _ turns (commits_err old new _ _ _ c.in-Err-save.ensures.made))

pub returns-in-Err-save-clause-refusal : goal.returns-in-Err-save-clause-refusal
returns-in-Err-save-clause-refusal g c =
    let old = state g.S.Store c.self.inside.conn in
    let new = state g.S.Store c.save.new.conn in
    let fails = draft_fails c.args.command.now c.args.today c.in-Ok.draft _ c.self.inside.office c.in-Ok.ensures.before
    c.replace-office.ensures.value c.in-Ok.ensures.step in
    let ended : c.self.inside.conn.in_transaction ≡ false = search rules in
    rw (← c.self.view_is)
    (λ clean ours. fails old new c.in-Err-save.refusal (c.in-Err-save.ensures.failed ended clean ours))

pub save-requires : goal.save-requires
save-requires g c = λ good.
    let done = c.args.command.now in
    let draft = c.in-Ok.draft in
    let step = subst (λ (office : State). Step done c.args.today office (Ok draft.reply) draft.after)
    (sym c.in-Ok.ensures.before) c.in-Ok.ensures.step in
    (step_keeps done c.args.today draft.before draft.reply draft.after good step).0
