use Rattle.sqlite.specs.Held.{state}
use Rattle.exam_tables.proofs.Committing.{commits_weaker}
use Rattle.exam_store.proofs.Failing.{fails_to_save}
use Rattle.exam_store.proofs.Rekeeping.{rekeeps}
use Rattle.exam_store.proofs.saving.save.Goals as goal

pub returns-clause-made : goal.returns-clause-made
returns-clause-made g c =
    let draft = c.args.draft.now in
    commits_weaker (state g.S.Store c.args.conn.now)
    (state g.S.Store c.save_changes.new.conn) c.save_changes.result _ _
    (λ old new. rekeeps draft.before draft.after c.in_ok-changes.changes old new c.in_ok-changes.ensures.turns)
    c.save_changes.ensures.made

pub returns-clause-failed : goal.returns-clause-failed
returns-clause-failed g c = λ ended clean ours.
    let draft = c.args.draft.now in
    let good = c.show_good.ensures in
    fails_to_save draft.before draft.after c.in_ok-changes.changes (state g.S.Store c.args.conn.now)
    (state g.S.Store c.save_changes.new.conn) c.in_ok-changes.ensures.turns
    good.before good.after good.before_rises.seats good.after_rises.seats c.save_changes.result
    (c.save_changes.ensures.failed ended clean ours)
