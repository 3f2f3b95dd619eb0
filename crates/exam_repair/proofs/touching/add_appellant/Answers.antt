use Rattle.std.proofs.Common.{◌&&◌, ◌||◌, Bool, ap, ◌∙◌}
use Rattle.std.specs.BTreeSet.{contains}
use Rattle.exam_rules.specs.Relations.{Relations, code_cmp, relations_of, same_code}
use Rattle.exam_rules.specs.Sessions.{is_member}
use Rattle.exam_commands.specs.Appeals.{bears_mark}
use Rattle.exam_commands.specs.Touched.{ends_standing}
use Rattle.exam_repair.proofs.Gathering.{or_same}
use Rattle.exam_commands.proofs.Repairing.{on_ok}
use Rattle.exam_repair.proofs.touching.add_appellant.Goals as goal

pub returns-clause-ok : goal.returns-clause-ok
returns-clause-ok c = on_ok c.add_session.result _ _ c.add_session.ensures.ok (λ added s.
    let r : Relations = relations_of c.args.facts.now in
    let others : Bool = (bears_mark c.args.decision.now.outcome || ends_standing r c.args.decision.now
    c.args.appeal.now) && is_member r s c.args.decision.now.number in
    added s
    ∙ ap (λ b. same_code c.args.appeal.now.session s || b) (c.in_ok-add_others.ensures.ok s)
    ∙ or_same (same_code c.args.appeal.now.session s) others (contains code_cmp c.args.codes.now s))
