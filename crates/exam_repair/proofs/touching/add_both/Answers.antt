use Rattle.std.proofs.Common.{◌||◌, ap, ◌∙◌}
use Rattle.std.specs.BTreeSet.{contains}
use Rattle.exam_rules.specs.Relations.{code_cmp, relations_of}
use Rattle.exam_rules.specs.Sessions.{is_paper_of}
use Rattle.exam_commands.specs.Touched.{names}
use Rattle.exam_repair.proofs.Gathering.{or_same}
use Rattle.exam_commands.proofs.Repairing.{on_ok}
use Rattle.exam_repair.proofs.touching.add_both.Goals as goal

pub returns-clause-ok : goal.returns-clause-ok
returns-clause-ok c = on_ok c.add_paper.result _ _ c.add_paper.ensures.ok (λ added s.
    let r = relations_of c.args.facts.now in
    added s ∙ ap (λ b. is_paper_of r s c.args.paper.now || b) (c.in_ok-add_known.ensures.ok s)
    ∙ or_same (is_paper_of r s c.args.paper.now) (names r c.args.session.now s) (contains code_cmp c.args.codes.now s))
