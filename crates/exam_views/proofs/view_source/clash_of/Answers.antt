use Rattle.std.proofs.Common.{ap, is_some, ◌∙◌}
use Rattle.exam_rules.specs.Relations.{relations_of}
use Rattle.exam_commands.proofs.Members.{clash_sits}
use Rattle.exam_views.proofs.view_source.clash_of.Goals as goal

pub unwrap-requires : goal.unwrap-requires
unwrap-requires c = ap is_some c.sitting_by_entries.ensures
    ∙ clash_sits (relations_of c.args.facts.now) c.args.session.now c.args.pair c.requires
