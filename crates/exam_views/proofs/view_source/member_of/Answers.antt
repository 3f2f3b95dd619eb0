use Rattle.std.proofs.Common.{ap, ◌∙◌, is_some}
use Rattle.exam_rules.specs.Relations.{relations_of}
use Rattle.exam_commands.proofs.Members.{copied_some, member_known, member_sits, member_ends}
use Rattle.exam_views.proofs.view_source.member_of.Goals as goal

pub unwrap-candidate-requires : goal.unwrap-candidate-requires
unwrap-candidate-requires c =
    copied_some c.get.result
    (ap is_some c.get.ensures.value
    ∙ member_known (relations_of c.args.facts.now) c.args.session.now c.args.number c.requires.member)

pub unwrap-requires : goal.unwrap-requires
unwrap-requires c = ap is_some c.sitting_among.ensures
    ∙ member_sits (relations_of c.args.facts.now) c.args.session.now c.args.number c.requires.member

pub unwrap-requires-2 : goal.unwrap-requires-2
unwrap-requires-2 c =
    ap is_some c.finish_by_entries.ensures
    ∙ member_ends (relations_of c.args.facts.now) c.args.session.now c.args.number c.requires.known c.requires.member
