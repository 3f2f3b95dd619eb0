-- A member has a live paper, so there is a sitting paper and a finish. Each part is read as the rules say it.
use Rattle.std.proofs.Common.{◌≡◌, ◌∙◌, Some, ap, is_some, rules, sym}
use Rattle.exam_rules.specs.Relations.{relations_of}
use Rattle.exam_rules.specs.Sessions.{least_live_paper, sitting}
use Rattle.exam_commands.proofs.Members.{member_sits, member_ends}
use Rattle.exam_views.proofs.OwnEntered.{is_listed, least_of}
use Rattle.exam_views.proofs.OwnRows.{ends}
use Rattle.exam_views.proofs.own_source.deskless_session.Goals as goal

pub unwrap-sat-requires : goal.unwrap-sat-requires
unwrap-sat-requires c =
    let r = relations_of c.args.facts.now in
    let s = c.args.held.session in
    let papers = c.args.held.papers.items in
    let least : least_live_paper r s c.args.number ≡ Some c.index.result.now =
    least_of r s c.args.number papers c.requires.candidate c.requires.papers c.requires.member c.index.result.now
    ∙ ap Some (sym c.index.ensures) in
    ap is_some (c.sitting_beside.ensures least)
    ∙ member_sits r s c.args.number
    (is_listed r s c.args.number papers c.requires.candidate c.requires.papers c.requires.member)

pub unwrap-finish-requires : goal.unwrap-finish-requires
unwrap-finish-requires c =
    let r = relations_of c.args.facts.now in
    let s = c.args.held.session in
    let papers = c.args.held.papers.items in
    let least : least_live_paper r s c.args.number ≡ Some c.index.result.now =
    least_of r s c.args.number papers c.requires.candidate c.requires.papers c.requires.member c.index.result.now
    ∙ ap Some (sym c.index.ensures) in
    let sits : sitting r s c.args.number ≡ Some c.unwrap-sat.result =
    sym (c.sitting_beside.ensures least) ∙ search rules in
    ap is_some (c.finish_beside.ensures
    ∙ sym (ends r s c.args.number c.args.held.row.now
    (Some c.unwrap-sat.result) c.arrangement_in_force-arrangement.result c.requires.known sits
    c.arrangement_in_force-arrangement.ensures))
    ∙ member_ends r s c.args.number (ap is_some c.requires.known)
    (is_listed r s c.args.number papers c.requires.candidate c.requires.papers c.requires.member)
