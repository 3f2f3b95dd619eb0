use Rattle.std.proofs.Common.{◌≡◌, ℕ, Bool, List, Some, cond, map, ap, sym, ◌∙◌}
use Rattle.std.specs.List.{find}
use Rattle.exam_rules.specs.declared.rows.Appeal.{Appeal}
use Rattle.exam_rules.specs.declared.rows.Status.{Status}
use Rattle.exam_rules.specs.Relations.{Code, appeal_cmp, put_row}
use Rattle.exam_rules.specs.Tables as table
use Rattle.exam_commands.specs.Appeals.{superseded}
use Rattle.exam_commands.specs.Decisions.{giving_way, is_earlier}
use Rattle.exam_commands.proofs.Superseding.{none_given, one_given}
use Rattle.exam_changes.proofs.deciding.superseded_grant.Goals as goal

pub returns-in_ok-with_status-in-Some-clause-ok : goal.returns-in_ok-with_status-in-Some-clause-ok
returns-in_ok-with_status-in-Some-clause-ok c =
    let rows : List ((ℕ × Code) × Appeal) = c.args.facts.now.appeals.entries in
    let a : Appeal = c.args.appeal.now in
    let earlier : Appeal = c.in-Some.earlier.now in
    let found : find (is_earlier c.args.number a.session a.subject) rows ≡ Some (c.in-Some.key.now, earlier) =
    sym c.in-Some.ensures in
    let put : c.in_ok-with_status-in-Some.field-0 ≡ record earlier { status = superseded earlier.status } =
    c.in_ok-with_status-in-Some.ensures.ok
    ∙ ap (λ (status : Status). record earlier { status = status }) c.in_ok-status-in-Some.ensures.ok in
    ap (λ (row : Appeal). put_row appeal_cmp rows c.in-Some.key.now row) put
    ∙ sym (one_given c.args.number a.session a.subject rows (c.in-Some.key.now, earlier)
    (c.show_order.ensures table.Appeals) c.requires found)
    ∙ ap (λ (b : Bool). cond b (map (giving_way c.args.number a.session a.subject) rows) rows)
    (sym c.if-not-is_grant.false ∙ c.is_grant.ensures)

pub returns-in-None-clause-ok : goal.returns-in-None-clause-ok
returns-in-None-clause-ok c =
    let rows : List ((ℕ × Code) × Appeal) = c.args.facts.now.appeals.entries in
    let a : Appeal = c.args.appeal.now in
    sym (none_given c.args.number a.session a.subject rows (sym c.in-None.ensures))
    ∙ ap (λ (b : Bool). cond b (map (giving_way c.args.number a.session a.subject) rows) rows)
    (sym c.if-not-is_grant.false ∙ c.is_grant.ensures)
