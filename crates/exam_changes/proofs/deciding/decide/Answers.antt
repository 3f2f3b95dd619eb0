-- A decision that is made already changes nothing. Otherwise the checks in order give the refusal of the definition; a
-- grant that is superseded is another appeal than the one that is decided, so both rows can be put and taken back.
use Rattle.std.proofs.Common.{◌≡◌, ℕ, Bool, Some, true, false, cond, OnOk, Option, ap, ap₂, sym, subst, ◌∙◌}
use Rattle.std.specs.Option.{option_map_or}
use Rattle.exam_rules.specs.declared.rows.Appeal.{Appeal}
use Rattle.exam_rules.specs.declared.rows.Status.{Status}
use Rattle.exam_rules.specs.Relations.{Code, Relations, appeal_cmp, has_row, relations_of}
use Rattle.exam_commands.specs.Appeals.{appeal_at, decided, is_open}
use Rattle.exam_commands.specs.Decisions.{with_decided, with_decision, with_outcome}
use Rattle.exam_commands.specs.Good.{may_bear}
use Rattle.exam_commands.proofs.Borne.{open_unborne, unborne}
use Rattle.exam_changes.specs.Undoing as undoing
use Rattle.exam_changes.proofs.DecidedRows.{open_first, rows_of_outcome}
use Rattle.exam_changes.proofs.deciding.decide.Goals as goal

pub returns-clause-ok : goal.returns-clause-ok
returns-clause-ok c =
    let r : Relations = relations_of c.args.facts.now in
    let d = c.args.decision.now in
    let a : Appeal = c.in-Some.appeal.now in
    let key : ℕ × Code = (d.number, d.reference) in
    let at : appeal_at r d.number d.reference ≡ Some a = sym c.in-Some.ensures.value in
    let open_yet : is_open a.status ≡ true = open_first (is_open a.status) _ _ (sym c.in_ok-check_appeal.ensures) in
    let unmarked : has_row appeal_cmp r.standing key ≡ false =
    unborne r.appeals r.standing key c.requires.marks
    (ap (λ (o : Option Appeal). option_map_or may_bear o false) at ∙ open_unborne a open_yet) in
    let row : c.in_ok-decided.decided ≡ record a { status = decided d.outcome d.answer } =
    c.in_ok-decided.ensures.ok ∙ ap (λ (status : Status). record a { status = status }) c.in_ok-status_of.ensures.ok in
    let rows : undoing.with_decided_rows c.in_ok-earlier.earlier key c.in_ok-decided.decided c.bears_mark.result r
    ≡ with_outcome r d a =
    ap₂ (λ (x : Appeal) (b : Bool). undoing.with_decided_rows c.in_ok-earlier.earlier key x b r) row
    c.bears_mark.ensures
    ∙ rows_of_outcome r d a c.in_ok-earlier.earlier c.in_ok-earlier.ensures.ok unmarked in
    let said : with_decision r d ≡ with_outcome r d a =
    ap (with_decided r d) at
    ∙ ap (λ (b : Bool). cond b r (with_outcome r d a)) (sym c.is_made.ensures ∙ c.if-is_made.false) in
    subst (λ (t : Relations). OnOk c.put_decided.result (relations_of c.put_decided.new.facts ≡ t))
    (rows ∙ sym said) c.put_decided.ensures.ok
