use Rattle.std.proofs.Common.{◌+◌, ◌∷◌, List, drop, sym, subst}
use Rattle.std.proofs.lemmas.List.{at_drop_more}
use Rattle.exam_rules.specs.Relations.{Relations, relations_of}
use Rattle.exam_commands.specs.declared.import_row.Row.{Row}
use Rattle.exam_commands.specs.Changes.{with_row}
use Rattle.exam_office.specs.Relisting.{EntersRows}
use Rattle.exam_office.proofs.EnteredRows.{rest_enters}
use Rattle.exam_office.proofs.relisting.enter_rows.Goals as goal

pub returns-in_err-enter_row-clause-back : goal.returns-in_err-enter_row-clause-back
returns-in_err-enter_row-clause-back c = c.in_err-enter_row.ensures.back c.args.lists.now c.loop-row.invariant.back

pub loop-row-preserved : goal.loop-row-preserved
loop-row-preserved c =
    let t : Relations = relations_of c.args.facts.now in
    let rows : List Row = c.args.rows.now in
    let i = c.loop-row.row-index in
    let x : Row = c.row-item.result in
    let left : List Row = drop (i + 1) rows in
    let r : Relations = c.loop-row.invariant.so_far.0 in
    let turn : EntersRows r (x ∷ left) t =
    subst (λ (y : Row). EntersRows r (y ∷ left) t) (sym c.row-item.is)
    (subst (λ (ys : List Row). EntersRows r ys t)
    (at_drop_more (λ (ys : List Row). ys) rows i x c.loop-row-test.true) c.loop-row.invariant.so_far.2) in
    record {
      so_far = (
        with_row r x,
        c.in_ok-enter_row.ensures.ok r left c.loop-row.invariant.so_far.1 turn,
        rest_enters r t x left turn,
      );
      back = c.in_ok-enter_row.ensures.back c.args.lists.now c.loop-row.invariant.back;
    }
