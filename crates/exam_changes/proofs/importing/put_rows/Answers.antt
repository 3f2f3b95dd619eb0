use Rattle.std.proofs.Common.{◌+◌, ◌∷◌, List, drop, sym, ap, ◌∙◌}
use Rattle.std.proofs.lemmas.List.{at_drop_more}
use Rattle.exam_rules.specs.Relations.{Relations, relations_of}
use Rattle.exam_commands.specs.declared.import_row.Row.{Row}
use Rattle.exam_commands.specs.Changes.{with_rows}
use Rattle.exam_changes.proofs.importing.put_rows.Goals as goal

pub loop-row-preserved : goal.loop-row-preserved
loop-row-preserved c =
    let so_far : Relations = relations_of c.loop-row.facts in
    let rows : List Row = c.args.rows.now in
    let i = c.loop-row.row-index in
    let left : List Row = drop (i + 1) rows in
    record {
      rest = ap (λ (r : Relations). with_rows r left) c.in_ok-put_row.ensures.ok
          ∙ ap (λ (z : Row). with_rows so_far (z ∷ left)) c.row-item.is
          ∙ sym (at_drop_more (with_rows so_far) rows i c.row-item.result c.loop-row-test.true)
          ∙ c.loop-row.invariant.rest;
      back = λ first back. c.put_row.ensures.back first (c.loop-row.invariant.back first back);
    }

pub returns-in_err-put_row-clause-back : goal.returns-in_err-put_row-clause-back
returns-in_err-put_row-clause-back c = λ first back. c.put_row.ensures.back first (c.loop-row.invariant.back first back)
