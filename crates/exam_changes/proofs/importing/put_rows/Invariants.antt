use Rattle.std.proofs.Common.{◌≡◌, drop}
use Rattle.exam_rules.specs.Relations.{Relations, relations_of}
use Rattle.exam_commands.specs.Changes.{with_rows}
use Rattle.exam_changes.specs.Undoing.{RowsGoBack}
use Rattle.exam_changes.proofs.importing.put_rows.Given as goal

-- what is left makes of the facts so far what all rows make of the first ones, and what is kept leads back
abbrev pub invariant-loop-row : goal.invariant-loop-row
invariant-loop-row l = record {
  rest : with_rows (relations_of l.facts) (drop l.row-index l.rows) ≡ with_rows (relations_of l.fn.facts) l.rows;
  back : (first : Relations) → RowsGoBack l.fn.kept (relations_of l.fn.facts) first
      → RowsGoBack l.kept (relations_of l.facts) first;
}
