use Rattle.std.proofs.Common.{drop}
use Rattle.exam_rules.specs.Lists.{AreListsOf}
use Rattle.exam_rules.specs.Relations.{Relations, relations_of}
use Rattle.exam_office.specs.declared.relisting.ListUndo.TheVariants as undo
use Rattle.exam_office.specs.Relisting.{EntersRows, ListsBack}
use Rattle.exam_office.proofs.relisting.enter_rows.Given as goal

-- the lists are those of the facts with the rows so far put, and may still be put back
abbrev pub invariant-loop-row : goal.invariant-loop-row
invariant-loop-row l = record {
  so_far : (r : Relations) × AreListsOf r l.lists × EntersRows r (drop l.row-index l.rows) (relations_of l.facts);
  back : ListsBack (undo.Several l.before) l.lists l.fn.lists;
}
