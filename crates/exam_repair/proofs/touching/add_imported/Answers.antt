use Rattle.std.proofs.Common.{◌≡◌, ◌||◌, List, ap, false, subst, sym, ◌∙◌}
use Rattle.std.specs.BTreeSet.{contains}
use Rattle.std.specs.List.{list_any}
use Rattle.exam_rules.specs.Relations.{code_cmp}
use Rattle.exam_commands.specs.Imports.{AreOfKind, ImportRows}
use Rattle.exam_commands.specs.declared.import_row.Row.{Row}
use Rattle.exam_commands.specs.Touched.{is_of_sessions, sets_session}
use Rattle.exam_repair.proofs.Gathering.{others_set_none, sets_no_session}
use Rattle.exam_repair.proofs.touching.add_imported.Goals as goal

pub returns-in-Papers : goal.returns-in-Papers
returns-in-Papers c =
    let import : ImportRows = c.args.import.now in
    let of : AreOfKind import.kind import.rows =
    subst (AreOfKind import.kind) c.rows-rows.ensures.value c.rows-rows.ensures.kind in
    let other : is_of_sessions import.kind ≡ false =
    sym (ap is_of_sessions c.kind.ensures) ∙ sets_no_session c.kind.result c.in-Papers.is in
    record {
      ok = λ s. ap (λ b. b || contains code_cmp c.args.codes.now s)
          (sym (others_set_none s import.kind import.rows of other));
      memory = tt;
    }
