use Rattle.std.proofs.Common.{◌≡◌, ◌∙◌, ◌++◌, ◌∷◌, [], rules, Some, false, ◌≤◌, ◌<◌, arith, length, ◌+◌}
use Rattle.std.specs.List.{find}
use Rattle.std.proofs.lemmas.List.{length-append}
use Rattle.exam_commands.specs.Imports.{conflicts, has_key, key_of, kind_of, most_rows}
use Rattle.exam_commands.proofs.ImportConflicts.{conflicts-same, consistent-more, kind-more, places-repeat}
use Rattle.exam_commands.proofs.ImportRowsEqual.{row_refl}
use Rattle.exam_commands.proofs.import.Import.push_repeated.Goals as goal

pub invariant_of-self-2 : goal.invariant_of-self-2
invariant_of-self-2 c =
    let more : c.push.new.self.items ≡ c.self.inside.rows.items ++ c.args.row ∷ [] = search rules in
    let found : find (has_key (key_of c.args.row)) c.self.inside.rows.items ≡ Some c.args.row = search rules in
    let kind : kind_of c.args.row ≡ c.self.inside.kind = search rules in
    let none : conflicts c.args.row c.self.inside.rows.items ≡ false =
    conflicts-same c.args.row c.args.row c.self.inside.rows.items c.self.invariant.0 found (row_refl c.args.row) in
    let room : length c.self.inside.rows.items < most_rows = search rules in
    let one : length (c.self.inside.rows.items ++ c.args.row ∷ []) ≡ length c.self.inside.rows.items + 1 =
    length-append c.self.inside.rows.items (c.args.row ∷ []) in
    let long : length (c.self.inside.rows.items ++ c.args.row ∷ []) ≤ most_rows = omega arith in
    rw more (
      consistent-more c.args.row c.self.inside.rows.items c.self.invariant.0 none,
      kind-more c.self.inside.kind c.args.row c.self.inside.rows.items kind c.self.invariant.1,
      λ k. c.self.invariant.2 k ∙ places-repeat c.args.row c.self.inside.rows.items found k,
      long,
    )
