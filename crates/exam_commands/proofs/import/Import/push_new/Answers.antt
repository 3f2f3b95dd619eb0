-- Room is made first. Then the key gets the place at which the row is put, so the index still names the first row of
-- each key.
use Rattle.std.proofs.Common.{◌≡◌, ◌∙◌, ◌++◌, ◌∷◌, [], ap, rules, Some, None, cond, length, false, ◌≤◌, ◌<◌, arith, ◌+◌}
use Rattle.std.specs.List.{find}
use Rattle.std.proofs.lemmas.List.{length-append}
use Rattle.std.specs.BTreeMap.{get}
use Rattle.exam_commands.specs.contracts.import_row.KeyOrd.TheImpl as keys
use Rattle.exam_commands.specs.declared.import_row.Key.{Key}
use Rattle.exam_commands.specs.Imports.{conflicts, has_key, key_of, kind_of, most_rows}
use Rattle.exam_commands.proofs.ImportConflicts.{conflicts-none, consistent-more, kind-more, places-new}
use Rattle.exam_commands.proofs.ImportKeys.{cmp_same}
use Rattle.exam_commands.proofs.import.Import.push_new.Goals as goal

pub invariant_of-self-2 : goal.invariant_of-self-2
invariant_of-self-2 c =
    let more : c.push.new.self.items ≡ c.self.inside.rows.items ++ c.args.row ∷ [] = search rules in
    let found : find (has_key (key_of c.args.row)) c.self.inside.rows.items ≡ None = search rules in
    let kind : kind_of c.args.row ≡ c.self.inside.kind = search rules in
    let none : conflicts c.args.row c.self.inside.rows.items ≡ false =
    conflicts-none c.args.row c.self.inside.rows.items found in
    let key : c.key.result ≡ key_of c.args.row = c.key.ensures in
    let len : c.len.result ≡ length c.self.inside.rows.items = search rules in
    let places : (k : Key)
    → get keys.ghosts.cmp c.insert.new.self k
    ≡ cond (has_key k c.args.row) (Some (length c.self.inside.rows.items))
    (get keys.ghosts.cmp c.self.inside.places k) =
    λ k. c.in_ok-insert.ensures.updates.0 k
    ∙ rw (key, len) (ap (λ b. cond b (Some (length c.self.inside.rows.items))
    (get keys.ghosts.cmp c.self.inside.places k)) (cmp_same (key_of c.args.row) k)) in
    let room : length c.self.inside.rows.items < most_rows = search rules in
    let one : length (c.self.inside.rows.items ++ c.args.row ∷ []) ≡ length c.self.inside.rows.items + 1 =
    length-append c.self.inside.rows.items (c.args.row ∷ []) in
    let long : length (c.self.inside.rows.items ++ c.args.row ∷ []) ≤ most_rows = omega arith in
    rw more (
      consistent-more c.args.row c.self.inside.rows.items c.self.invariant.0 none,
      kind-more c.self.inside.kind c.args.row c.self.inside.rows.items kind c.self.invariant.1,
      λ k. places k
          ∙ rw (c.self.invariant.2 k) (places-new c.args.row c.self.inside.rows.items found k),
      long,
    )
