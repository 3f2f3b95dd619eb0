use Rattle.std.proofs.Common.{◌≡◌, ◌∙◌, ◌<◌, ◌-◌, ap, sym, arith, rules, Some, None, length}
use Rattle.std.specs.List.{find}
use Rattle.std.specs.BTreeMap.{get}
use Rattle.exam_commands.specs.contracts.import_row.KeyOrd.TheImpl as keys
use Rattle.exam_commands.specs.Imports.{has_key, key_of}
use Rattle.exam_commands.proofs.ImportPlaces.{first-at, first-none}
use Rattle.exam_commands.proofs.import.Import.first_with_key.Goals as goal

pub returns-in_err-place : goal.returns-in_err-place
returns-in_err-place c =
    let absent : get keys.ghosts.cmp c.self.inside.places (key_of c.args.row.now) ≡ None = search rules in
    let none : find (has_key (key_of c.args.row.now)) c.self.inside.rows.items ≡ None =
    first-none (has_key (key_of c.args.row.now)) 0 c.self.inside.rows.items
    (sym (c.self.invariant.2 (key_of c.args.row.now)) ∙ absent) in
    search (rules, none)

pub index-requires : goal.index-requires
index-requires c =
    let present : get keys.ghosts.cmp c.self.inside.places (key_of c.args.row.now) ≡ Some c.in_ok-place.place.now =
    search rules in
    let first = first-at (has_key (key_of c.args.row.now)) 0 c.self.inside.rows.items c.in_ok-place.place.now
    (sym (c.self.invariant.2 (key_of c.args.row.now)) ∙ present) in
    let below : c.in_ok-place.place.now < length c.self.inside.rows.items = omega (arith, first.high) in
    search (rules, below)

pub returns : goal.returns
returns c =
    let present : get keys.ghosts.cmp c.self.inside.places (key_of c.args.row.now) ≡ Some c.in_ok-place.place.now =
    search rules in
    let first = first-at (has_key (key_of c.args.row.now)) 0 c.self.inside.rows.items c.in_ok-place.place.now
    (sym (c.self.invariant.2 (key_of c.args.row.now)) ∙ present) in
    let same : c.in_ok-place.place.now - 0 ≡ c.in_ok-place.place.now = omega arith in
    let found : find (has_key (key_of c.args.row.now)) c.self.inside.rows.items ≡ Some c.index.result.now =
    rw same at (first.found c.index.result.now) ∙ ap Some (sym c.index.ensures) in
    search (rules, found)
