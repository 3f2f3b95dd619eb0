-- The index finds the first row with the key. If it has the same contents the row repeats it, if it has others the row
-- conflicts; a key that is not there conflicts with none.
use Rattle.std.proofs.Common.{◌≡◌, ◌∙◌, sym, ap, rules, Some, None, true, false, length, inr, refl}
use Rattle.std.specs.List.{find}
use Rattle.std.specs.Prelude.{List, Result, Ok, Err, IfErr}
use Rattle.exam_commands.specs.contracts.import_row.RowPartialEq.TheImpl as rows
use Rattle.exam_commands.specs.Imports.{has_key, key_of, same_row, conflicts, is_consistent}
use Rattle.exam_commands.specs.declared.import_row.Row.{Row}
use Rattle.exam_types.specs.declared.refusal.Refusal.{Refusal}
use Rattle.exam_types.specs.declared.refusal.Refusal.TheVariants.{NoMemory}
use Rattle.exam_commands.proofs.ImportConflicts.{conflicts-none, conflicts-other, conflicts-same}
use Rattle.exam_commands.proofs.ImportRowsEqual.{eq_same, row_exact}
use Rattle.exam_commands.proofs.import.Import.push.Goals as goal

-- if nothing conflicts, memory ran out
nothing_conflicts : {X : Type 0} (r : Result X Refusal) (row : Row) (rows : List Row) → conflicts row rows ≡ false
    → IfErr r (λ e. e ≡ NoMemory → conflicts row rows ≡ false)
nothing_conflicts (Ok x) row rows none = tt
nothing_conflicts (Err e) row rows none = λ memory. none

pub push_repeated-requires-clause-repeated : goal.push_repeated-requires-clause-repeated
push_repeated-requires-clause-repeated c =
    let found : find (has_key (key_of c.args.row)) c.args.self.now.rows ≡ Some c.in-Some.first.now = search rules in
    let same : same_row c.in-Some.first.now c.args.row ≡ true =
    let eq : rows.ghosts.eq c.in-Some.first.now c.args.row ≡ true =
    search rules in sym (eq_same c.in-Some.first.now c.args.row) ∙ eq in
    found ∙ ap Some (row_exact _ _ same)

pub returns-in-Some-clause-agrees : goal.returns-in-Some-clause-agrees
returns-in-Some-clause-agrees c =
    let found : find (has_key (key_of c.args.row)) c.args.self.now.rows ≡ Some c.in-Some.first.now = search rules in
    let same : same_row c.in-Some.first.now c.args.row ≡ true =
    let eq : rows.ghosts.eq c.in-Some.first.now c.args.row ≡ true =
    search rules in sym (eq_same c.in-Some.first.now c.args.row) ∙ eq in
    let good : is_consistent c.args.self.now.rows ≡ true = search rules in
    let none : conflicts c.args.row c.args.self.now.rows ≡ false =
    conflicts-same c.args.row c.in-Some.first.now c.args.self.now.rows good found same in
    search (rules, none)

pub returns-in-Some-2-clause-refused : goal.returns-in-Some-2-clause-refused
returns-in-Some-2-clause-refused c =
    let found : find (has_key (key_of c.args.row)) c.args.self.now.rows ≡ Some c.in-Some.first.now = search rules in
    let other : same_row c.in-Some.first.now c.args.row ≡ false =
    let eq : rows.ghosts.eq c.in-Some.first.now c.args.row ≡ false =
    search rules in sym (eq_same c.in-Some.first.now c.args.row) ∙ eq in
    let some : conflicts c.args.row c.args.self.now.rows ≡ true =
    conflicts-other c.args.row c.in-Some.first.now c.args.self.now.rows found other in
    let place : c.len.result ≡ length c.args.self.now.rows = search rules in
    inr (rw place refl, some)

pub returns-in-None-clause-agrees : goal.returns-in-None-clause-agrees
returns-in-None-clause-agrees c =
    let none : find (has_key (key_of c.args.row)) c.args.self.now.rows ≡ None = search rules in
    let agrees : conflicts c.args.row c.args.self.now.rows ≡ false =
    conflicts-none c.args.row c.args.self.now.rows none in
    search (rules, agrees)

pub returns-in-Some-clause-memory : goal.returns-in-Some-clause-memory
returns-in-Some-clause-memory c =
    let found : find (has_key (key_of c.args.row)) c.args.self.now.rows ≡ Some c.in-Some.first.now = search rules in
    let same : same_row c.in-Some.first.now c.args.row ≡ true =
    let eq : rows.ghosts.eq c.in-Some.first.now c.args.row ≡ true =
    search rules in sym (eq_same c.in-Some.first.now c.args.row) ∙ eq in
    let good : is_consistent c.args.self.now.rows ≡ true = search rules in
    nothing_conflicts _ c.args.row c.args.self.now.rows
    (conflicts-same c.args.row c.in-Some.first.now c.args.self.now.rows good found same)

pub returns-in-None-clause-memory : goal.returns-in-None-clause-memory
returns-in-None-clause-memory c =
    let none : find (has_key (key_of c.args.row)) c.args.self.now.rows ≡ None = search rules in
    nothing_conflicts _ c.args.row c.args.self.now.rows (conflicts-none c.args.row c.args.self.now.rows none)
