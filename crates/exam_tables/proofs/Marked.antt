-- The table of marks, where there is one, and where there is none.
use Rattle.exam_tables.proofs.Words.{Held, state, State, IsStrictlySortedBy, IsPermutation-refl, Ghosts, Trees}
use Rattle.exam_tables.proofs.Words.{Database, lists_marks, KeysRise, Refusal, Code, appeal_cmp, standing, Contains}
use Rattle.exam_tables.proofs.Words.{HoldsTable, table_part, HasOlder}
use Rattle.std.proofs.Common.{◌≡◌, ℕ, Bool, true, false, [], Result, Ok, Err, sym, ap, subst, ◌∙◌}
use Rattle.std.specs.BTreeMap.{BTreeMap}
use Rattle.sqlite.specs.State.{IsLive}
use Rattle.exam_sql.proofs.VersionFails.{sound_rules}
use Rattle.exam_sql.specs.Content.{ContainsIn}
use Rattle.exam_sql.specs.Made.{ContainsMade, made_schema}
use Rattle.exam_sql.proofs.AllTables.{marks_listed}
use Rattle.exam_tables.specs.Parts.{Loading, marks_part}
use Rattle.exam_tables.specs.Rows.{IsStanding, standing_row}
use Rattle.exam_tables.proofs.PartByPart.{loaded_as, not_loaded}

listed : (has_marks : Bool) → lists_marks (made_schema has_marks) ≡ has_marks
listed true = marks_listed.0
listed false = marks_listed.1

-- a database lists the table of marks exactly if it has one
has_listed : (db : Database) (all : Trees) (was : ContainsMade db all) (lists : Bool) → lists_marks db.schema ≡ lists
    → was.has_marks ≡ lists
has_listed db all was lists is = sym (listed was.has_marks) ∙ sym (ap lists_marks was.contains.schema_is) ∙ is

-- where it is listed, the tables are those of the newest version
pub contains_marks : (db : Database) (all : Trees) → lists_marks db.schema ≡ true → ContainsMade db all
    → Contains db all
contains_marks db all lists was =
    subst (λ b. ContainsIn (made_schema b) db all) (has_listed db all was true lists) was.contains

nothing_rises : KeysRise {X = Unit {0}} appeal_cmp []
unfolding IsStrictlySortedBy
nothing_rises = tt

-- if there is no table of marks, there are no marks
pub holds_no_marks : (db : Database) (all : Trees) → lists_marks db.schema ≡ false → ContainsMade db all
    → HoldsTable appeal_cmp IsStanding standing_row [] (all 17)
holds_no_marks db all lists was =
    let none : all 17 ≡ [] = was.unmarked (has_listed db all was false lists) in
    subst (HoldsTable appeal_cmp IsStanding standing_row []) (sym none)
    (record { rises = nothing_rises; forms = tt; same = IsPermutation-refl [] })

-- the tables of a version, with the table of marks or without it
pub older_of : (s : State) (all : Trees) (has_marks : Bool) → has_marks ≡ lists_marks s.now.schema → IsLive s
    → ContainsMade s.now all → HasOlder s.is_open has_marks all s.now
older_of s all true lists live was =
    let contains = contains_marks s.now all (sym lists) was in
    (contains, λ open_now. sound_rules s.now contains.schema_is (live open_now).0)
older_of s all false lists live was =
    let none = has_listed s.now all was false (sym lists) in
    (subst (λ b. ContainsIn (made_schema b) s.now all) none was.contains, was.unmarked none)

-- where the table is listed, the marks are its rows
pub marks_load : {S : Type 0} (g : Ghosts S) (old new : Held S) → lists_marks (state g old).now.schema ≡ true
    → (result : Result (BTreeMap (ℕ × Code) (Unit {0})) Refusal)
    → Loading g old new result (table_part appeal_cmp standing) → Loading g old new result marks_part
marks_load g old new lists (Ok marks) it =
    loaded_as g old new (table_part appeal_cmp standing) marks_part
    (λ all was. contains_marks (state g old).now all lists was) marks (Ok marks) it (λ clean all was held. held) tt
    (λ clean is listed. is)
marks_load g old new lists (Err e) it =
    not_loaded g old new (table_part appeal_cmp standing) marks_part
    (λ all was. contains_marks (state g old).now all lists was) e (λ clean all was none. none) it
