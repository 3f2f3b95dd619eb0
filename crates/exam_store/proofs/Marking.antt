-- The table of marks is there since version 2.
use Rattle.std.proofs.Common.{◌≡◌, ◌≢◌, ◌++◌, ℕ, Bool, true, false, not, if◌then◌else◌, List, [], ◌∷◌, inl}
use Rattle.std.proofs.Common.{inr, arith, IsTrue, refl, sym, ap, subst, ◌∙◌}
use Rattle.std.specs.Bool.{beq}
use Rattle.sqlite_value.specs.declared.value.Value.TheVariants.{Null}
use Rattle.sqlite_trees.specs.Tree.{Trees}
use Rattle.sqlite.specs.Effect.{Database}
use Rattle.sqlite.specs.State.{State, IsUnchanged}
use Rattle.exam_types.specs.declared.refusal.Refusal.{Refusal}
use Rattle.exam_types.specs.declared.refusal.Refusal.TheVariants.{OldSchema}
use Rattle.exam_sql.specs.Content.{ContainsIn}
use Rattle.exam_sql.specs.Made.{ContainsMade, lists_marks, made_schema}
use Rattle.exam_sql.proofs.AllTables.{marks_listed}
use Rattle.exam_sql.specs.Texts.{held_texts, load_standing}
use Rattle.exam_tables.specs.Faults.{is_store_refusal}
use Rattle.exam_tables.specs.Inside.{Contains}
use Rattle.exam_tables.specs.Loaded.{AreUnderstood, IsUnderstood}
use Rattle.exam_store.specs.Found.{is_open_refusal, version_texts}
use Rattle.exam_tables.specs.Versions.{ContainsOf, HasVersion, IsKnown, IsOlder, IsVersion, marks_since, version}
use Rattle.exam_tables.specs.Versions.{version_row}
use Rattle.exam_tables.specs.declared.version.Version.{Version}

listed : (has_marks : Bool) → lists_marks (made_schema has_marks) ≡ has_marks
listed true = marks_listed.0
listed false = marks_listed.1

-- the schema of a version lists the marks as the version has them
pub listed_of : (v : ℕ) (db : Database) (all : Trees) → ContainsOf v db all → lists_marks db.schema ≡ marks_since v
listed_of v db all was = ap lists_marks was.0.schema_is ∙ listed (marks_since v)

-- tables that list marks so are those of the version
pub is_of : (v : ℕ) (db : Database) (all : Trees) → lists_marks db.schema ≡ marks_since v → ContainsMade db all
    → ContainsOf v db all
is_of v db all lists was =
    let same : was.has_marks ≡ marks_since v =
    sym (listed was.has_marks) ∙ sym (ap lists_marks was.contains.schema_is) ∙ lists in (
      subst (λ b. ContainsIn (made_schema b) db all) same was.contains,
      subst (λ b. b ≡ false → all 17 ≡ []) same was.unmarked,
    )

pub made_of : (v : ℕ) (db : Database) (all : Trees) → ContainsOf v db all → ContainsMade db all
made_of v db all was = record { has_marks = marks_since v; contains = was.0; unmarked = was.1 }

-- the table has the rows of one version
pub one_version : (v w : ℕ) (all : Trees) → HasVersion v all → HasVersion w all → v ≡ w
one_version v w all a b = let same : (Null ∷ version_row v) ∷ [] ≡ (Null ∷ version_row w) ∷ [] = sym a ∙ b in cc

-- so are those of this version
pub of_newest : (db : Database) (all : Trees) → Contains db all → ContainsOf version db all
of_newest db all was = (was, λ none. absurd cc)

-- a version's number says whether it has the marks
pub known_marks : (v : Version) → IsKnown v → v.has_marks ≡ marks_since v.number
known_marks v known = ap (λ (w : Version). w.has_marks) known.1

pub older : (v : ℕ) → IsVersion v → v ≢ version → IsOlder v
older v (inl before) other = before
older v (inr newest) other = absurd (other newest)

pub no_older : (v : ℕ) → IsOlder v → v ≡ version → ⊥
no_older v (inl one) newest = let same : 1 ≡ version = sym one ∙ newest in cc
no_older v (inr two) newest = let same : 2 ≡ version = sym two ∙ newest in cc

-- a database that is left as it was has the tables that it had
pub still_of : (v : ℕ) (old new : State) (all : Trees) → IsUnchanged old new → ContainsOf v old.now all
    → ContainsOf v new.now all
still_of v old new all same was = subst (λ (db : Database). ContainsOf v db all) (sym same.0.now_is) was

pub still_made : (old new : State) (all : Trees) → IsUnchanged old new → ContainsMade old.now all
    → ContainsMade new.now all
still_made old new all same was = subst (λ (db : Database). ContainsMade db all) (sym same.0.now_is) was

one_more : (db : Database) (texts : List (List ℕ)) (text : List ℕ) → AreUnderstood db texts → IsUnderstood db text
    → AreUnderstood db (texts ++ text ∷ [])
one_more db [] text all last = (last, tt)
one_more db (t ∷ texts) text all last = (all.0, one_more db texts text all.1 last)

-- of texts that are understood the first ones are
pub some_understood : (db : Database) (texts more : List (List ℕ)) → AreUnderstood db (texts ++ more)
    → AreUnderstood db texts
some_understood db [] more all = tt
some_understood db (t ∷ texts) more all = (all.0, some_understood db texts more all.1)

-- what loads the tables of the version is understood, where the marks are there as the version has them
pub understood_of : (v : ℕ) (db : Database) → AreUnderstood db held_texts → lists_marks db.schema ≡ marks_since v
    → (IsTrue (lists_marks db.schema) → IsUnderstood db load_standing) → AreUnderstood db (version_texts v)
understood_of v db held lists marks = inner (marks_since v) lists
  where
    inner : (b : Bool) → lists_marks db.schema ≡ b
        → AreUnderstood db (held_texts ++ (if b then load_standing ∷ [] else []))
    inner true there = one_more db held_texts load_standing held (marks there)
    inner false none = held

-- what any call that reads may answer, opening may too
pub opens_as : (e : Refusal) → IsTrue (is_store_refusal e) → IsTrue (is_open_refusal e)
opens_as OldSchema told = refl
opens_as e told = told

-- two flags that a test finds equal, and two that it finds different
pub found_equal : (a b : Bool) → not (beq a b) ≡ false → a ≡ b
found_equal a b same = grind arith

pub found_different : (a b : Bool) → not (beq a b) ≡ true → a ≡ b → ⊥
found_different a b other same = grind arith
