-- What reading the tables one after the other finds, and what it leaves.
use Rattle.std.specs.Prelude.{◌≡◌, ◌⊎◌, ℕ, List, [], ◌∷◌, Result, IfErr, IsTrue}
use Rattle.sqlite_trees.specs.declared.store.Store.{Ghosts}
use Rattle.sqlite_trees.specs.Tree.{Trees}
use Rattle.sqlite.specs.Held.{Held, state}
use Rattle.sqlite.specs.State.{HasCleanDisk, IsUnchanged, Survives}
use Rattle.exam_types.specs.declared.refusal.Refusal.{Refusal}
use Rattle.exam_types.specs.declared.refusal.Refusal.TheVariants.{BadStore}
use Rattle.exam_rules.specs.Relations.{relations_of}
use Rattle.exam_commands.specs.Good.{tables}
use Rattle.exam_commands.specs.State.{State as Office}
use Rattle.exam_tables.specs.Forms as forms
use Rattle.exam_tables.specs.Inside.{Contains}
use Rattle.exam_tables.specs.Loaded.{AreUnderstood, OnlyReads}
use Rattle.exam_tables.specs.Parts.{Part}
use Rattle.exam_store.specs.Found.{is_open_refusal}
use Rattle.exam_check.specs.FirstBad.{HasGoodVersion, IsFirstUnread}
use Rattle.exam_check.specs.Refused.{FailsToCheck}
use Rattle.exam_check.specs.declared.reading.Tables.{Tables}

-- What a call that only reads leaves, whatever it answers, and why it refuses. It refuses with `BadStore` only if the
-- tables are not those of the newest version, with its number.
pub record Looks {S A : Type 0} (g : Ghosts S) (old new : Held S) (result : Result A Refusal) : Type 0 where
  pub early : HasCleanDisk (state g new) → HasCleanDisk (state g old)
  pub survives : Survives (state g old) (state g new) (λ _. ⊥)
  pub left : HasCleanDisk (state g new) → OnlyReads (state g old) (state g new) result
  pub bad : HasCleanDisk (state g new) → IfErr result (λ e. e ≡ BadStore
      → IsUnchanged (state g old) (state g new) × ((all : Trees) → HasGoodVersion (state g old).now all → ⊥))
  pub refused : HasCleanDisk (state g new) → IfErr result (λ e. (e ≡ BadStore) ⊎ FailsToCheck g old new e)
  pub told : IfErr result (λ e. IsTrue (is_open_refusal e))

-- the texts that load the tables, in the order in which they are checked
abbrev pub table_texts : List (List ℕ)
table_texts =
    forms.sessions.load ∷ forms.papers.load ∷ forms.halls.load ∷ forms.openings.load ∷ forms.candidates.load
    ∷ forms.entries.load ∷ forms.arrangements.load ∷ forms.appeals.load ∷ forms.standing.load ∷ forms.seats.load ∷ []

-- the office of what was read; a table that could not be read has no rows there
abbrev pub office_in : Tables → Office
office_in read = record { relations = relations_of read.facts; seats = read.seats.entries }

-- what the tables of the newest version are read as
abbrev pub tables_part : Part Tables
tables_part = record {
  Holds = Contains;
  Has = λ read db all. IsFirstUnread all (office_in read) tables read.unread;
  HasNone = λ db all. ⊥;
  Understands = λ read db. AreUnderstood db table_texts;
}
