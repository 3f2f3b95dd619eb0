-- The database that kept the old office keeps the new one.
use Rattle.std.proofs.Common.{◌≡◌, [], true, Ok, Err, Result, IfOk, refl, sym, ap, subst, ◌∙◌}
use Rattle.std.proofs.lemmas.List.Sorted.{IsPermutation-refl}
use Rattle.sqlite_trees.specs.declared.store.Store.{Ghosts}
use Rattle.sqlite_trees.specs.Tree.{Trees}
use Rattle.sqlite.specs.Effect.{Database}
use Rattle.sqlite.specs.Held.{Held, state}
use Rattle.sqlite.specs.State.{State as Shown, HasCleanDisk}
use Rattle.exam_types.specs.declared.refusal.Refusal.{Refusal}
use Rattle.exam_commands.specs.State.{State, empty_state}
use Rattle.exam_tables.specs.declared.writing.Changes.{Changes}
use Rattle.exam_tables.specs.Held.{HoldsRows}
use Rattle.exam_store.specs.Kept.{HoldsOffice}
use Rattle.exam_tables.specs.Inside.{Becomes, Contains, IsOurs, written}
use Rattle.exam_store.specs.Found.{Finds, version_texts}
use Rattle.exam_store.specs.Kept.{KeepsOurs, Keeps, Rekeeps}
use Rattle.exam_store.specs.Refused.{HoldsFormed}
use Rattle.exam_tables.specs.Loaded.{AreUnderstood}
use Rattle.exam_tables.specs.Parts.{Loading, version_part}
use Rattle.exam_tables.proofs.PartByPart.{all_load}
use Rattle.exam_store.specs.Parts.{office_part}
use Rattle.exam_store.proofs.Marking.{known_marks, made_of, of_newest, one_version}
use Rattle.exam_sql.specs.Made.{ContainsMade, lists_tables}
use Rattle.exam_sql.proofs.Listed.{newest_listed}
use Rattle.exam_rules.specs.Tables as table
use Rattle.exam_tables.proofs.Holding.{held_facts}
use Rattle.exam_tables.specs.Forms as forms
use Rattle.exam_tables.specs.Writes.{all_saved}
use Rattle.exam_store.specs.Saves.{TurnsTables}
use Rattle.exam_tables.specs.Versions.{HasVersion, new_tables, IsKnown, IsMade, marks_since, version}
use Rattle.exam_tables.specs.declared.version.Version.{Version}
use Rattle.exam_tables.proofs.EachTree.{whole}
use Rattle.exam_tables.specs.OurTables.{sessions_ours, papers_ours, halls_ours, openings_ours, candidates_ours}
use Rattle.exam_tables.specs.OurTables.{entries_ours, arrangements_ours, appeals_ours, standing_ours, seats_ours}
use Rattle.exam_tables.proofs.SavedRows.{openings_named, seats_named, table_put, table_saved}

-- the rows of each table are those of the new office
pub holds_after : (before after : State) (c : Changes) (all : Trees) → TurnsTables before after c
    → HoldsOffice all before → HoldsOffice (written (all_saved c) all) after
holds_after before after c all turns was = record {
  facts = elim [
    | table.Sessions ↦ subst (HoldsRows forms.sessions.row after.relations.sessions)
        (sym (whole c all forms.sessions.tree))
        (table_put sessions_ours.keys _ _ _ _ turns.sessions (was.facts table.Sessions))
    | table.Papers ↦ subst (HoldsRows forms.papers.row after.relations.papers) (sym (whole c all forms.papers.tree))
        (table_put papers_ours.keys _ _ _ _ turns.papers (was.facts table.Papers))
    | table.Halls ↦ subst (HoldsRows forms.halls.row after.relations.halls) (sym (whole c all forms.halls.tree))
        (table_put halls_ours.keys _ _ _ _ turns.halls (was.facts table.Halls))
    | table.Openings ↦ subst (HoldsRows forms.openings.row after.relations.openings)
        (sym (whole c all forms.openings.tree))
        (table_saved openings_ours.keys openings_named _ _ _ _ _ turns.openings (was.facts table.Openings))
    | table.Candidates ↦ subst (HoldsRows forms.candidates.row after.relations.candidates)
        (sym (whole c all forms.candidates.tree))
        (table_put candidates_ours.keys _ _ _ _ turns.candidates (was.facts table.Candidates))
    | table.Entries ↦ subst (HoldsRows forms.entries.row after.relations.entries)
        (sym (whole c all forms.entries.tree))
        (table_put entries_ours.keys _ _ _ _ turns.entries (was.facts table.Entries))
    | table.Arrangements ↦ subst (HoldsRows forms.arrangements.row after.relations.arrangements)
        (sym (whole c all forms.arrangements.tree))
        (table_put arrangements_ours.keys _ _ _ _ turns.arrangements (was.facts table.Arrangements))
    | table.Appeals ↦ subst (HoldsRows forms.appeals.row after.relations.appeals)
        (sym (whole c all forms.appeals.tree))
        (table_put appeals_ours.keys _ _ _ _ turns.appeals (was.facts table.Appeals))
    | table.Standing ↦ subst (HoldsRows forms.standing.row after.relations.standing)
        (sym (whole c all forms.standing.tree))
        (table_put standing_ours.keys _ _ _ _ turns.standing (was.facts table.Standing))
  ];
  seats = subst (HoldsRows forms.seats.row after.seats) (sym (whole c all forms.seats.tree))
      (table_saved seats_ours.keys seats_named _ _ _ _ _ turns.seats was.seats);
}

pub rekeeps : (before after : State) (c : Changes) (old new : Database) → TurnsTables before after c
    → Becomes (all_saved c) old new → Rekeeps before after old new
rekeeps before after c old new turns becomes was = record {
  all = written (all_saved c) was.all;
  contains = becomes was.all was.contains;
  version = whole c was.all 0 ∙ was.version;
  held = holds_after before after c was.all turns was.held;
}

-- tables that were just made keep an office with no facts
pub keeps_empty : (db : Database) → IsMade db → Keeps db empty_state
keeps_empty db made =
    let none = IsPermutation-refl [] in
    record {
      all = new_tables;
      contains = made;
      version = refl;
      held = record {
        facts = elim [ table.Sessions ↦ none | _ ↦ none ];
        seats = none;
      };
    }

-- the rows of an office whose values have their forms are its rows
pub held_office : (all : Trees) (office : State) → HoldsFormed all office → HoldsOffice all office
held_office all office formed = record { facts = held_facts all office.relations formed.0; seats = formed.1.same }

-- the office that was loaded is kept by the tables, where they are those of this version
pub loaded : {S : Type 0} (g : Ghosts S) (old mid new : Held S) (v : Version) (result : Result State Refusal)
    → IsKnown v → v.number ≡ version
    → lists_tables (state g old).now.schema ≡ true → Loading g old mid (Ok v) version_part
    → Loading g mid new result (office_part v) → IfOk result (Finds (state g old) (state g new))
loaded g old mid new v (Ok office) known newest listed first next =
    let db = (state g old).now in
    let both = all_load g old mid new version_part (office_part v) v first office next in
    let has : HasCleanDisk (state g new) → (all : Trees) → ContainsMade db all
    → HasVersion version all × HoldsFormed all office = λ clean all was.
    let held = both.rows clean all (was, was) in (subst (λ n. HasVersion n all) newest held.0, held.1) in
    let made : (all : Trees) → Contains db all → ContainsMade db all =
    λ all was. made_of version db all (of_newest db all was) in
    record {
      listed = λ clean. newest_listed db.schema listed
          ((both.understood clean).1.0 ∙ known_marks v known ∙ ap marks_since newest);
      understood = λ clean. let knows =
          both.understood clean in (knows.0, subst (λ n. AreUnderstood db (version_texts n)) newest knows.1.1);
      formed = λ clean all was. (has clean all (made all was)).1;
      newest = λ clean w is all was other. one_version w version all other (has clean all was).0;
      same = both.left;
      kept = λ clean ours.
          let held = has clean ours.0 (made ours.0 ours.1) in
          record { all = ours.0; contains = ours.1; version = held.0; held = held_office ours.0 office held.1 };
      survives = both.survives;
    }
loaded g old mid new v (Err e) known newest listed first next = tt

-- what opening found is kept by what is seen after it
pub finds_kept : (old new : Shown) (result : Result State Refusal) → IfOk result (Finds old new)
    → IfOk result (KeepsOurs new)
finds_kept old new (Ok office) found = λ clean ours.
    let same = (found.same clean).0.now_is in
    subst (λ db. Keeps db office) (sym same) (found.kept clean (subst IsOurs same ours))
finds_kept old new (Err e) found = tt
