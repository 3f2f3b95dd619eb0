-- The office that a database has: in the newest version, and once it was brought there and opened.
use Rattle.exam_theorem.proofs.Words.{Trees, Database, HasCleanDisk, IsInOrder, HasVersion, IsVersion, version}
use Rattle.exam_theorem.proofs.Words.{Keeps, HasDays, made_of, BringsOver, HasOffice, IsVersioned}
use Rattle.std.proofs.Common.{◌≡◌, ◌∙◌, ℕ, inl, inr, refl, sym, subst}
use Rattle.exam_rules.specs.Orders.{AreInOrder}
use Rattle.exam_rules.specs.Tables as table
use Rattle.sqlite.specs.State.{State}
use Rattle.exam_commands.specs.State.{State as Office}
use Rattle.exam_tables.specs.Versions.{ContainsOf}
use Rattle.exam_store.specs.Found.{Finds, HadGood, Migrates}
use Rattle.exam_store.specs.Kept.{KeepsIn}
use Rattle.exam_store.specs.Refused.{HoldsFormed}
use Rattle.exam_store.proofs.DaysKept.{formed_days}
use Rattle.exam_store.proofs.FormedRows.{same_office}
use Rattle.exam_store.proofs.Marking.{of_newest}
use Rattle.exam_store.proofs.Rekeeping.{held_office}

-- ---- the office of tables

-- the keys of an office in the forms of its columns rise
in_order : (all : Trees) (office : Office) → HoldsFormed all office → IsInOrder office
in_order all office formed = record { tables = rise; seats = formed.1.rises }
  where
    rise : AreInOrder office.relations
    rise table.Sessions = (formed.0 table.Sessions).rises
    rise table.Papers = (formed.0 table.Papers).rises
    rise table.Halls = (formed.0 table.Halls).rises
    rise table.Openings = (formed.0 table.Openings).rises
    rise table.Candidates = (formed.0 table.Candidates).rises
    rise table.Entries = (formed.0 table.Entries).rises
    rise table.Arrangements = (formed.0 table.Arrangements).rises
    rise table.Appeals = (formed.0 table.Appeals).rises
    rise table.Standing = (formed.0 table.Standing).rises

-- tables that hold an office in the forms of their columns have it
pub formed_has : (v : ℕ) (db : Database) (all : Trees) (office : Office) → IsVersion v → ContainsOf v db all
    → HasVersion v all → HoldsFormed all office → HasOffice db office
formed_has v db all office is contains has formed = record {
  number = v;
  is_version = is;
  kept = record { all = all; contains = contains; version = has; held = held_office all office formed };
  order = in_order all office formed;
  days = formed_days all office formed;
}

-- ---- the newest version

pub keeps_has : (db : Database) (office : Office) → Keeps db office → IsInOrder office → HasDays office.relations
    → HasOffice db office
keeps_has db office keeps order days = record {
  number = version;
  is_version = inr refl;
  kept = record {
    all = keeps.all;
    contains = of_newest db keeps.all keeps.contains;
    version = keeps.version;
    held = keeps.held;
  };
  order = order;
  days = days;
}

newest_keeps : (db : Database) (office : Office) → KeepsIn version db office → Keeps db office
newest_keeps db office was = record { all = was.all; contains = was.contains.0; version = was.version; held = was.held }

-- what is migrated keeps what it had, whichever version that was in
pub migrates_brings : (old new : Database) → Migrates old new → BringsOver old new
migrates_brings old new migrates office has = by has.is_version
  where
    by : IsVersion has.number → Keeps new office
    by (inl before) = migrates.kept has.number before office has.kept
    by (inr is) =
        let was = subst (λ w. KeepsIn w old office) is has.kept in
        let same = migrates.same was.all (made_of version old was.all was.contains) was.version in
        subst (λ (db : Database). Keeps db office) (sym same) (newest_keeps old office was)

-- the office of the version that a migration found
pub good_had : (db : Database) (v : ℕ) → IsVersion v → HadGood db v → IsVersioned db
    → (office : Office) × HasOffice db office
good_had db v is had (w, is_w, all, contains, has) =
    let good = had.good all (made_of w db all contains) in
    (good.2, formed_has v db all good.2 is good.0 good.1 good.3)

-- ---- what is opened

module _ (old mid new : State) (brings : BringsOver old.now mid.now) (found : Office) (finds : Finds mid new found)
    (clean : HasCleanDisk new) where
  -- the office that was there is found, whichever version it was in
  pub same_found : (office : Office) → HasOffice old.now office → found ≡ office
  same_found office has =
      let keeps = brings office has in
      same_office keeps.all found office (finds.formed clean keeps.all keeps.contains) keeps.held has.order has.days

  -- the opened database keeps it
  pub keeps_found : HasOffice old.now found → Keeps new.now found
  keeps_found has = subst (λ (db : Database). Keeps db found) (sym (finds.same clean).0.now_is) (brings found has)

  pub committed_found : mid.committed ≡ mid.now → new.committed ≡ new.now
  committed_found settled = let same = finds.same clean in same.0.committed_is ∙ settled ∙ sym same.0.now_is
