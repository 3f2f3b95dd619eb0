-- What a database that kept an office of an older version keeps with the newest tables.
use Rattle.std.proofs.Common.{◌≡◌, ◌≤◌, ℕ, IsTrue, pos, false, inl, inr, refl, sym, subst, ◌∙◌}
use Rattle.std.specs.Cmp.Derive.{both_true}
use Rattle.std.proofs.lemmas.Bool.{both_ways, cases_eq}
use Rattle.sqlite_trees.specs.Tree.{Trees}
use Rattle.sqlite.specs.Effect.{Database}
use Rattle.sqlite.specs.State.{State, HasCleanDisk, IsUnchanged, Survives}
use Rattle.exam_rules.specs.Tables as table
use Rattle.exam_types.specs.declared.refusal.Refusal.{Refusal}
use Rattle.exam_sql.specs.Made.{ContainsMade}
use Rattle.exam_sql.proofs.Keys.{equal_itself}
use Rattle.exam_store.proofs.Marking.{made_of, no_older, one_version}
use Rattle.exam_commands.specs.State.{State as Office}
use Rattle.exam_tables.specs.Versions.{FailsToCreate, FailsToMake, HasVersion, IsKnown, IsOlder, Widens, version}
use Rattle.exam_tables.specs.Versions.{version_at, with_version}
use Rattle.exam_tables.proofs.Creating.{made_later}
use Rattle.exam_store.specs.Found.{HoldsGood, Migrates}
use Rattle.exam_store.specs.Kept.{HoldsOffice}
use Rattle.exam_commands.specs.Good.{IsGood}
use Rattle.exam_store.specs.Refused.{HoldsNone, HoldsNoOffice, IsGoodIn, is_within}
use Rattle.exam_tables.specs.declared.version.Version.{Version}

-- the newest version takes the place of an older one
renewed : (v : ℕ) (all : Trees) → HasVersion v all → HasVersion version (with_version all)
renewed v all has = rw (has, both_true (equal_itself (pos 1)) refl) refl

holds_with : (all : Trees) (office : Office) → HoldsOffice all office → HoldsOffice (with_version all) office
holds_with all office held = record {
  facts = elim [ table.Sessions ↦ held.facts table.Sessions | t ↦ held.facts t ];
  seats = held.seats;
}

-- tables of an older version that hold a good office of it are widened
pub migrates : (old new : Database) (v : ℕ) → IsOlder v → ((all : Trees) → ContainsMade old all → HoldsGood v old all)
    → Widens old new → Migrates old new
migrates old new v older good widens = record {
  good = λ all was. (v, inl older, good all was);
  kept = λ w before office was.
      record {
        all = with_version was.all;
        contains = widens was.all (made_of w old was.all was.contains);
        version = renewed w was.all was.version;
        held = holds_with was.all office was.held;
      };
  same = λ all was has. absurd (no_older v older (one_version v version all (good all was).1 has));
}

-- where the tables hold no office of the version that they name, they hold none of any version
pub none_of_any : (v w : ℕ) (all : Trees) → HasVersion v all → (v ≡ w → HoldsNone v all) → HoldsNone w all
none_of_any v w all has none = elim (cases_eq v w) [
  | inl same ↦ subst (λ n. HoldsNone n all) same (none same)
  | inr other ↦ inl (λ held. other (one_version v w all has held))
]

-- tables that hold no good office hold none of any version
pub none_good : (v : ℕ) (all : Trees) → HoldsNoOffice IsGood all → HoldsNoOffice (IsGoodIn v) all
none_good v all (inl none) = inl none
none_good v all (inr (inl none)) = inr (inl none)
none_good v all (inr (inr (office, held, wrong))) = inr (inr (office, held, λ good. wrong good.0))

-- a version's number says what it can hold
pub within_as : (v : Version) (office : Office) → IsKnown v → IsTrue (is_within v office)
    → IsTrue (is_within (version_at v.number) office)
within_as v office known within = subst (λ w. IsTrue (is_within w office)) known.1 within

pub within_of : (v : Version) (office : Office) → IsKnown v → IsTrue (is_within (version_at v.number) office)
    → IsTrue (is_within v office)
within_of v office known within = subst (λ w. IsTrue (is_within w office)) (sym known.1) within

-- why the tables are not made, where no transaction was under way
pub not_made : (old mid new : State) (e : Refusal) → Survives old mid (λ _. ⊥) → HasCleanDisk mid
    → mid.faults ≤ new.faults → old.in_transaction ≡ false → IsUnchanged old mid → FailsToCreate mid new e
    → FailsToMake old new e
not_made old mid new e s clean up calm same (inl failed) = made_later old mid new e s clean up failed
not_made old mid new e s clean up calm same (inr (told, going)) = absurd (both_ways _ (same.0.mode ∙ calm) going)

-- a database with a good office of the newest version keeps none of an older one, and stays as it is
pub newest_alone : (old new : Database) → ((all : Trees) → ContainsMade old all → HoldsGood version old all)
    → new ≡ old → Migrates old new
newest_alone old new good is = record {
  good = λ all was. (version, inr refl, good all was);
  kept = λ v before office was.
      absurd (no_older v before
      (one_version v version was.all was.version (good was.all (made_of v old was.all was.contains)).1));
  same = λ all was has. is;
}
