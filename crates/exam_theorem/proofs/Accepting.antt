-- A database that holds a good office of its version is refused only because memory ran out or it could not be used.
use Rattle.exam_theorem.proofs.Words.{Ghosts, Trees, Database, Held, state, Refusal, ContainsMade, version}
use Rattle.exam_theorem.proofs.Words.{FailsToFind, HoldsGood, Keeps, made_of, BringsOver, IsAccepted}
use Rattle.std.proofs.Common.{◌≡◌, ◌≢◌, ◌∙◌, ℕ, inl, inr, refl, sym, subst}
use Rattle.sqlite.specs.State.{State}
use Rattle.sqlite.specs.declared.error.Error.{Error}
use Rattle.sqlite.specs.declared.error.Error.TheVariants.{SqliteFailure, SqlInputError}
use Rattle.sqlite.specs.declared.error.ErrorCode.TheVariants.{OutOfMemory}
use Rattle.sqlite_resolve.specs.declared.error.CompileError.TheVariants.{NoSuchTable, NoSuchColumn}
use Rattle.exam_types.specs.declared.refusal.Refusal.TheVariants as refusal
use Rattle.exam_commands.specs.State.{State as Office}
use Rattle.exam_tables.specs.Faults.{refusal_of}
use Rattle.exam_tables.specs.Loaded.{FailsThen, IsLoadRefusal}
use Rattle.exam_store.specs.Found.{FailsToMigrate, FailsToOpen}
use Rattle.exam_store.specs.Kept.{HoldsOffice}
use Rattle.exam_store.specs.Refused.{HoldsFormed, HoldsNone, IsGoodIn}
use Rattle.exam_store.proofs.Marking.{no_older, of_newest, one_version}
use Rattle.exam_store.proofs.Unique.{one_office}
use Rattle.exam_theorem.specs.Resting.{IsFailing}
use Rattle.exam_theorem.proofs.Having.{formed_has}

error_is : (error : Error) → refusal_of error ≢ refusal.BadStore → IsFailing (refusal_of error)
error_is (SqliteFailure OutOfMemory) other = inl refl
error_is (SqlInputError NoSuchTable) other = absurd (other refl)
error_is (SqlInputError NoSuchColumn) other = absurd (other refl)
error_is error other = inr refl

told_error : (e : Refusal) (error : Error) → e ≡ refusal_of error → e ≢ refusal.BadStore → IsFailing e
told_error e error is other = subst IsFailing (sym is) (error_is error (λ bad. other (is ∙ bad)))

-- tables that hold a good office hold one
not_none : (v : ℕ) (db : Database) (all : Trees) → HoldsGood v db all → HoldsNone v all → ⊥
not_none v db all good (inl none) = none good.1
not_none v db all good (inr (inl none)) = none good.2.relations good.3.0
not_none v db all good (inr (inr (inl none))) = none good.2.seats good.3.1
not_none v db all good (inr (inr (inr (office, held, wrong)))) =
    wrong (subst (IsGoodIn v) (one_office all good.2 office good.3 held) good.4)

-- other tables with the same rows hold the office in the forms of the columns too
formed_again : (all more : Trees) (office : Office) → HoldsFormed all office → HoldsOffice more office
    → HoldsFormed more office
formed_again all more office formed held = (
  λ t. record { rises = (formed.0 t).rises; forms = (formed.0 t).forms; same = held.facts t },
  record { rises = formed.1.rises; forms = formed.1.forms; same = held.seats },
)

module _ {S : Type 0} (g : Ghosts S) where
  -- a load that failed while good tables were there
  load_failed : (v : ℕ) (old new : Held S) (all : Trees) (None : Type 0) (e : Refusal)
      → HoldsGood v (state g old).now all → (None → ⊥) → IsLoadRefusal (FailsThen g old new) None e → IsFailing e
  load_failed v old new all None e good some (inl memory) = inl memory
  load_failed v old new all None e good some (inr (inl (mid, still, text, known, fails))) =
      told_error e fails.0.0 fails.0.1
      (fails.1 (
        all,
        subst (λ (db : Database). ContainsMade db all) (sym still.now)
            (made_of v (state g old).now all good.0),
      ))
  load_failed v old new all None e good some (inr (inr (is, none))) = absurd (some none)

  -- it was not migrated
  pub migration_failed : (old new : Held S) (e : Refusal) → IsAccepted (state g old).now → FailsToMigrate g old new e
      → IsFailing e
  migration_failed old new e accepted (inl busy) = inr busy.0
  migration_failed old new e (v, is, all, good) (inr (inl fails)) =
      load_failed v old new all _ e good (λ none. not_none v (state g old).now all good (none v is all good.0)) fails
  migration_failed old new e (v, is, all, good) (inr (inr (known, makes))) =
      elim (makes (all, made_of v (state g old).now all good.0)) [
        | inl memory ↦ inl memory
        | inr down ↦ inr down.0
      ]

  -- it was not opened
  module _ (old : State) (mid : Held S) (brings : BringsOver old.now (state g mid).now) where
    -- what was accepted is accepted in the newest version
    brought_good : IsAccepted old.now → (all : Trees) × HoldsGood version (state g mid).now all
    brought_good (v, is, all, good) =
        let keeps : Keeps (state g mid).now good.2 =
        brings good.2 (formed_has v old.now all good.2 is good.0 good.1 good.3) in (
          keeps.all,
          (
            of_newest (state g mid).now keeps.all keeps.contains,
            keeps.version,
            good.2,
            formed_again all keeps.all good.2 good.3 keeps.held,
            (good.4.0, refl),
          ),
        )

    failed_in : (new : Held S) (e : Refusal) (all : Trees) → HoldsGood version (state g mid).now all
        → FailsToOpen g mid new e → IsFailing e
    failed_in new e all good (inl none) =
        load_failed version mid new all _ e good
        (λ both. not_none version (state g mid).now all good (both.0 all good.0)) none
    failed_in new e all good (inr old_one) =
        let older = old_one.1 all (made_of version (state g mid).now all good.0) in
        absurd (no_older older.0 older.1 (one_version older.0 version all older.2 good.1))

    pub opening_failed : (new : Held S) (e : Refusal) → IsAccepted old.now → FailsToFind g mid new e → IsFailing e
    opening_failed new e accepted (inl busy) = inr busy.0
    opening_failed new e accepted (inr fails) = let good = brought_good accepted in failed_in new e good.0 good.1 fails
