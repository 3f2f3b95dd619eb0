-- The tables keep the office from one step to the next.
use Rattle.exam_theorem.proofs.Words.{Database, state, HasCleanDisk, Ghosts, State, IsLeft, Commits, IsSound, Keeps}
use Rattle.exam_theorem.proofs.Words.{OfficeIn, KeepsIt, KeepsOn}
use Rattle.std.proofs.Common.{◌≡◌, ◌≤◌, ◌∙◌, ◌⊎◌, Result, Ok, Err, sym, subst, inl, inr, arith}
use Rattle.sqlite_trees.specs.View.{doubt}
use Rattle.exam_store.specs.Kept.{Rekeeps}
use Rattle.exam_store.specs.OnlyRead.{OnlyIsRead}

module _ {S : Type 0} (g : Ghosts S) where
  pub unchanged : (old new : OfficeIn S) → new ≡ old → KeepsOn g old new
  unchanged old new same =
      subst (λ (o : OfficeIn S). KeepsOn g old o) (sym same)
      (record { was_sound = λ sound. sound; kept = λ sound kept. kept })

  -- one step after the other
  pub then_on : (old mid new : OfficeIn S) → KeepsOn g old mid → KeepsOn g mid new → KeepsOn g old new
  then_on old mid new first second = record {
    was_sound = λ sound. first.was_sound (second.was_sound sound);
    kept = λ sound kept. second.kept sound (first.kept (second.was_sound sound) kept);
  }

  module _ (old new : OfficeIn S) where
    -- no fault is forgotten
    was_clean : doubt (state g old.database).is_clean ≤ doubt (state g new.database).is_clean
        → HasCleanDisk (state g new.database) → HasCleanDisk (state g old.database)
    was_clean grows clean = omega (arith, grows, clean)

    -- a command was carried out, in one transaction or not at all
    pub committed : {A E : Type 0} (result : Result A E) {Turns : Database → Database → Type 0}
        → Commits (state g old.database) (state g new.database) result Turns
        → (IsSound (state g new.database)
        → Rekeeps old.office new.office (state g old.database).now (state g new.database).now) → KeepsOn g old new
    unfolding KeepsIt
    committed (Ok done) made rekeeps = record {
      was_sound = λ sound. (was_clean made.survives.clean sound.0, made.was_open sound);
      kept = λ sound kept. (rekeeps sound kept.0, (made.turned sound.0).1);
    }
    committed (Err e) made rekeeps = record {
      was_sound = λ sound. (was_clean made.survives.clean sound.0, made.was_open sound);
      kept = λ sound kept. let same = made.same sound in (rekeeps sound kept.0, same.1 ∙ kept.1 ∙ sym same.0);
    }

    module _ (office : new.office ≡ old.office)
        (grows : doubt (state g old.database).is_clean ≤ doubt (state g new.database).is_clean) where
      -- the database is as it was, or back at its last commit
      left_kept : IsLeft (state g old.database) (state g new.database) → KeepsOn g old new
      unfolding KeepsIt
      left_kept (inl same) = record {
        was_sound = λ sound. (was_clean grows sound.0, same.0.was_open);
        kept = λ sound kept. (
          subst (λ (o : State). Keeps (state g new.database).now o) (sym office)
              (subst (λ (db : Database). Keeps db old.office) (sym same.0.now_is) kept.0),
          same.0.committed_is ∙ kept.1 ∙ sym same.0.now_is,
        );
      }
      left_kept (inr back) = record {
        was_sound = λ sound. (was_clean grows sound.0, back.was_open sound.1);
        kept = λ sound kept. let undone = back.undone sound.1 in (
          subst (λ (o : State). Keeps (state g new.database).now o) (sym office)
              (subst (λ (db : Database). Keeps db old.office) (sym (undone.0 ∙ kept.1)) kept.0),
          undone.1 ∙ sym undone.0,
        );
      }

    -- the appeals were read alone
    pub read_alone : OnlyIsRead g old new → KeepsOn g old new
    read_alone read = record {
      was_sound = λ sound. (by (read.left sound.0)).was_sound sound;
      kept = λ sound. (by (read.left sound.0)).kept sound;
    }
      where
        by : (new.database ≡ old.database) ⊎ IsLeft (state g old.database) (state g new.database) → KeepsOn g old new
        by (inl same) = unchanged old new (λ i. record { office = read.office i; database = same i })
        by (inr left) = left_kept read.office read.survives.clean left
