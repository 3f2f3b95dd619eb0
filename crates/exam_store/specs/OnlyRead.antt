-- What reading appeals leaves, and that one reading after another leaves it too.
use Rattle.std.specs.Prelude.{◌≡◌, ◌⊎◌}
use Rattle.std.proofs.Common.{inl, inr, refl, sym, subst, ◌∙◌}
use Rattle.sqlite_trees.specs.declared.store.Store.{Ghosts}
use Rattle.sqlite.specs.Held.{Held, state}
use Rattle.sqlite.specs.State.{State as Shown, HasCleanDisk, IsRolledBack, Survives}
use Rattle.exam_tables.specs.Loaded.{IsLeft}
use Rattle.exam_tables.proofs.Leaving.{both_survive, left_then}
use Rattle.exam_tables.proofs.RowByRow.{survives_itself}
use Rattle.exam_store.specs.Stores.{OfficeIn}

-- What reading leaves: the office stays, no fault of the disk is forgotten, and the database only is read, also over a
-- crash.
pub record OnlyIsRead {S : Type 0} (g : Ghosts S) (old new : OfficeIn S) : Type 0 where
  pub office : new.office ≡ old.office
  pub clean : HasCleanDisk (state g new.database) → HasCleanDisk (state g old.database)
  pub left : HasCleanDisk (state g new.database)
      → (new.database ≡ old.database) ⊎ IsLeft (state g old.database) (state g new.database)
  pub survives : Survives (state g old.database) (state g new.database) (λ _. ⊥)

-- ---- one reading after another

-- a transaction that was undone stays undone
undone_then : (old mid new : Shown) → IsRolledBack old mid → IsLeft mid new → IsLeft old new
undone_then old mid new first (inl same) = inr (record {
  was_open = λ open_now. first.was_open same.0.was_open;
  undone = λ open_now. let it = first.undone same.0.was_open in (same.0.now_is ∙ it.0, same.0.committed_is ∙ it.1);
  autocommit = same.0.mode ∙ first.autocommit;
  unmarked = same.2 ∙ first.unmarked;
  counts = record {
    changes = same.1.changes ∙ first.counts.changes;
    last_rowid = same.1.last_rowid ∙ first.counts.last_rowid;
  };
})
undone_then old mid new first (inr next) = inr (record {
  was_open = λ open_now. first.was_open (next.was_open open_now);
  undone = λ open_now.
      let it = first.undone (next.was_open open_now) in
      let last = next.undone open_now in
      (last.0 ∙ it.1, last.1 ∙ it.1);
  autocommit = next.autocommit;
  unmarked = next.unmarked;
  counts = record {
    changes = next.counts.changes ∙ first.counts.changes;
    last_rowid = next.counts.last_rowid ∙ first.counts.last_rowid;
  };
})

left_after : (old mid new : Shown) → IsLeft old mid → IsLeft mid new → IsLeft old new
left_after old mid new (inl same) next = left_then old mid new same next
left_after old mid new (inr back) next = undone_then old mid new back next

module _ {S : Type 0} (g : Ghosts S) where
  pub read_itself : (o : OfficeIn S) → OnlyIsRead g o o
  read_itself o = record {
    office = refl;
    clean = λ clean. clean;
    left = λ clean. inl refl;
    survives = survives_itself (state g o.database);
  }

  pub read_then : (a b c : OfficeIn S) → OnlyIsRead g a b → OnlyIsRead g b c → OnlyIsRead g a c
  read_then a b c first next = record {
    office = next.office ∙ first.office;
    clean = λ clean. first.clean (next.clean clean);
    left = λ clean. both (first.left (next.clean clean)) (next.left clean);
    survives = both_survive (state g a.database) (state g b.database) (state g c.database) first.survives next.survives;
  }
    where
      both : (b.database ≡ a.database) ⊎ IsLeft (state g a.database) (state g b.database)
          → (c.database ≡ b.database) ⊎ IsLeft (state g b.database) (state g c.database)
          → (c.database ≡ a.database) ⊎ IsLeft (state g a.database) (state g c.database)
      both (inl same) (inl still) = inl (still ∙ same)
      both (inl same) (inr left) = inr (subst (λ (d : Held S). IsLeft (state g d) (state g c.database)) same left)
      both (inr left) (inl still) =
          inr (subst (λ (d : Held S). IsLeft (state g a.database) (state g d)) (sym still) left)
      both (inr left) (inr more) =
          inr (left_after (state g a.database) (state g b.database) (state g c.database) left more)
