-- Why what was written is not committed.
use Rattle.exam_tables.proofs.Words.{both_ways, Trees, Error, State, HasCleanDisk, IsUnchanged, Survives, Refusal}
use Rattle.exam_tables.proofs.Words.{BadStore, NoMemory, Store, refusal_of, FailsToWrite, Write}
use Rattle.std.proofs.Common.{◌≡◌, ◌≤◌, List, inl, inr, ap, sym, subst, ◌∙◌, Result, Ok, Err, IfErr, IsTrue}
use Rattle.sqlite_trees.specs.declared.error.StoreError.TheVariants.{OutOfMemory, Io, Corrupt, Full, Broken, Unstorable}
use Rattle.sqlite.specs.Steps.{FailsToCommit}
use Rattle.exam_tables.specs.Inside.{FailsFor, IsOurs, RefusesOne}
use Rattle.exam_tables.specs.Unasked.{FailsToAsk}
use Rattle.exam_tables.proofs.Steps.{down_later, down_longer}

-- what was written is undone
pub undone : (Against : Type 0) (old last end : State) (e : Refusal) → last.faults ≤ end.faults
    → FailsFor Against old last e → FailsFor Against old end e
undone Against old last end e up (inl lacks) = inl lacks
undone Against old last end e up (inr (told, inl down)) = inr (told, inl (down_longer old last end up down))
undone Against old last end e up (inr (told, inr refused)) = inr (told, inr refused)

module _ (Against : Type 0) {P Q : Trees → Type 0} (old last end : State) (before : Survives old last P)
    (after : Survives last end Q) (clean : HasCleanDisk last) (going : IsTrue last.in_transaction) where
  not_committed : (e : Refusal) (error : Error) → e ≡ refusal_of error → FailsToCommit last end error
      → FailsFor Against old end e
  not_committed e error told (inl (OutOfMemory, same, why, back, tells)) = inl (told ∙ ap refusal_of same)
  not_committed e error told (inl (Io, same, why, back, tells)) =
      inr (told ∙ ap refusal_of same, inl (down_later old last end before clean after.counts (inl why)))
  not_committed e error told (inl (Corrupt, same, why, back, tells)) =
      inr (told ∙ ap refusal_of same, inl (down_later old last end before clean after.counts (inl why)))
  not_committed e error told (inl (Full, same, why, back, tells)) =
      inr (told ∙ ap refusal_of same, inl (down_later old last end before clean after.counts (inl why)))
  not_committed e error told (inl (Broken, same, why, back, tells)) =
      inr (told ∙ ap refusal_of same, inl (down_later old last end before clean after.counts (inr why)))
  not_committed e error told (inl (Unstorable, same, why, back, tells)) = absurd why
  not_committed e error told (inr late) = absurd (both_ways _ late.1 going)

  -- what was written is not committed
  pub uncommitted : (result : Result (Unit {0}) Refusal)
      → IfErr result (λ e. (error : Error) × (e ≡ refusal_of error) × FailsToCommit last end error)
      → IfErr result (FailsFor Against old end)
  uncommitted (Ok u) failed = tt
  uncommitted (Err e) failed = not_committed e failed.0 failed.1 failed.2

-- no statement could be run
pub unasked : (Against : Type 0) (old new : State) (e : Refusal) → FailsToAsk old new e → FailsFor Against old new e
unasked Against old new e (error, is, (OutOfMemory, told, why, back, tells)) = inl (is ∙ ap refusal_of told)
unasked Against old new e (error, is, (Io, told, why, back, tells)) = inr (is ∙ ap refusal_of told, inl (inl why))
unasked Against old new e (error, is, (Corrupt, told, why, back, tells)) = inr (is ∙ ap refusal_of told, inl (inl why))
unasked Against old new e (error, is, (Full, told, why, back, tells)) = inr (is ∙ ap refusal_of told, inl (inl why))
unasked Against old new e (error, is, (Broken, told, why, back, tells)) = inr (is ∙ ap refusal_of told, inl (inr why))
unasked Against old new e (error, is, (Unstorable, told, why, back, tells)) = absurd why

-- what is not written after a call that left the database as it was
module _ (writes : List Write) {P : Trees → Type 0} (old mid new : State) (before : Survives old mid P)
    (clean : HasCleanDisk mid)
    (up : mid.faults ≤ new.faults) (same : IsUnchanged old mid) where
  not_written : (e : Refusal) → FailsToWrite writes mid new e → FailsToWrite writes old new e
  not_written e (inl lacks) = inl lacks
  not_written e (inr (told, inl down)) = inr (told, inl (down_later old mid new before clean up down))
  not_written e (inr (told, inr refused)) =
      inr (
        told,
        inr (subst (λ limit. RefusesOne writes limit old.now) before.limit
            (subst (λ db. RefusesOne writes mid.step_limit db) same.0.now_is refused)),
      )

  pub written_later : IsOurs old.now → (result : Result (Unit {0}) Refusal)
      → (IsOurs mid.now → IfErr result (FailsToWrite writes mid new)) → IfErr result (FailsToWrite writes old new)
  written_later ours (Ok u) failed = tt
  written_later ours (Err e) failed = not_written e (failed (subst IsOurs (sym same.0.now_is) ours))

-- a change that is not made is refused as another failure than `BadStore`
pub not_bad : (Against : Type 0) (old new : State) (e : Refusal) → FailsFor Against old new e → e ≡ BadStore → ⊥
not_bad Against old new e (inl lacks) bad = let same : NoMemory ≡ BadStore = sym lacks ∙ bad in absurd cc
not_bad Against old new e (inr (told, why)) bad = let same : Store ≡ BadStore = sym told ∙ bad in absurd cc
