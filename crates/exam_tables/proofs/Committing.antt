-- What a transaction that was begun, has written and was ended leaves.
use Rattle.exam_tables.proofs.Words.{Trees, Error, Database, State, HasCleanDisk, Survives, IsUnchanged, survives_then}
use Rattle.exam_tables.proofs.Words.{survives_weaker, Refusal, refusal_of, IsLeft, Commits}
use Rattle.std.proofs.Common.{◌≡◌, inl, inr, false, Result, Ok, Err, OnOk, OnErr, IfErr, IsTrue, sym, subst, ◌∙◌, arith}
use Rattle.std.proofs.Common.{true≢false}
use Rattle.sqlite.specs.State.{Shows, IsRolledBack, KeepsCommit}
use Rattle.sqlite.specs.Steps.{FailsToCommit}

-- where the last commit was what was seen, a rollback goes back to that
rolled_back : (old last end : State) → IsTrue end.is_open → (IsTrue old.is_open → old.now ≡ old.committed)
    → KeepsCommit old last → IsRolledBack last end → (end.now ≡ old.now) × (end.committed ≡ old.committed)
rolled_back old last end open_now settled keeps back =
    let mid = back.was_open open_now in
    let whole = keeps.committed mid in
    let both = back.undone open_now in
    (both.0 ∙ whole ∙ sym (settled (keeps.was_open mid)), both.1 ∙ whole)

-- a commit that fails inside a transaction rolls back
failed_back : (last end : State) (e : Error) → IsTrue last.in_transaction → FailsToCommit last end e
    → IsRolledBack last end
failed_back last end e going (inl failed) = failed.3
failed_back last end e going (inr late) = absurd (true≢false (sym going ∙ late.1))

-- what was written is committed whole, or undone
pub committed_by : (old last end : State) (result : Result (Unit {0}) Refusal) (Turns : Database → Database → Type 0)
    → (IsTrue old.is_open → old.now ≡ old.committed)
    → (HasCleanDisk last → Turns old.now last.now × IsTrue last.in_transaction)
    → (HasCleanDisk last → KeepsCommit old last) → Survives old last (λ _. ⊥)
    → (HasCleanDisk end → OnOk result (IsTrue last.in_transaction × Shows last end last.now last.now false))
    → (HasCleanDisk end → IfErr result (λ e. (error : Error) × (e ≡ refusal_of error) × FailsToCommit last end error))
    → Survives last end (λ trees. trees ≡ last.now.trees)
    → ((trees : Trees) → IsTrue end.is_open → end.may_leave trees → trees ≡ end.committed.trees)
    → Commits old end result Turns
committed_by old last end (Ok u) Turns settled made kept before ok failed after left = record {
  turned = λ clean.
      let shown = (ok clean).1 in
      let was = made (omega (arith, after.clean)) in
      (subst (Turns old.now) (sym shown.now_is) was.0, shown.committed_is ∙ sym shown.now_is, shown.is_open);
  same = λ sound. tt;
  was_open = λ sound. (kept (omega (arith, after.clean))).was_open (ok sound.0).1.was_open;
  settled = λ clean trees may. left trees (ok clean).1.is_open may;
  survives = survives_then old last end _ _ _ (λ _ db none. absurd none)
      (λ clean db is. (last.now, (made (omega (arith, after.clean))).0, is)) before after;
}
committed_by old last end (Err e) Turns settled made kept before ok failed after left = record {
  turned = λ clean. tt;
  same = λ sound.
      let it = failed sound.0 in
      let early : HasCleanDisk last = omega (arith, after.clean) in
      rolled_back old last end sound.1 settled (kept early) (failed_back last end it.0 (made early).1 it.2);
  was_open = λ sound.
      let it = failed sound.0 in
      let early : HasCleanDisk last = omega (arith, after.clean) in
      (kept early).was_open ((failed_back last end it.0 (made early).1 it.2).was_open sound.1);
  settled = λ clean. tt;
  survives = survives_then old last end _ _ _ (λ _ db none. absurd none)
      (λ clean db is. (last.now, (made (omega (arith, after.clean))).0, is)) before after;
}

-- what was written is undone
pub undone_by : {A : Type 0} (old last end : State) (e : Refusal) (Turns : Database → Database → Type 0)
    → (IsTrue old.is_open → old.now ≡ old.committed) → (HasCleanDisk last → KeepsCommit old last)
    → Survives old last (λ _. ⊥)
    → (HasCleanDisk end → IsRolledBack last end) → Survives last end (λ _. ⊥) → Commits {A = A} old end (Err e) Turns
undone_by old last end e Turns settled kept before undone after = record {
  turned = λ clean. tt;
  same = λ sound. rolled_back old last end sound.1 settled (kept (omega (arith, after.clean))) (undone sound.0);
  was_open = λ sound. (kept (omega (arith, after.clean))).was_open ((undone sound.0).was_open sound.1);
  settled = λ clean. tt;
  survives = survives_then old last end _ _ _ (λ _ db none. absurd none) (λ _ db none. absurd none) before after;
}

-- what turns this database into some turns it into others
pub commits_at : {A E : Type 0} (old new : State) (result : Result A E) (T U : Database → Database → Type 0)
    → (HasCleanDisk new → (db : Database) → T old.now db → U old.now db) → Commits old new result T
    → Commits old new result U
commits_at old new (Ok u) T U more c = record {
  turned = λ clean. let it = c.turned clean in (more clean new.now it.0, it.1, it.2);
  same = c.same;
  was_open = c.was_open;
  settled = c.settled;
  survives = survives_weaker old new _ _ (λ clean trees it. (it.0, more clean it.0 it.1, it.2)) c.survives;
}
commits_at old new (Err e) T U more c = record {
  turned = λ clean. tt;
  same = c.same;
  was_open = c.was_open;
  settled = c.settled;
  survives = survives_weaker old new _ _ (λ clean trees it. (it.0, more clean it.0 it.1, it.2)) c.survives;
}

-- what turns into more turns into less
pub commits_weaker : {A E : Type 0} (old new : State) (result : Result A E) (T U : Database → Database → Type 0)
    → ((a b : Database) → T a b → U a b) → Commits old new result T → Commits old new result U
commits_weaker old new result T U more = commits_at old new result T U (λ clean. more old.now)

-- a commit that returns one value at `Ok` is one that returns another
pub commits_ok : {A B E : Type 0} (old new : State) (a : A) (b : B) (T : Database → Database → Type 0)
    → Commits {E = E} old new (Ok a) T → Commits {E = E} old new (Ok b) T
commits_ok old new a b T c =
    record { turned = c.turned; same = c.same; was_open = c.was_open; settled = c.settled; survives = c.survives }

pub commits_err : {A B E F : Type 0} (old new : State) (e : E) (f : F) (T : Database → Database → Type 0)
    → Commits {A = A} old new (Err e) T → Commits {A = B} old new (Err f) T
commits_err old new e f T c =
    record { turned = c.turned; same = c.same; was_open = c.was_open; settled = c.settled; survives = c.survives }

-- a commit after a call that has only read
pub then_commits : {A : Type 0} (old mid new : State) (result : Result A Refusal) (T : Database → Database → Type 0)
    → (HasCleanDisk mid → IsUnchanged old mid) → Survives old mid (λ _. ⊥) → Commits mid new result T
    → Commits old new result T
then_commits {A} old mid new result T same before c = record {
  turned = λ clean. turned_by result (c.turned clean) (same (early clean));
  same = λ sound. same_by result (c.same sound) (same (early sound.0));
  was_open = λ sound. (same (early sound.0)).0.was_open;
  settled = c.settled;
  survives = survives_then old mid new _ _ _ (λ _ db none. absurd none)
      (λ clean db is. (is.0, subst (λ d. T d is.0) (same (early clean)).0.now_is is.1, is.2)) before c.survives;
}
  where
    early : HasCleanDisk new → HasCleanDisk mid
    early clean = omega (arith, c.survives.clean)

    turned_by : (r : Result A Refusal) → OnOk r (T mid.now new.now × (new.committed ≡ new.now) × IsTrue new.is_open)
        → IsUnchanged old mid → OnOk r (T old.now new.now × (new.committed ≡ new.now) × IsTrue new.is_open)
    turned_by (Ok x) it same = (subst (λ d. T d new.now) same.0.now_is it.0, it.1, it.2)
    turned_by (Err e) it same = tt

    same_by : (r : Result A Refusal) → OnErr r ((new.now ≡ mid.now) × (new.committed ≡ mid.committed))
        → IsUnchanged old mid → OnErr r ((new.now ≡ old.now) × (new.committed ≡ old.committed))
    same_by (Ok x) it same = tt
    same_by (Err e) it same = (it.0 ∙ same.0.now_is, it.1 ∙ same.0.committed_is)

-- a call that only reads commits nothing, where what was seen is what was committed
pub reads_commit : {A : Type 0} (old new : State) (e : Refusal) (T : Database → Database → Type 0)
    → (IsTrue old.is_open → old.now ≡ old.committed) → (HasCleanDisk new → IsLeft old new) → Survives old new (λ _. ⊥)
    → Commits {A = A} old new (Err e) T
reads_commit old new e T settled left s = record {
  turned = λ clean. tt;
  same = λ sound. same_by sound.1 (left sound.0);
  was_open = λ sound. open_by sound.1 (left sound.0);
  settled = λ clean. tt;
  survives = survives_weaker old new _ _ (λ clean trees none. absurd none) s;
}
  where
    open_by : IsTrue new.is_open → IsLeft old new → IsTrue old.is_open
    open_by now (inl same) = same.0.was_open
    open_by now (inr back) = back.was_open now

    same_by : IsTrue new.is_open → IsLeft old new → (new.now ≡ old.now) × (new.committed ≡ old.committed)
    same_by now (inl same) = (same.0.now_is, same.0.committed_is)
    same_by now (inr back) = let both = back.undone now in (both.0 ∙ sym (settled (back.was_open now)), both.1)

pub unchanged_commits : {A : Type 0} (old new : State) (a : A) (T : Database → Database → Type 0)
    → (IsTrue old.is_open → old.now ≡ old.committed) → (HasCleanDisk new → IsUnchanged old new)
    → (HasCleanDisk new → T old.now new.now)
    → ((trees : Trees) → IsTrue new.is_open → new.may_leave trees → trees ≡ new.committed.trees)
    → Survives old new (λ _. ⊥) → Commits {E = Refusal} old new (Ok a) T
unchanged_commits old new a T settled same turns left s = record {
  turned = λ clean. let it =
      same clean in (turns clean, it.0.committed_is ∙ sym (settled it.0.was_open) ∙ sym it.0.now_is, it.0.is_open);
  same = λ sound. tt;
  was_open = λ sound. (same sound.0).0.was_open;
  settled = λ clean trees may. left trees (same clean).0.is_open may;
  survives = survives_weaker old new _ _ (λ clean trees none. absurd none) s;
}
