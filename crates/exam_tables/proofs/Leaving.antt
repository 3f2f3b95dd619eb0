-- What calls that only read leave.
use Rattle.exam_tables.proofs.Words.{Row, Error, SqliteFailure, OutOfMemory, State, Shown, FailsToQuery, IsNotRun}
use Rattle.exam_tables.proofs.Words.{IsUnchanged, Survives, unchanged_then, survives_then, survives_weaker, Refusal}
use Rattle.exam_tables.proofs.Words.{NoMemory, Store, BadStore, refusal_of, IsLeft}
use Rattle.std.proofs.Common.{◌≡◌, ◌⊎◌, arith, Bool, ℕ, List, [], Option, None, Some, inl, inr, Result, Ok, Err, OnOk}
use Rattle.std.proofs.Common.{IsTrue, refl, sym, ap, subst, ◌∙◌}
use Rattle.sqlite_schema.specs.declared.command.Returning.{Returning}
use Rattle.sqlite_trees.specs.declared.error.StoreError.{StoreError}
use Rattle.sqlite_trees.specs.declared.error.StoreError.TheVariants as cause
use Rattle.sqlite.specs.Clock.{timed}
use Rattle.sqlite.specs.State.{CommitsShowing, FailsToShow}
use Rattle.sqlite.specs.State.{store_error}
use Rattle.exam_sql.specs.Refusals.{is_failure}
use Rattle.exam_sql.specs.Made.{made_schema}
use Rattle.exam_sql.proofs.Quiet.{IsQuery, commits_nothing}
use Rattle.exam_tables.specs.Loaded.{FailsToLoad, IsStill, IsUnderstood, OnlyReads, Told}
use Rattle.exam_tables.proofs.Steps.{failure}

pub left_then : (old mid new : State) → IsUnchanged old mid → IsLeft mid new → IsLeft old new
left_then old mid new first (inl same) = inl (unchanged_then old mid new first same)
left_then old mid new first (inr back) = inr (record {
  was_open = λ open_now. first.0.was_open;
  undone = λ open_now. let it = back.undone open_now in (it.0 ∙ first.0.committed_is, it.1 ∙ first.0.committed_is);
  autocommit = back.autocommit;
  unmarked = back.unmarked;
  counts = record {
    changes = back.counts.changes ∙ first.1.changes;
    last_rowid = back.counts.last_rowid ∙ first.1.last_rowid;
  };
})

-- a call that reads, after one that has left all as it was
pub then_reads : {A E : Type 0} (old mid new : State) (result : Result A E) → IsUnchanged old mid
    → OnlyReads mid new result → OnlyReads old new result
then_reads old mid new (Ok value) first next = unchanged_then old mid new first next
then_reads old mid new (Err e) first next = left_then old mid new first next

-- what is made of what was read
pub reads_only : {A E : Type 0} (old new : State) (result : Result A E) → IsUnchanged old new → OnlyReads old new result
reads_only old new (Ok value) same = same
reads_only old new (Err e) same = inl same

pub still_itself : (s : State) → IsStill s s
still_itself s = record {
  now = refl;
  committed = refl;
  in_transaction = refl;
  is_open = refl;
  limit = refl;
  counts = omega arith;
}

pub still_then : (old mid new : State) → IsUnchanged old mid → Survives old mid (λ _. ⊥) → IsStill mid new
    → IsStill old new
still_then old mid new first survives next = record {
  now = next.now ∙ first.0.now_is;
  committed = next.committed ∙ first.0.committed_is;
  in_transaction = next.in_transaction ∙ first.0.mode;
  is_open = next.is_open ∙ (first.0.is_open ∙ sym first.0.was_open);
  limit = next.limit ∙ survives.limit;
  counts = let up = survives.counts in let more = next.counts in omega (arith, up, more);
}

-- a query commits nothing
pub query_survives : (text : List ℕ) → IsQuery text → (old new : State) → Survives old new (CommitsShowing text [] old)
    → Survives old new (λ _. ⊥)
query_survives text query old new s =
    survives_weaker old new _ _ (λ clean db commits. commits_nothing text query [] old db commits) s

-- one call that commits nothing after another
pub both_survive : (old mid new : State) → Survives old mid (λ _. ⊥) → Survives mid new (λ _. ⊥)
    → Survives old new (λ _. ⊥)
both_survive old mid new first next = survives_then old mid new _ _ _ (λ _ db none. none) (λ _ db none. none) first next

-- an error that is no fault of a text is reported as `NoMemory` or as `Store`
pub not_bad_store : (e : Refusal) (error : Error) → e ≡ refusal_of error
    → (error ≡ SqliteFailure OutOfMemory) ⊎ IsTrue (is_failure error) → e ≡ BadStore → ⊥
not_bad_store e error told (inl lacks) bad = let same : NoMemory ≡ BadStore =
    sym (told ∙ ap refusal_of lacks) ∙ bad in absurd cc
not_bad_store e error told (inr named) bad = let same : Store ≡ BadStore =
    sym (told ∙ failure error named) ∙ bad in absurd cc

-- a query that fails, where the tables of some version exist
pub fails_to_load : (text : List ℕ)
    → ((old new : State) (has_marks : Bool) → old.now.schema ≡ made_schema has_marks → (error : Error)
    → FailsToQuery text [] old new error → (error ≡ SqliteFailure OutOfMemory) ⊎ IsTrue (is_failure error))
    → (old new : State) (e : Refusal) → Told text old new e → FailsToLoad text old new e
fails_to_load text known old new e failed = (
  failed,
  λ there. not_bad_store e failed.0 failed.1
      (known old new there.1.has_marks there.1.contains.schema_is failed.0 failed.2),
)

-- a text whose rows were shown is understood
pub shown_understood : (text : List ℕ) (old new : State) (rows : List Row) → Shown text [] old new rows
    → IsUnderstood old.now text
unfolding Shown
shown_understood text old new rows shown = (shown.0, shown.1.is)

-- so it was before, where nothing has changed
pub understood_before : (text : List ℕ) (old mid : State) → IsUnchanged old mid → IsUnderstood mid.now text
    → IsUnderstood old.now text
understood_before text old mid same is = subst (λ db. IsUnderstood db text) same.0.now_is is

-- whatever is made of what was read
pub understood_still : {A E P : Type 0} (result : Result A E) → P → OnOk result P
understood_still (Ok value) is = is
understood_still (Err e) is = tt

-- a failure of the disk is never reported as `BadStore`
pub no_disk : (why : StoreError) → refusal_of (store_error why) ≡ BadStore → ⊥
no_disk cause.OutOfMemory e = absurd cc
no_disk cause.Io e = absurd cc
no_disk cause.Corrupt e = absurd cc
no_disk cause.Full e = absurd cc
no_disk cause.Broken e = absurd cc
no_disk cause.Unstorable e = absurd cc

-- a query that is reported as `BadStore` has changed nothing
pub bad_unchanged : (text : List ℕ) (params : Row) (old new : State) (e : Error) → FailsToQuery text params old new e
    → refusal_of e ≡ BadStore → IsUnchanged old new
unfolding FailsToQuery IsNotRun
bad_unchanged text params old new e (inl (inl (none, same))) bad = same
bad_unchanged text params old new e (inl (inr (why, told, has, back, tells))) bad =
    absurd (no_disk why (sym (ap refusal_of told) ∙ bad))
bad_unchanged text params old new e (inr (c, it, fails)) bad = of_rows c.returning fails
  where
    of_rows : (what : Option Returning) → FailsToShow old new text c (timed params c.formats it.now) e what
        → IsUnchanged old new
    of_rows None h = h.3
    of_rows (Some what) (inl h) = h.1
    of_rows (Some what) (inr (why, told, has, back, tells)) = absurd (no_disk why (sym (ap refusal_of told) ∙ bad))
