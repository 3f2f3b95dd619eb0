-- One step inside a transaction, and one after another.
use Rattle.exam_tables.proofs.Words.{map-append, Row, Trees, State, HasCleanDisk, Survives, survives_then, Refusal}
use Rattle.exam_tables.proofs.Words.{Subject, Status, kind_number, state_number, refusal_of, Contains, Becomes, Makes}
use Rattle.exam_tables.proofs.Words.{Write, FailsToWrite, Database, Error, SqliteFailure, OutOfMemory, Store, both_ways}
use Rattle.exam_tables.proofs.Words.{cases_Bool}
use Rattle.std.proofs.Common.{Option, Some, None, Bool, true, false, if◌then◌else◌, lit<, ◌≡◌, ◌<◌, ◌^◌, pos, to_z}
use Rattle.std.proofs.Common.{of_z, w64, ℕ, List, [], ◌∷◌, ◌++◌, Ok, Err, Result, IsTrue, refl, sym, ap}
use Rattle.std.proofs.Common.{subst, ◌∙◌, ◌≤◌, inl, inr, append_assoc, arith, ◌+◌, drop, map, take}
use Rattle.std.proofs.lemmas.Int.{to_z_pos}
use Rattle.std.proofs.lemmas.List.{take-append-drop}
use Rattle.sqlite_value.specs.declared.value.Value.TheVariants.{Text}
use Rattle.sqlite.specs.Values.{bound_value, or_null}
use Rattle.sqlite.proofs.InsideLemmas.{keeps_then}
use Rattle.exam_rules.specs.declared.rows.Subject.TheVariants.{Hall, Clash, Arrangement}
use Rattle.exam_rules.specs.declared.rows.Status.TheVariants.{Pending, Granted, Refused, Retracted, Superseded}
use Rattle.exam_tables.specs.Inside.{AreRun, Runs, written, FailsFor}
use Rattle.exam_sql.specs.Refusals.{Fails, Refuses, IsDown, is_failure}
use Rattle.exam_sql.proofs.Edits.{Edits}
use Rattle.sqlite_disk.specs.Disk.{MoreFaults}
use Rattle.sqlite.specs.declared.error.Error.TheVariants.{SqlInputError}

-- the writes of a list and then those of another
pub written_append : (first next : List Write) (all : Trees)
    → written (first ++ next) all ≡ written next (written first all)
written_append [] next all = refl
written_append (w ∷ first) next all = written_append first next (w.change all)

-- a disk that is clean was so before
early : (old mid new : State) → Survives mid new (λ _. ⊥) → HasCleanDisk new → HasCleanDisk mid
early old mid new s clean = omega (arith, s.clean)

-- an error that is a failure is reported as `Store`
pub failure : (error : Error) → IsTrue (is_failure error) → refusal_of error ≡ Store
failure (SqliteFailure OutOfMemory) is = absurd cc
failure (SqlInputError fault) is = absurd cc
failure _ is = refl

-- a statement that fails
pub fails_for : (Against : Type 0) (old new : State) (e : Refusal) (error : Error) → e ≡ refusal_of error
    → Fails old new Against error → FailsFor Against old new e
fails_for Against old new e error told (inl lacks) = inl (told ∙ ap refusal_of lacks)
fails_for Against old new e error told (inr (named, inl down)) = inr (told ∙ failure error named, inl down)
fails_for Against old new e error told (inr (named, inr against)) = inr (told ∙ failure error named, inr against)

-- a write that fails
fails_one : (sql : List ℕ) (params : Row) (change : Trees → Trees) (old new : State) (e : Refusal) (error : Error)
    → e ≡ refusal_of error → Fails old new (Refuses old.step_limit old.now sql params) error
    → FailsToWrite (record { sql = sql; params = params; change = change } ∷ []) old new e
fails_one sql params change old new e error told (inl lacks) = inl (told ∙ ap refusal_of lacks)
fails_one sql params change old new e error told (inr (named, inl down)) = inr (told ∙ failure error named, inl down)
fails_one sql params change old new e error told (inr (named, inr refused)) =
    inr (
      told ∙ failure error named,
      inr (
        [],
        record { sql = sql; params = params; change = change },
        [],
        refl,
        old.now,
        refl,
        (λ all was. was),
        refused,
      ),
    )

-- what a statement that was run makes of the rows
pub makes_by : {change : Trees → Trees} {sql : List ℕ} {params : Row} → Edits change sql params
    → (old new : State) (result : Result (Unit {0}) Refusal) → Runs sql params old new result
    → Makes old new result (record { sql = sql; params = params; change = change } ∷ [])
makes_by edits old new (Ok u) runs = record {
  made = λ clean going. let h = runs.ran clean going in (edits.does old new (Ok h.0) h.1, h.2);
  ran = λ clean going ours.
      let h = runs.ran clean going in (new.now, (edits.answers old new ours.1.schema_is).done h.0 h.1, refl);
  failed = λ clean going ours. tt;
  kept = runs.kept;
  survives = runs.survives;
  told = tt;
}
makes_by {change} {sql} {params} edits old new (Err e) runs = record {
  made = λ clean going. tt;
  ran = λ clean going ours. tt;
  failed = λ clean going ours.
      let it = runs.failed clean going in
      fails_one sql params change old new e it.0 it.1 ((edits.answers old new ours.1.schema_is).fails it.0 it.2);
  kept = runs.kept;
  survives = runs.survives;
  told = runs.told;
}

more_faults : (a b c : ℕ) → a ≤ b → MoreFaults b c → MoreFaults a c
more_faults a b c up more = omega (arith, up, more)

still_more : (a b c : ℕ) → MoreFaults a b → b ≤ c → MoreFaults a c
still_more a b c more up = omega (arith, up, more)

-- what went wrong in the second of two calls went wrong in both
pub down_later : {P : Trees → Type 0} (old mid new : State) → Survives old mid P → HasCleanDisk mid
    → mid.faults ≤ new.faults → IsDown mid new → IsDown old new
down_later old mid new s clean up (inl more) = inl (more_faults old.faults mid.faults new.faults s.counts more)
down_later old mid new s clean up (inr shut) = elim (cases_Bool old.is_open) [
  | inl was ↦ elim (s.closes clean was) [
    | inl still ↦ absurd (both_ways _ shut still)
    | inr more ↦ inl
        (still_more old.faults mid.faults new.faults more up)
  ]
  | inr was ↦ inr was
]

pub down_longer : (old mid new : State) → mid.faults ≤ new.faults → IsDown old mid → IsDown old new
down_longer old mid new up (inl more) = inl (still_more old.faults mid.faults new.faults more up)
down_longer old mid new up (inr shut) = inr shut

-- the writes of a list run, and then those of another
runs_append : (limit : Option ℕ) (first next : List Write) (old mid new : Database) → AreRun limit first old mid
    → AreRun limit next mid new → AreRun limit (first ++ next) old new
runs_append limit [] next old mid new one two = subst (λ db. AreRun limit next db new) one two
runs_append limit (w ∷ first) next old mid new (at, ran, one) two =
    (at, ran, runs_append limit first next at mid new one two)

fails_later : (first next : List Write) (old mid new : State) (e : Refusal) → Survives old mid (λ _. ⊥)
    → HasCleanDisk mid → mid.faults ≤ new.faults → AreRun old.step_limit first old.now mid.now
    → Becomes first old.now mid.now → FailsToWrite next mid new e
    → FailsToWrite (first ++ next) old new e
fails_later first next old mid new e s clean up ran made (inl lacks) = inl lacks
fails_later first next old mid new e s clean up ran made (inr (told, inl down)) =
    inr (told, inl (down_later old mid new s clean up down))
fails_later first next old mid new e s clean up ran made
    (inr (told, inr (done, one, rest, are, at, after, becomes, refused))) =
    let run = runs_append old.step_limit first done old.now mid.now at ran
    (subst (λ limit. AreRun limit done mid.now at) s.limit after) in
    inr (
      told,
      inr (
        first ++ done,
        one,
        rest,
        ap (λ l. first ++ l) are ∙ sym (append_assoc first done (one ∷ rest)),
        at,
        run,
        (λ all was. subst (Contains at) (sym (written_append first done all)) (becomes _ (made all was))),
        subst (λ limit. Refuses limit at one.sql one.params) s.limit refused,
      ),
    )

-- one step after another, where the first succeeded
pub makes_then : (old mid new : State) (result : Result (Unit {0}) Refusal) (first next : List Write)
    → Makes old mid (Ok tt) first → Makes mid new result next → Makes old new result (first ++ next)
makes_then old mid new (Ok u) first next a b = record {
  made = λ clean going.
      let one = a.made (early old mid new b.survives clean) going in
      let two = b.made clean one.1 in
      (λ all was. subst (Contains new.now) (sym (written_append first next all)) (two.0 _ (one.0 all was)), two.1);
  ran = λ clean going ours.
      let before = early old mid new b.survives clean in
      let one = a.made before going in
      let two = b.ran clean one.1 (written first ours.0, one.0 ours.0 ours.1) in
      runs_append old.step_limit first next old.now mid.now new.now (a.ran before going ours)
      (subst (λ limit. AreRun limit next mid.now new.now) a.survives.limit two);
  failed = λ clean going ours. tt;
  kept = λ clean. keeps_then old mid new (a.kept (early old mid new b.survives clean)) (b.kept clean);
  survives = survives_then old mid new _ _ _ (λ _ db none. none) (λ _ db none. none) a.survives b.survives;
  told = tt;
}
makes_then old mid new (Err e) first next a b = record {
  made = λ clean going. tt;
  ran = λ clean going ours. tt;
  failed = λ clean going ours.
      let before = early old mid new b.survives clean in
      let one = a.made before going in
      fails_later first next old mid new e a.survives before b.survives.counts (a.ran before going ours) one.0
      (b.failed clean one.1 (written first ours.0, one.0 ours.0 ours.1));
  kept = λ clean. keeps_then old mid new (a.kept (early old mid new b.survives clean)) (b.kept clean);
  survives = survives_then old mid new _ _ _ (λ _ db none. none) (λ _ db none. none) a.survives b.survives;
  told = b.told;
}

-- a step that was refused, where others were to follow
pub makes_part : (old new : State) (e : Refusal) (first rest : List Write) → Makes old new (Err e) first
    → Makes old new (Err e) (first ++ rest)
makes_part old new e first rest a =
    record {
      made = λ clean going. tt;
      ran = λ clean going ours. tt;
      failed =
          λ clean going ours. part (a.failed clean going ours);
      kept = a.kept;
      survives = a.survives;
      told = a.told;
    }
  where
    part : FailsToWrite first old new e → FailsToWrite (first ++ rest) old new e
    part (inl lacks) = inl lacks
    part (inr (told, inl down)) = inr (told, inl down)
    part (inr (told, inr (done, one, more, are, at, run, becomes, refused))) =
        inr (
          told,
          inr (
            done,
            one,
            more ++ rest,
            ap (λ l. l ++ rest) are ∙ append_assoc done (one ∷ more) rest,
            at,
            run,
            becomes,
            refused,
          ),
        )

-- a number that is passed as an i64
pub passed : (n : ℕ) → n < 2 ^ 63 → to_z w64 (of_z w64 (pos n)) ≡ pos n
passed n small = to_z_pos w64 n small

pub flag_small : (b : Bool) → (if b then 1 else 0) < 2 ^ 63
flag_small true = lit< tt
flag_small false = lit< tt

pub kind_small : (s : Subject) → kind_number s < 2 ^ 63
kind_small (Hall hall) = lit< tt
kind_small (Clash paper) = lit< tt
kind_small (Arrangement wanted) = lit< tt

pub state_small : (s : Status) → state_number s < 2 ^ 63
state_small Pending = lit< tt
state_small (Granted answer) = lit< tt
state_small (Refused answer) = lit< tt
state_small Retracted = lit< tt
state_small (Superseded answer) = lit< tt

-- a text or NULL is bound as it is
pub bound_answer : (answer : Option (List ℕ)) → bound_value (or_null Text answer) ≡ or_null Text answer
bound_answer None = refl
bound_answer (Some text) = refl

-- writes that are made one after another
module _ {Y : Type 0} (f : Y → Write) (all : List Y) (at : ℕ) (y : Y)
    (more : take (at + 1) all ≡ take at all ++ y ∷ []) (old mid new : State)
    (so_far : Makes old mid (Ok tt) (map f (take at all))) where
  pub one_more : Makes mid new (Ok tt) (f y ∷ []) → Makes old new (Ok tt) (map f (take (at + 1) all))
  one_more next = subst (Makes old new (Ok tt)) (sym (ap (map f) more ∙ map-append f (take at all) (y ∷ [])))
      (makes_then old mid new (Ok tt) (map f (take at all)) (f y ∷ []) so_far next)

  pub one_fails : (e : Refusal) → Makes mid new (Err e) (f y ∷ []) → Makes old new (Err e) (map f all)
  one_fails e next = subst (Makes old new (Err e)) whole
      (makes_part old new e _ (map f (drop (at + 1) all))
      (makes_then old mid new (Err e) (map f (take at all)) (f y ∷ []) so_far next))
    where
      whole : (map f (take at all) ++ f y ∷ []) ++ map f (drop (at + 1) all) ≡ map f all
      whole =
          ap (λ l. l ++ map f (drop (at + 1) all)) (sym (map-append f (take at all) (y ∷ [])))
          ∙ sym (map-append f (take at all ++ y ∷ []) (drop (at + 1) all))
          ∙ ap (λ l. map f (l ++ drop (at + 1) all)) (sym more) ∙ ap (map f) (take-append-drop (at + 1) all)
