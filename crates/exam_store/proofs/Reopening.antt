-- What the next run opens after a stop in the middle of a command.
use Rattle.std.proofs.Common.{◌≡◌, ℕ, false, IsTrue, Result, Ok, Err, OnOk, inl, inr, sym, ap, subst, ◌∙◌}
use Rattle.std.proofs.lemmas.Bool.{both_ways, cases_Bool}
use Rattle.std.specs.List.{AllByRecursion}
use Rattle.sqlite_trees.specs.declared.store.Store.{Ghosts}
use Rattle.sqlite_trees.specs.Tree.{Trees}
use Rattle.sqlite.specs.Effect.{Database}
use Rattle.sqlite.specs.Held.{state}
use Rattle.sqlite.specs.State.{State as Shown, HasCleanDisk}
use Rattle.exam_types.specs.declared.refusal.Refusal.{Refusal}
use Rattle.exam_sql.specs.Content.{Holds, places}
use Rattle.exam_sql.specs.Tables.{store_schema}
use Rattle.exam_commands.specs.declared.command.Command.{Command}
use Rattle.exam_commands.specs.declared.command.Reply.{Reply}
use Rattle.exam_commands.specs.Orders.{IsInOrder}
use Rattle.exam_commands.specs.State.{State}
use Rattle.exam_commands.specs.Steps.{Step, StepTo}
use Rattle.exam_laws.proofs.Lasting.{new_facts}
use Rattle.exam_laws.proofs.OneResult.{one_result}
use Rattle.exam_tables.specs.Inside.{IsOurs}
use Rattle.exam_tables.specs.Transactions.{Commits, IsSound}
use Rattle.exam_store.specs.Applied.{IsApplied, MayApply, TurnsBy}
use Rattle.exam_store.specs.Kept.{IsKept, Keeps}
use Rattle.exam_store.specs.Stops.{IsBeforeOrAfter, IsFoundAs, Reopens, WritesNothing}
use Rattle.exam_store.specs.Stores.{OfficeIn}
use Rattle.exam_store.proofs.FormedRows.{same_office}

-- the office after an accepted command is in order
in_order : (done : Command) (today : ℕ) (before after : State) (reply : Reply)
    → Step done today before (Ok reply) after → IsInOrder after
in_order done today before after reply step =
    (subst (StepTo done before (Ok reply) after) (new_facts done today before reply after step) step).3

-- other trees that are the same keep the same office
moved : (db other : Database) (office : State) → Keeps db office → other.trees ≡ db.trees → IsOurs other
    → Keeps other office
moved db other office keeps same ours = record {
  all = keeps.all;
  contains = record {
    schema_is = ours.1.schema_is;
    rows = subst (λ (trees : Trees). AllByRecursion
        (λ t. Holds (places t) (trees t.tree) (keeps.all t.tree)) store_schema.tables) (sym same) keeps.contains.rows;
  };
  version = keeps.version;
  held = keeps.held;
}

module _ (crashed was now : Shown) (found : State) (opens : Reopens crashed was now found) where
  found_as : (db : Database) (office : State) → Keeps db office → was.now.trees ≡ db.trees → IsInOrder office
      → IsFoundAs was.now found office
  found_as db office keeps same order =
      let kept = moved db was.now office keeps same opens.ours in
      record {
        kept = kept;
        same = λ days. same_office kept.all found office
            (opens.finds.formed opens.clean kept.all kept.contains) kept.held order days;
      }

  module _ (done : Command) (today : ℕ) (old : Shown) (before : State) (order : IsInOrder before)
      (kept : IsKept old before) (clean : HasCleanDisk crashed) where
    pub before_or_after : (reply : Result Reply Refusal) → Commits old crashed reply (TurnsBy done today before)
        → ((trees : Trees) → old.may_leave trees → trees ≡ old.committed.trees)
        → IsBeforeOrAfter done today before was.now found
    before_or_after reply commits settled = elim (commits.survives.crash clean was.now.trees opens.left) [
      | inl earlier ↦ inl (found_as old.now before kept.0
          (settled was.now.trees earlier ∙ ap (λ (db : Database). db.trees) kept.1) order)
      | inr turned ↦ let made =
          turned.1 in inr (
            made.0,
            made.1,
            made.2,
            found_as turned.0 made.1 (made.3 kept.0) turned.2 (in_order done today before made.1 made.0 made.2),
          )
    ]

    pub after_answer : (reply : Result Reply Refusal) (after : State)
        → Commits old crashed reply (TurnsBy done today before) → MayApply done today before reply after
        → OnOk reply (IsFoundAs was.now found after)
    after_answer (Err e) after commits step = tt
    after_answer (Ok reply) after commits step =
        let turned = commits.turned clean in
        let made = turned.0 in
        let same : made.1 ≡ after = (one_result done before made.1 after (Ok made.0) (Ok reply) today made.2 step).1 in
        let keeps : Keeps crashed.now after = subst (Keeps crashed.now) same (made.3 kept.0) in
        found_as crashed.now after keeps
        (commits.settled clean was.now.trees opens.left ∙ ap (λ (db : Database). db.trees) turned.1)
        (in_order done today before after reply step)

-- over a connection that is shut
module _ {S : Type 0} (g : Ghosts S) (done : Command) (today : ℕ) (old new : OfficeIn S)
    (shut : (state g old.database).is_open ≡ false) (clean : HasCleanDisk (state g new.database)) where
  was_shut : IsTrue (state g new.database).is_open
      → (IsSound (state g new.database) → IsTrue (state g old.database).is_open) → ⊥
  was_shut now was_open = both_ways _ shut (was_open (clean, now))

  pub writes_nothing : (answer : Result Reply Refusal) → IsApplied g done today old answer new
      → WritesNothing g old answer new
  writes_nothing (Ok reply) applied = absurd (was_shut (applied.made.turned clean).2 applied.made.was_open)
  writes_nothing (Err e) applied = record {
    refused = tt;
    office = applied.step.0;
    shut = elim (cases_Bool (state g new.database).is_open)
        [ inl now ↦ absurd (was_shut now applied.made.was_open) | inr none ↦ none ];
    stop = λ trees may. elim
        ((applied.shut shut).crash clean trees may) [ inl before ↦ before | inr none ↦ absurd none ];
  }
