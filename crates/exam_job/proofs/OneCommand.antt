-- A list of one command has one answer, and does what the command does.
use Rattle.std.proofs.Common.{◌≡◌, ℕ, List, [], ◌∷◌, ◌++◌, length, Option, Some, Result, refl, sym, ap, subst}
use Rattle.std.specs.Prelude.{option_to_list}
use Rattle.sqlite.specs.Held.{state}
use Rattle.sqlite_trees.specs.declared.store.Store.{Ghosts}
use Rattle.exam_types.specs.declared.refusal.Refusal.{Refusal}
use Rattle.exam_commands.specs.declared.command.Command.{Command}
use Rattle.exam_commands.specs.declared.command.Reply.{Reply}
use Rattle.exam_tables.specs.Transactions.{IsSound}
use Rattle.exam_store.specs.Applied.{AreApplied, IsApplied}
use Rattle.exam_store.specs.Kept.{Rekeeps}
use Rattle.exam_store.specs.Stores.{OfficeIn}
use Rattle.exam_job.specs.Jobs.{IsCarriedOut}

-- the last of a list of one
last_of_one : {A : Type 0} (x y : A) (rest : List A) → y ∷ [] ≡ rest ++ x ∷ [] → y ≡ x
last_of_one x y [] is = cc
last_of_one x y (z ∷ []) is = absurd cc
last_of_one x y (z ∷ w ∷ rest) is = absurd cc

module _ {S : Type 0} (g : Ghosts S) (done : Command) (today : ℕ) (old new : OfficeIn S) where
  one_answer : (answers : List (Result Reply Refusal)) → AreApplied g ((done, today) ∷ []) old answers new
      → (answer : Result Reply Refusal) × (answers ≡ answer ∷ []) × IsApplied g done today old answer new
  one_answer [] each = absurd each
  one_answer (answer ∷ []) each =
      (answer, refl, subst (λ (o : OfficeIn S). IsApplied g done today old answer o) (sym each.2) each.1)
  one_answer (answer ∷ other ∷ answers) each = absurd each.2

  pub is_one : (answers : List (Result Reply Refusal)) → AreApplied g ((done, today) ∷ []) old answers new
      → length answers ≡ 1
  is_one answers each = ap length (one_answer answers each).1

  -- the answer that is popped is the command's
  pub carried : (answers rest : List (Result Reply Refusal)) (popped : Option (Result Reply Refusal))
      (answer : Result Reply Refusal) → AreApplied g ((done, today) ∷ []) old answers new
      → (IsSound (state g new.database)
      → Rekeeps old.office new.office (state g old.database).now (state g new.database).now)
      → answers ≡ rest ++ option_to_list popped → popped ≡ Some answer → IsCarriedOut g done today old answer new
  carried answers rest popped answer each kept split is =
      let one = one_answer answers each in
      let last : one.0 ∷ [] ≡ rest ++ answer ∷ [] =
      subst (λ (o : Option (Result Reply Refusal)). one.0 ∷ [] ≡ rest ++ option_to_list o) is
      (subst (λ (l : List (Result Reply Refusal)). l ≡ rest ++ option_to_list popped) one.1 split) in
      record {
        applied = subst (λ (a : Result Reply Refusal). IsApplied g done today old a new)
            (last_of_one answer one.0 rest last) one.2;
        kept = kept;
      }
