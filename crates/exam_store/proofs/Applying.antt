-- A command that is carried out as a draft, and one more command after others.
use Rattle.std.proofs.Common.{◌≡◌, ℕ, List, [], ◌∷◌, ◌++◌, Result, Ok, inr, refl, subst, ◌∙◌}
use Rattle.sqlite.specs.Effect.{Database}
use Rattle.sqlite.specs.State.{State as Shown}
use Rattle.exam_types.specs.declared.refusal.Refusal.{Refusal}
use Rattle.exam_commands.specs.declared.command.Command.{Command}
use Rattle.exam_commands.specs.declared.command.Reply.{Reply}
use Rattle.exam_office.specs.Drafts.{DraftIn}
use Rattle.exam_commands.specs.State.{State}
use Rattle.exam_commands.specs.Steps.{Step}
use Rattle.sqlite_trees.specs.declared.store.Store.{Ghosts}
use Rattle.exam_store.specs.Applied.{MayApply, FailsToApply, TurnsBy, Applies, IsApplied, AreApplied}
use Rattle.exam_store.specs.Kept.{Rekeeps}
use Rattle.exam_store.specs.Saves.{FailsToSave}
use Rattle.exam_store.specs.Stores.{OfficeIn}

-- ---- a draft of the office that was lent to it

module _ (done : Command) (today : ℕ) (draft : DraftIn) (lent office : State) (of : draft.before ≡ lent)
    (same : lent ≡ office) (step : Step done today lent (Ok draft.reply) draft.after) where
  was : draft.before ≡ office
  was = of ∙ same

  stepped : Step done today office (Ok draft.reply) draft.after
  stepped = subst (λ b. Step done today b (Ok draft.reply) draft.after) same step

  -- what kept the office keeps the one after the command
  pub draft_turns : (old new : Database) → Rekeeps draft.before draft.after old new → TurnsBy done today office old new
  draft_turns old new keeps = (draft.reply, draft.after, stepped, subst (λ b. Rekeeps b draft.after old new) was keeps)

  -- the command is refused since the office after it is not saved
  pub draft_fails : (old new : Shown) (e : Refusal) → FailsToSave draft.before draft.after old new e
      → FailsToApply done today office old new e
  draft_fails old new e failed =
      inr (inr (draft.reply, draft.after, stepped, subst (λ b. FailsToSave b draft.after old new e) was failed))

-- ---- one more command

pub applies_more : (done : List (Command × ℕ)) (x : Command × ℕ) (replies : List (Result Reply Refusal))
    (reply : Result Reply Refusal) (before mid after : State)
    → Applies done before replies mid → MayApply x.0 x.1 mid reply after
    → Applies (done ++ x ∷ []) before (replies ++ reply ∷ []) after
applies_more [] x [] reply before mid after so_far next =
    (after, subst (λ b. MayApply x.0 x.1 b reply after) so_far next, refl)
applies_more [] x (q ∷ replies) reply before mid after so_far next = absurd so_far
applies_more (y ∷ done) x [] reply before mid after so_far next = absurd so_far
applies_more (y ∷ done) x (q ∷ replies) reply before mid after so_far next =
    (so_far.0, so_far.1, applies_more done x replies reply so_far.0 mid after so_far.2 next)

pub applied_more : {S : Type 0} (g : Ghosts S) (done : List (Command × ℕ)) (x : Command × ℕ)
    (replies : List (Result Reply Refusal)) (reply : Result Reply Refusal) (before mid after : OfficeIn S)
    → AreApplied g done before replies mid → IsApplied g x.0 x.1 mid reply after
    → AreApplied g (done ++ x ∷ []) before (replies ++ reply ∷ []) after
applied_more g [] x [] reply before mid after so_far next =
    (after, subst (λ b. IsApplied g x.0 x.1 b reply after) so_far next, refl)
applied_more g [] x (q ∷ replies) reply before mid after so_far next = absurd so_far
applied_more g (y ∷ done) x [] reply before mid after so_far next = absurd so_far
applied_more g (y ∷ done) x (q ∷ replies) reply before mid after so_far next =
    (so_far.0, so_far.1, applied_more g done x replies reply so_far.0 mid after so_far.2 next)
