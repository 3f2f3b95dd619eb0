-- A list of commands over a store is one in memory.
use Rattle.std.proofs.Common.{◌≡◌, ◌≢◌, ◌⊎◌, ℕ, Bool, true, false, true≢false, List, [], ◌∷◌, map, if◌then◌else◌}
use Rattle.std.proofs.Common.{Result, Ok, Err, inl, inr, refl, sym, subst, ◌∙◌}
use Rattle.std.proofs.lemmas.List.Elements.{All-head, All-tail, All-weaker}
use Rattle.exam_types.specs.declared.refusal.Refusal.{Refusal}
use Rattle.exam_types.specs.declared.refusal.Refusal.TheVariants.{NoMemory, NotOpenAppeal}
use Rattle.exam_rules.specs.Relations.{Code}
use Rattle.exam_commands.specs.declared.command.Command.{Command}
use Rattle.exam_commands.specs.declared.command.Command.TheVariants as command
use Rattle.exam_commands.specs.declared.command.AppealState.TheVariants as state
use Rattle.exam_commands.specs.declared.command.Decision.{Decision}
use Rattle.exam_commands.specs.declared.command.Lodging.{Lodging}
use Rattle.exam_commands.specs.declared.command.Reply.{Reply}
use Rattle.exam_commands.specs.declared.command.Reply.TheVariants as reply
use Rattle.exam_commands.specs.Appeals.{stored_state}
use Rattle.exam_commands.specs.Orders.{IsInOrder}
use Rattle.exam_commands.specs.State.{State}
use Rattle.exam_commands.specs.Steps.{MayStep, NoneLacksMemory, Run, Step}
use Rattle.exam_laws.proofs.Lasting.{repeated_decision, repeated_lodging, repeated_retraction}
use Rattle.exam_laws.proofs.OneResult.{one_run}
use Rattle.exam_tables.specs.Faults.{is_store_refusal}
use Rattle.exam_store.specs.Applied.{Applies, FailsInStore, MayApply, NoneFails, in_memory}

-- the store refused the command, and the office stays, or its step is made
pub fails_or_steps : (done : Command) (today : ℕ) (before : State) (answer : Result Reply Refusal) (after : State)
    → MayApply done today before answer after
    → (FailsInStore answer × (after ≡ before)) ⊎ Step done today before answer after
fails_or_steps done today before (Ok reply) after step = inr step
fails_or_steps done today before (Err e) after why = elim why.1 [
  | inl step ↦ inr (subst (λ s. Step done today before (Err e) s) (sym why.0) step)
  | inr told ↦ inl (told, why.0)
]

one_in_memory : (done : Command) (today : ℕ) (before : State) (answer : Result Reply Refusal) (after : State)
    → MayApply done today before answer after → MayStep done today before (in_memory answer) after
one_in_memory done today before (Ok reply) after step = inr step
one_in_memory done today before (Err e) after why = by_test (is_store_refusal e) refl
  where
    by_test : (b : Bool) → is_store_refusal e ≡ b → MayStep done today before (Err (if b then NoMemory else e)) after
    by_test true is = inl (refl, why.0)
    by_test false is = elim (fails_or_steps done today before (Err e) after why) [
      | inl fails ↦ absurd (true≢false (sym fails.0 ∙ is))
      | inr step ↦ inr step
    ]

pub all_in_memory : (done : List (Command × ℕ)) (before after : State) (replies : List (Result Reply Refusal))
    → Applies done before replies after → Run done before (map in_memory replies) after
all_in_memory [] before after [] applied = applied
all_in_memory [] before after (q ∷ replies) applied = absurd applied
all_in_memory (x ∷ done) before after [] applied = absurd applied
all_in_memory (x ∷ done) before after (q ∷ replies) applied = (
  applied.0,
  one_in_memory x.0 x.1 before q applied.0 applied.1,
  all_in_memory done applied.0 after replies applied.2,
)

-- what the store did not refuse is answered so in memory

same_answer : (answer : Result Reply Refusal) → (FailsInStore answer → ⊥) → in_memory answer ≡ answer
same_answer (Ok reply) own = refl
same_answer (Err e) own = by_test (is_store_refusal e) refl
  where
    by_test : (b : Bool) → is_store_refusal e ≡ b
        → ◌≡◌ {A = Result Reply Refusal} (Err (if b then NoMemory else e)) (Err e)
    by_test true is = absurd (own is)
    by_test false is = refl

same_answers : (replies : List (Result Reply Refusal)) → NoneFails replies → map in_memory replies ≡ replies
same_answers [] none = refl
same_answers (q ∷ replies) none =
    let first = same_answer q (All-head (λ reply. FailsInStore reply → ⊥) q replies none) in
    let rest = same_answers replies (All-tail (λ reply. FailsInStore reply → ⊥) q replies none) in
    λ i. first i ∷ rest i

has_memory : (answer : Result Reply Refusal) → (FailsInStore answer → ⊥) → answer ≢ Err NoMemory
has_memory answer own lacks = own (subst FailsInStore (sym lacks) refl)

module _ (done : List (Command × ℕ)) (before after : State) (replies : List (Result Reply Refusal))
    (none : NoneFails replies) (applied : Applies done before replies after) where
  run_of : Run done before replies after
  run_of = subst (λ rs. Run done before rs after) (same_answers replies none)
      (all_in_memory done before after replies applied)

  enough : NoneLacksMemory replies
  enough = All-weaker (λ reply. FailsInStore reply → ⊥) (λ reply. reply ≢ Err NoMemory) has_memory replies none

pub one_office : (done : List (Command × ℕ)) (before one other : State) (first second : List (Result Reply Refusal))
    → NoneFails first → NoneFails second
    → Applies done before first one → Applies done before second other → (first ≡ second) × (one ≡ other)
one_office done before one other first second none never here there =
    one_run done before one other first second (enough done before one first none here)
    (enough done before other second never there)
    (run_of done before one first none here) (run_of done before other second never there)

-- a repeated command, which the store may also refuse

module _ (later : ℕ) (mid late after : State) (done : List (Command × ℕ)) (replies : List (Result Reply Refusal))
    (second : Result Reply Refusal) (up : IsInOrder late) (up_after : IsInOrder after)
    (applied : Applies done mid replies late) where
  run : Run done mid (map in_memory replies) late
  run = all_in_memory done mid late replies applied

  once : (again : Command) (Answer : Type 0) → (Step again later late second after → Answer × (after ≡ late))
      → MayApply again later late second after → (Answer ⊎ FailsInStore second) × (after ≡ late)
  once again Answer law applied_again = elim (fails_or_steps again later late second after applied_again) [
    | inl fails ↦ (inr fails.0, fails.1)
    | inr step ↦ let it = law step in (inl it.0, it.1)
  ]

  pub lodged_once : (lodging : Lodging) (day : ℕ) (before : State) (first : Reply)
      → MayApply (command.Lodge lodging) day before (Ok first) mid
      → MayApply (command.Lodge lodging) later late second after
      → ((second ≡ Ok (reply.Lodged (stored_state late.relations lodging.number lodging.reference)))
      ⊎ FailsInStore second) × (after ≡ late)
  lodged_once lodging day before first step =
      once (command.Lodge lodging) _
      (repeated_lodging lodging day later before mid late after first done
      (map in_memory replies) second up up_after step run)

  pub retracted_once : (number : ℕ) (reference : Code) (day : ℕ) (before : State) (first : Reply)
      → MayApply (command.Retract number reference) day before (Ok first) mid
      → MayApply (command.Retract number reference) later late second after
      → ((second ≡ Ok reply.Retracted) ⊎ FailsInStore second) × (after ≡ late)
  retracted_once number reference day before first step =
      once (command.Retract number reference) _
      (repeated_retraction number reference day later before mid late after first done
      (map in_memory replies) second up up_after step run)

  pub decided_once : (decision : Decision) (day : ℕ) (before : State) (first : Reply)
      → MayApply (command.Decide decision) day before (Ok first) mid
      → MayApply (command.Decide decision) later late second after
      → (((second ≡ Ok reply.Unchanged)
      ⊎ ((stored_state late.relations decision.number decision.reference ≡ state.Superseded)
      × (second ≡ Err NotOpenAppeal))) ⊎ FailsInStore second) × (after ≡ late)
  decided_once decision day before first step =
      once (command.Decide decision) _
      (repeated_decision decision day later before mid late after first done
      (map in_memory replies) second up up_after step run)
