-- One more command of a run.
use Rattle.std.proofs.Common.{ℕ, List, [], ◌∷◌, ◌++◌, Result, refl, subst}
use Rattle.exam_types.specs.declared.refusal.Refusal.{Refusal}
use Rattle.exam_commands.specs.declared.command.Command.{Command}
use Rattle.exam_commands.specs.declared.command.Reply.{Reply}
use Rattle.exam_commands.specs.State.{State}
use Rattle.exam_commands.specs.Steps.{MayStep, Run}

pub run_more : (done : List (Command × ℕ)) (x : Command × ℕ) (replies : List (Result Reply Refusal))
    (reply : Result Reply Refusal) (before mid after : State)
    → Run done before replies mid → MayStep x.0 x.1 mid reply after
    → Run (done ++ x ∷ []) before (replies ++ reply ∷ []) after
run_more [] x [] reply before mid after so_far next =
    (after, subst (λ b. MayStep x.0 x.1 b reply after) so_far next, refl)
run_more [] x (q ∷ replies) reply before mid after so_far next = absurd so_far
run_more (y ∷ done) x [] reply before mid after so_far next = absurd so_far
run_more (y ∷ done) x (q ∷ replies) reply before mid after so_far next =
    (so_far.0, so_far.1, run_more done x replies reply so_far.0 mid after so_far.2 next)
