-- Why an office is not saved.
use Rattle.std.proofs.Common.{inl, inr, Result, Ok, Err, IfErr}
use Rattle.sqlite.specs.State.{State}
use Rattle.exam_types.specs.declared.refusal.Refusal.{Refusal}
use Rattle.exam_rules.specs.Orders.{KeysRise}
use Rattle.exam_rules.specs.Relations.{seat_cmp}
use Rattle.exam_commands.specs.Good.{IsGood}
use Rattle.exam_commands.specs.State.{State as Office}
use Rattle.exam_tables.specs.declared.writing.Changes.{Changes}
use Rattle.exam_tables.specs.Inside.{FailsToWrite}
use Rattle.exam_tables.specs.Writes.{all_saved}
use Rattle.exam_store.specs.Saves.{TurnsTables, FailsToSave}
use Rattle.exam_store.proofs.KeysHold.{no_key}

-- the writes that are not made are those that turn the tables of the one office into those of the other
pub fails_to_save : (before after : Office) (c : Changes) (old new : State) → TurnsTables before after c
    → IsGood before → IsGood after → KeysRise seat_cmp before.seats → KeysRise seat_cmp after.seats
    → (result : Result (Unit {0}) Refusal) → IfErr result (FailsToWrite (all_saved c) old new)
    → IfErr result (FailsToSave before after old new)
fails_to_save before after c old new turns good_before good_after rises_before rises_after (Ok u) failed = tt
fails_to_save before after c old new turns good_before good_after rises_before rises_after (Err e) (inl lacks) =
    inl lacks
fails_to_save before after c old new turns good_before good_after rises_before rises_after (Err e)
    (inr (told, inl down)) = inr (told, inl down)
fails_to_save before after c old new turns good_before good_after rises_before rises_after (Err e)
    (inr (told, inr refused)) =
    inr (
      told,
      inr (
        c,
        turns,
        refused,
        λ keeps. no_key before after c old.step_limit old.now turns good_before good_after rises_before rises_after
            keeps refused,
      ),
    )
