-- What calls make of an office in a store that is at rest.
use Rattle.exam_theorem.proofs.Words.{Ghosts, Trees, Database, Held, state, HasCleanDisk, Survives, IsDay, Refusal}
use Rattle.exam_theorem.proofs.Words.{Command, Reply, IsInOrder, State, Step, is_store_refusal, IsSound, Keeps, HasDays}
use Rattle.exam_theorem.proofs.Words.{HasRowDays, OfficeIn, KeepsIt, KeepsOn, HasOffice, IsAtRest, Settles}
use Rattle.std.proofs.Common.{◌≡◌, ◌⊎◌, ◌∙◌, ℕ, inl, inr, arith, refl, sym, ap, subst}
use Rattle.std.specs.Prelude.{Result, Ok, Err, IsTrue}
use Rattle.exam_rules.specs.Relations.{Relations}
use Rattle.exam_commands.specs.Steps.{StepTo, change}
use Rattle.exam_store.specs.Applied.{IsApplied}
use Rattle.exam_theorem.specs.Resting.{LeavesOffice, Rests}
use Rattle.exam_theorem.proofs.Having.{keeps_has}
use Rattle.exam_theorem.proofs.OneOffice.{OneResult}

-- what a crash leaves of an open store is what it has committed
abbrev pub IsSettled : {S : Type 0} → Ghosts S → Type 0
IsSettled {S} g =
    (h : Held S) (trees : Trees) → IsTrue (state g h).is_open → (state g h).may_leave trees
    → trees ≡ (state g h).committed.trees

-- a command leaves the days between 2000 and 2199
abbrev pub DaysStay : Type 0
DaysStay =
    (done : Command) (today : ℕ) (before after : State) (first : Reply) → HasDays before.relations → IsDay today
    → HasRowDays done
    → Step done today before (Ok first) after → HasDays after.relations

-- the office after an accepted command is in order
ordered : (done : Command) (before after : State) (reply : Reply) (changed : Result Relations Refusal)
    → StepTo done before (Ok reply) after changed → IsInOrder after
ordered done before after reply (Err e) h = absurd cc
ordered done before after reply (Ok r) h = h.3

step_ordered : (done : Command) (today : ℕ) (before after : State) (reply : Reply)
    → Step done today before (Ok reply) after → IsInOrder after
step_ordered done today before after reply step = ordered done before after reply (change done today before) step

module _ {S : Type 0} (g : Ghosts S) where
  pub rest_has : (it : OfficeIn S) → IsAtRest g it → HasOffice (state g it.database).now it.office
  unfolding KeepsIt
  rest_has it rest = keeps_has (state g it.database).now it.office rest.kept.0 rest.order rest.days

  pub at_rest : (it : OfficeIn S) → IsAtRest g it → Rests (state g it.database) it.office
  unfolding KeepsIt
  at_rest it rest = record { is_open = rest.is_open; committed = rest.kept.1; has = rest_has it rest }

  -- the office is as it was, and is kept on
  still : (old new : OfficeIn S) → new.office ≡ old.office → KeepsOn g old new → IsAtRest g old
      → IsSound (state g new.database) → IsAtRest g new
  still old new same on rest sound = record {
    is_open = sound.1;
    kept = on.kept sound rest.kept;
    order = subst IsInOrder (sym same) rest.order;
    days = subst (λ (o : State). HasDays o.relations) (sym same) rest.days;
  }

  module _ (settled : IsSettled g) where
    -- what a stop leaves between two calls
    pub left_at_rest : (it : OfficeIn S) → IsAtRest g it → (trees : Trees) → (state g it.database).may_leave trees
        → LeavesOffice it.office trees
    unfolding KeepsIt
    left_at_rest it rest trees may = (
      (state g it.database).now,
      rest_has it rest,
      settled it.database trees rest.is_open may ∙ ap (λ (db : Database). db.trees) rest.kept.1,
    )

    module _ (Failed : Type 0) (Leads : State → Type 0) where
      -- nothing was done
      itself : (it : OfficeIn S) → Settles g Failed Leads it it
      itself it = record {
        was_clean = λ clean. clean;
        was_sound = λ sound. sound;
        rests = λ rest sound. rest;
        stop = λ rest clean trees may. inl (left_at_rest it rest trees may);
        shut = λ closed clean trees may. may;
      }

      pub unchanged_settles : (old new : OfficeIn S) → new ≡ old → Settles g Failed Leads old new
      unchanged_settles old new same = subst (λ (o : OfficeIn S). Settles g Failed Leads old o) (sym same) (itself old)

      module _ (old new : OfficeIn S) where
        grown : {P : Trees → Type 0} → Survives (state g old.database) (state g new.database) P
            → HasCleanDisk (state g new.database) → HasCleanDisk (state g old.database)
        grown survives clean = omega (arith, survives.clean, clean)

        -- a stop leaves only what it would have left before
        leaves_earlier : Survives (state g old.database) (state g new.database) (λ _. ⊥)
            → HasCleanDisk (state g new.database) → (trees : Trees)
            → (state g new.database).may_leave trees → (state g old.database).may_leave trees
        leaves_earlier survives clean trees may =
            elim (survives.crash clean trees may) [ inl earlier ↦ earlier | inr none ↦ absurd none ]

        -- the database was only read
        pub reading_settles : new.office ≡ old.office → Survives (state g old.database) (state g new.database) (λ _. ⊥)
            → KeepsOn g old new → Settles g Failed Leads old new
        reading_settles same survives on = record {
          was_clean = grown survives;
          was_sound = on.was_sound;
          rests = still old new same on;
          stop = λ rest clean trees may. elim (survives.crash clean trees may) [
            | inl earlier ↦ inl (subst (λ (o : State). LeavesOffice o trees) (sym same)
                (left_at_rest old rest trees earlier))
            | inr none ↦ absurd none
          ];
          shut = λ closed. leaves_earlier survives;
        }

        -- a command was applied
        module _ (one_result : OneResult) (days_stay : DaysStay) (done : Command) (today : ℕ) (is_day : IsDay today)
            (row_days : HasRowDays done)
            (leads : (reply : Reply) (at : State) → Step done today old.office (Ok reply) at → Leads at) where
          stepped_has : (db : Database) (at : State) (reply : Reply) → IsAtRest g old
              → Step done today old.office (Ok reply) at → Keeps db at → HasOffice db at
          stepped_has db at reply rest step keeps =
              keeps_has db at keeps (step_ordered done today old.office at reply step)
              (days_stay done today old.office at reply rest.days is_day row_days step)

          made : (reply : Reply) → IsApplied g done today old (Ok reply) new → KeepsOn g old new
              → Settles g Failed Leads old new
          unfolding KeepsIt
          made reply applied on = record {
            was_clean = grown applied.made.survives;
            was_sound = on.was_sound;
            rests = λ rest sound. record {
              is_open = sound.1;
              kept = on.kept sound rest.kept;
              order = step_ordered done today old.office new.office reply applied.step;
              days = days_stay done today old.office new.office reply rest.days is_day row_days applied.step;
            };
            stop = λ rest clean trees may.
                let turned = applied.made.turned clean in
                let by = turned.0 in
                let same : by.1 ≡ new.office =
                (one_result done today old.office by.1 new.office (Ok by.0) (Ok reply) by.2 applied.step).1 in
                let keeps : Keeps (state g new.database).now new.office =
                subst (Keeps (state g new.database).now) same (by.3 rest.kept.0) in
                inl (
                  (state g new.database).now,
                  stepped_has (state g new.database).now new.office reply rest applied.step keeps,
                  applied.made.settled clean trees may ∙ ap (λ (db : Database). db.trees) turned.1,
                );
            shut = λ closed. leaves_earlier (applied.shut closed);
          }

          -- a step that is refused has no other result
          refused_no_step : (e : Refusal) (reply : Reply) (at : State) → Step done today old.office (Err e) old.office
              → Step done today old.office (Ok reply) at → ⊥
          refused_no_step e reply at refused step =
              let same : ◌≡◌ {A = Result Reply Refusal} (Err e) (Ok reply) =
              (one_result done today old.office old.office at (Err e) (Ok reply) refused step).0 in cc

          failing : (e : Refusal) (reply : Reply) (at : State) → (IsTrue (is_store_refusal e) → Failed)
              → Step done today old.office (Err e) old.office ⊎ IsTrue (is_store_refusal e)
              → Step done today old.office (Ok reply) at → Failed
          failing e reply at fails (inl refused) step = absurd (refused_no_step e reply at refused step)
          failing e reply at fails (inr is) step = fails is

          refused : (e : Refusal) → (IsTrue (is_store_refusal e) → Failed) → IsApplied g done today old (Err e) new
              → KeepsOn g old new → Settles g Failed Leads old new
          unfolding KeepsIt
          refused e fails applied on = record {
            was_clean = grown applied.made.survives;
            was_sound = on.was_sound;
            rests = still old new applied.step.0 on;
            stop = λ rest clean trees may. elim (applied.made.survives.crash clean trees may) [
              | inl earlier ↦ inl (subst (λ (o : State). LeavesOffice o trees) (sym applied.step.0)
                  (left_at_rest old rest trees earlier))
              | inr turned ↦
                  let by = turned.1 in
                  inr (
                    failing e by.0 by.1 fails applied.step.1 by.2,
                    applied.step.0,
                    by.1,
                    leads by.0 by.1 by.2,
                    (turned.0, stepped_has turned.0 by.1 by.0 rest by.2 (by.3 rest.kept.0), turned.2),
                  )
            ];
            shut = λ closed. leaves_earlier (applied.shut closed);
          }

          pub applied_settles : (answered : Result Reply Refusal)
              → ((e : Refusal) → answered ≡ Err e → IsTrue (is_store_refusal e) → Failed)
              → IsApplied g done today old answered new → KeepsOn g old new → Settles g Failed Leads old new
          applied_settles (Ok reply) fails applied on = made reply applied on
          applied_settles (Err e) fails applied on = refused e (fails e refl) applied on

-- a call that fails and leads in one way does so in others
pub settles_more : {S : Type 0} (g : Ghosts S) (F G : Type 0) (L M : State → Type 0) → (F → G)
    → ((at : State) → L at → M at) → (old new : OfficeIn S) → Settles g F L old new → Settles g G M old new
settles_more g F G L M fails leads old new s = record {
  was_clean = s.was_clean;
  was_sound = s.was_sound;
  rests = s.rests;
  stop = λ rest clean trees may. elim (s.stop rest clean trees may) [
    | inl stays ↦ inl stays
    | inr other ↦ inr (fails other.0, other.1, other.2, leads other.2 other.3, other.4)
  ];
  shut = s.shut;
}
