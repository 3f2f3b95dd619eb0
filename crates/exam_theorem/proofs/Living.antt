-- From the office that was opened to what it became.
use Rattle.exam_theorem.proofs.Words.{Ghosts, Database, state, HasCleanDisk, Code, IsGood, State, IsSound, Sheet, Keeps}
use Rattle.exam_theorem.proofs.Words.{OfficeIn, AreFollowed, EndsInOne, KeepsIt, Given, HasOffice, IsAtRest}
use Rattle.exam_theorem.proofs.Words.{IsVersioned, RestsOn, StopsWith}
use Rattle.std.proofs.Common.{◌≡◌, ℕ, List, Option, subst}
use Rattle.sqlite.specs.State.{State as Shown}
use Rattle.exam_store.specs.Kept.{HaveSameTables}
use Rattle.exam_store.proofs.SameTables.{same_tables}
use Rattle.exam_theorem.specs.Life.{Lives, PassesDay}
use Rattle.exam_theorem.specs.Resting.{Rests}
use Rattle.exam_theorem.specs.declared.printing.EndOfDay.{EndOfDay}
use Rattle.exam_theorem.proofs.Passing.{passed_clean, passed_rests}
use Rattle.exam_theorem.proofs.Settling.{at_rest}

-- the office that was there rests in what was opened
pub opened_rests_on : {S : Type 0} (g : Ghosts S) (old : Shown) (start : OfficeIn S)
    → (HasCleanDisk (state g start.database) → (office : State) → HasOffice old.now office
    → (start.office ≡ office) × IsAtRest g start) → RestsOn old (state g start.database)
opened_rests_on g old start same sound office rest =
    let it = same sound.0 office rest.has in
    subst (Rests (state g start.database)) it.0 (at_rest g start it.1)

module _ {S W : Type 0} (g : Ghosts S) (old : Shown) (start new : OfficeIn S) (orders : List Given)
    {contents : W → Option (List ℕ)} {asked : Option (Code × Sheet)} {before : W} {day : EndOfDay} {after : W}
    (passes : PassesDay g contents orders asked start before day new after)
    (same : HasCleanDisk (state g start.database) → (office : State) → HasOffice old.now office
    → (start.office ≡ office) × IsAtRest g start) where
  clean_start : HasCleanDisk (state g new.database) → HasCleanDisk (state g start.database)
  clean_start clean = passed_clean g orders day.outcomes.items start passes.last passes.passed
      (passes.stays.1.was_clean clean)

  -- the office that was there is the one that was opened
  opened : HasCleanDisk (state g new.database) → (first : State) → HasOffice old.now first → start.office ≡ first
  opened clean first has = (same (clean_start clean) first has).0

  pub lived : StopsWith old (state g start.database) → AreFollowed orders start.office day.outcomes.items new.office
      → HasCleanDisk (state g new.database)
      → (first : State) → HasOffice old.now first → Lives g orders old first start day.outcomes.items new
  lived stops followed clean first has = record {
    opened = opened clean first has;
    rests = λ calm. (same calm first has).1;
    stop = stops first;
    was_clean = clean_start;
    followed = subst (λ (o : State). AreFollowed orders o day.outcomes.items new.office) (opened clean first has)
        followed;
  }

  pub ended_in_one : EndsInOne orders start.office day.outcomes.items new.office → HasCleanDisk (state g new.database)
      → (first : State) → HasOffice old.now first → EndsInOne orders first day.outcomes.items new.office
  ended_in_one one clean first has =
      subst (λ (o : State). EndsInOne orders o day.outcomes.items new.office) (opened clean first has) one

  module _ (had : HasCleanDisk (state g start.database) → IsVersioned old.now → HasOffice old.now start.office) where
    pub had_first : IsGood start.office → HasCleanDisk (state g new.database) → IsVersioned old.now
        → (first : State) × IsGood first × HasOffice old.now first
    had_first good clean versioned = (start.office, good, had (clean_start clean) versioned)

    -- what is opened is at rest
    start_rests : HasCleanDisk (state g start.database) → IsVersioned old.now → IsAtRest g start
    start_rests calm versioned = (same calm start.office (had calm versioned)).1

    pub ends_at_rest : IsSound (state g new.database) → IsVersioned old.now → IsAtRest g new
    ends_at_rest sound versioned =
        let settles = passes.stays.1 in
        settles.rests (passed_rests g orders day.outcomes.items start passes.last passes.passed
        (start_rests (clean_start sound.0) versioned) (settles.was_sound sound)) sound

    pub ends_in_tables : IsSound (state g new.database) → IsVersioned old.now → (there : Database)
        → Keeps there new.office → HaveSameTables (state g new.database).now there
    unfolding KeepsIt
    ends_in_tables sound versioned there keeps =
        same_tables (state g new.database).now there new.office (ends_at_rest sound versioned).kept.0 keeps
