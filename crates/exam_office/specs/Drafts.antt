-- A command that is carried out on an office and may still be taken back.
use Rattle.std.specs.Prelude.{◌≡◌, ⊤, ℕ, Bool, true, false, IsTrue, Option, None, Some, Ok}
use Rattle.exam_rules.specs.declared.listing.SessionLists.{SessionLists}
use Rattle.exam_rules.specs.Lists.{AreListsOf}
use Rattle.exam_rules.specs.Relations.{Code, has_row, relations_of, row_at, seat_cmp}
use Rattle.exam_commands.specs.declared.command.Command.{Command}
use Rattle.exam_commands.specs.declared.command.Command.TheVariants as command
use Rattle.exam_commands.specs.declared.command.Reply.{Reply}
use Rattle.exam_commands.specs.Exchanges.{taken_back, without_old}
use Rattle.exam_commands.specs.Good.{IsGood}
use Rattle.exam_commands.specs.NextPlans.{Plans}
use Rattle.exam_commands.specs.Orders.{IsInOrder}
use Rattle.exam_commands.specs.Parts.{Agrees}
use Rattle.exam_commands.specs.State.{Seats, State}
use Rattle.exam_commands.specs.Steps.{Step}
use Rattle.exam_changes.specs.Undoing.{restored}
use Rattle.exam_office.specs.declared.part.Part.{Part}
use Rattle.exam_office.specs.HeldParts.{CanGoBack, WereLists}

-- the office before the command and after it, and what the command answers
pub record DraftIn : Type 0 where
  pub before : State
  pub after : State
  pub reply : Reply

-- ---- definitions that only the code uses

-- the command lodges or retracts an appeal
abbrev pub moves_nobody : Command → Bool
moves_nobody (command.Import import) = false
moves_nobody (command.Withdraw c p) = false
moves_nobody (command.Reinstate c p) = false
moves_nobody (command.CloseHall s h) = false
moves_nobody (command.Lodge l) = true
moves_nobody (command.Retract c reference) = true
moves_nobody (command.Decide d) = false

-- the seats before the command, from seats that have those of the new plans and still have those of the old ones
abbrev pub seats_before : Option Plans → Seats → Seats → Seats
seats_before None new seats = seats
seats_before (Some old) new seats = taken_back seat_cmp seats old.entries new

abbrev pub seats_after : Option Plans → Seats → Seats → Seats
seats_after None new seats = seats
seats_after (Some old) new seats = without_old seat_cmp seats old.entries new

-- each seat of the old plans is there
abbrev pub HasOld : Option Plans → Seats → Type 0
HasOld None seats = ⊤
HasOld (Some old) seats = (k : Code × ℕ) → IsTrue (has_row seat_cmp old.entries k) → IsTrue (has_row seat_cmp seats k)

-- Whoever the new plans seat has the seat that they give. Whoever only the old plans seat has the seat that those give.
pub record MixesPlans (old new seats : Seats) : Type 0 where
  pub put : (k : Code × ℕ) → has_row seat_cmp new k ≡ true → row_at seat_cmp seats k ≡ row_at seat_cmp new k
  pub kept : (k : Code × ℕ) → has_row seat_cmp new k ≡ false → has_row seat_cmp old k ≡ true
      → row_at seat_cmp seats k ≡ row_at seat_cmp old k

abbrev pub AreMixed : Option Plans → Seats → Seats → Type 0
AreMixed None new seats = ⊤
AreMixed (Some old) new seats = MixesPlans old.entries new seats

abbrev pub state_before : Part → Seats → State
state_before part seats = record {
  relations = restored part.undo.facts (relations_of part.facts);
  seats = seats_before part.undo.plans part.plans.entries seats;
}

abbrev pub state_after : Part → Seats → State
state_after part seats = record {
  relations = relations_of part.facts;
  seats = seats_after part.undo.plans part.plans.entries seats;
}

-- what a draft keeps so that it can be finished and taken back
pub record IsDraft (part : Part) (seats : Seats) : Type 0 where
  pub good : IsGood (state_after part seats)
  pub listed_now : AreListsOf (relations_of part.facts) part.lists
  pub was_good : IsGood (state_before part seats)
  pub were_lists : (old : SessionLists) → WereLists part old
      → AreListsOf (restored part.undo.facts (relations_of part.facts)) old
  pub there : CanGoBack part
  pub mixed : AreMixed part.undo.plans part.plans.entries seats
  pub order : IsInOrder (state_after part seats)
  pub was_order : IsInOrder (state_before part seats)

-- the office is good, these are its seats, and the part agrees with it on what the command reads
abbrev pub IsOfficeOf : Command → Seats → State → State → Type 0
IsOfficeOf done seats part office =
    IsGood office × IsInOrder office × (office.seats ≡ seats) × Agrees done office part

-- the draft of the command over the office
pub record IsDraftOf (done : Command) (today : ℕ) (office : State) (part : Part) (seats : Seats) (reply : Reply)
    : Type 0 where
  pub draft : IsDraft part seats
  pub before : state_before part seats ≡ office
  pub step : Step done today office (Ok reply) (state_after part seats)
