-- A part of an office: what one command reads of it, and how it is put back.
use Rattle.std.specs.Prelude.{◌≡◌, ◌⊎◌, ◌&&◌, ◌||◌, ℕ, Bool, true, false, Option, None, Ok, Err, nat_eq, if◌then◌else◌}
use Rattle.std.specs.List.{list_any}
use Rattle.std.specs.Option.{option_or}
use Rattle.exam_types.specs.declared.refusal.Refusal.{Refusal}
use Rattle.exam_types.specs.declared.refusal.Refusal.TheVariants.{NoMemory}
use Rattle.exam_plan.specs.Matching.{SamePlan}
use Rattle.exam_rules.specs.declared.listing.Entrant.{Entrant}
use Rattle.exam_rules.specs.declared.listing.SessionLists.{SessionLists}
use Rattle.exam_rules.specs.Lists.{listed}
use Rattle.exam_rules.specs.Relations.{Code, Relations, same_code}
use Rattle.exam_rules.specs.Seatings.{plan_of}
use Rattle.exam_commands.specs.declared.command.Command.{Command}
use Rattle.exam_commands.specs.declared.command.Command.TheVariants as command
use Rattle.exam_commands.specs.declared.command.Reply.{Reply}
use Rattle.exam_commands.specs.Appeals.{appeal_at}
use Rattle.exam_commands.specs.Orders.{IsInOrder}
use Rattle.exam_commands.specs.Repairs.{IsRepaired}
use Rattle.exam_commands.specs.Replies.{reply_of}
use Rattle.exam_commands.specs.State.{Seats, State}
use Rattle.exam_commands.specs.Steps.{change, first_seated}
use Rattle.exam_commands.specs.Touched.{is_appeal_for, touches}

-- The command reads the plan of each session that it touches; a lodging also that of the session it names; a decision,
-- whatever its outcome, also that of the appeal's session.
abbrev pub reads : Relations → Command → Code → Bool
reads r (command.Import import) s = touches r (command.Import import) s
reads r (command.Withdraw c p) s = touches r (command.Withdraw c p) s
reads r (command.Reinstate c p) s = touches r (command.Reinstate c p) s
reads r (command.CloseHall named h) s = touches r (command.CloseHall named h) s
reads r (command.Lodge l) s = same_code l.session s
reads r (command.Retract c reference) s = touches r (command.Retract c reference) s
reads r (command.Decide d) s =
    is_appeal_for r (appeal_at r d.number d.reference) s || touches r (command.Decide d) s

-- The part agrees with the office: it has its facts and its plans of the sessions that the command reads, and seats
-- nobody in other sessions.
pub record Agrees (done : Command) (office part : State) : Type 0 where
  pub facts : part.relations ≡ office.relations
  pub read : (s : Code) → reads office.relations done s ≡ true
      → SamePlan (plan_of part.seats s) (plan_of office.seats s)
  pub others : (s : Code) → reads office.relations done s ≡ false → SamePlan (plan_of part.seats s) (λ c. None)

-- The office with the part put back: the facts of the part, its plans of the sessions that the command reads, and the
-- office's own plan of every other session.
pub record IsPutBack (done : Command) (office part after : State) : Type 0 where
  pub facts : after.relations ≡ part.relations
  pub read : (s : Code) → reads office.relations done s ≡ true
      → SamePlan (plan_of after.seats s) (plan_of part.seats s)
  pub others : (s : Code) → reads office.relations done s ≡ false
      → SamePlan (plan_of after.seats s) (plan_of office.seats s)
  pub order : IsInOrder after

-- ---- definitions that only the code uses

-- What an accepted command makes of a part: the new facts, the repaired plans of the sessions that it touches, the
-- unchanged plans of the others that it reads, and what it answers.
pub record IsMadeIn (done : Command) (today : ℕ) (old new : State) (reply : Reply) : Type 0 where
  pub changed : change done today old ≡ Ok new.relations
  pub repaired : (s : Code) → touches old.relations done s ≡ true
      → IsRepaired new.relations (first_seated done) old.seats new.seats s
  pub stays : (s : Code) → touches old.relations done s ≡ false → reads old.relations done s ≡ true
      → SamePlan (plan_of new.seats s) (plan_of old.seats s)
  pub told : reply ≡ reply_of done old new

-- the candidate is listed among the members of the session
abbrev pub is_listed : SessionLists → Code → ℕ → Bool
is_listed lists s c = list_any (λ (e : Entrant). nat_eq e.number c) (listed lists.members.entries s)

-- who sits where after the listed members of the session are seated as in the office
abbrev pub copied : SessionLists → Seats → Code → Seats → Code → ℕ → Option Code
copied lists seats session plans s c =
    if same_code session s && is_listed lists session c then option_or (plan_of seats s c) (plan_of plans s c)
    else plan_of plans s c

-- refused because memory ran out, or as the change of the part is refused
abbrev pub IsRefusedIn : Command → ℕ → State → Refusal → Type 0
IsRefusedIn done today old e = (e ≡ NoMemory) ⊎ (change done today old ≡ Err e)
