-- One command, and lists of commands.
use Rattle.std.specs.Prelude.{◌≡◌, ◌≢◌, ◌⊎◌, ℕ, All, List, [], ◌∷◌, Option, None, IsSome, Result, Ok, Err}
use Rattle.exam_types.specs.declared.refusal.Refusal.{Refusal}
use Rattle.exam_types.specs.declared.refusal.Refusal.TheVariants.{NoMemory}
use Rattle.exam_plan.specs.Matching.{Seating, Plan, SamePlan, IsBest, Keeps}
use Rattle.exam_plan.specs.Repair.{kept_part, IsRepair}
use Rattle.exam_rules.specs.Relations.{Code, Relations}
use Rattle.exam_rules.specs.Seatings.{seating, plan_of}
use Rattle.exam_commands.specs.declared.command.Command.{Command}
use Rattle.exam_commands.specs.declared.command.Command.TheVariants as command
use Rattle.exam_commands.specs.declared.command.Reply.{Reply}
use Rattle.exam_commands.specs.Changes.{closed, imported, reinstated, withdrawn}
use Rattle.exam_commands.specs.Decisions.{decision_made, granted_number}
use Rattle.exam_commands.specs.Lodgings.{lodged, retracted}
use Rattle.exam_commands.specs.Orders.{IsInOrder}
use Rattle.exam_commands.specs.Replies.{reply_of}
use Rattle.exam_commands.specs.State.{State}

-- the change of a command, on a day: the new facts, or the refusal
abbrev pub change : Command → ℕ → State → Result Relations Refusal
change (command.Import import) today before = imported before.relations import.rows
change (command.Withdraw c p) today before = withdrawn before.relations c p
change (command.Reinstate c p) today before = reinstated before.relations c p
change (command.CloseHall s h) today before = closed before.relations s h
change (command.Lodge l) today before = lodged before.relations before.seats today l
change (command.Retract c reference) today before = retracted before.relations c reference
change (command.Decide d) today before = decision_made before.relations today d

-- the candidate that a command names
abbrev pub IsNamed : Command → ℕ → Type 0
IsNamed (command.Import import) c = ⊥
IsNamed (command.Withdraw d p) c = d ≡ c
IsNamed (command.Reinstate d p) c = d ≡ c
IsNamed (command.CloseHall s h) c = ⊥
IsNamed (command.Lodge l) c = l.number ≡ c
IsNamed (command.Retract d reference) c = d ≡ c
IsNamed (command.Decide d) c = d.number ≡ c

-- Who the new plan of a session seats for certain. After an import or the closing of a hall: all whose seats the repair
-- keeps. After any other command: everybody who was seated before and is still a member, except the one that it names.
abbrev pub SeatsOn : Command → Seating ℕ Code → Plan ℕ Code → Plan ℕ Code → Type 0
SeatsOn (command.Import import) g before after = (c : ℕ) → IsSome (kept_part g before c) → IsSome (after c)
SeatsOn (command.Withdraw d p) g before after = Keeps (IsNamed (command.Withdraw d p)) g before after
SeatsOn (command.Reinstate d p) g before after = Keeps (IsNamed (command.Reinstate d p)) g before after
SeatsOn (command.CloseHall s h) g before after = (c : ℕ) → IsSome (kept_part g before c) → IsSome (after c)
SeatsOn (command.Lodge l) g before after = Keeps (IsNamed (command.Lodge l)) g before after
SeatsOn (command.Retract d reference) g before after =
    Keeps (IsNamed (command.Retract d reference)) g before after
SeatsOn (command.Decide d) g before after = Keeps (IsNamed (command.Decide d)) g before after

-- both seatings have equal members, fits and desks
pub record SameSeating (a b : Seating ℕ Code) : Type 0 where
  pub members : a.members ≡ b.members
  pub fits : (c : ℕ) (h : Code) → a.fits c h ≡ b.fits c h
  pub desks : (h : Code) → a.desks h ≡ b.desks h

-- who is seated first: the appellant of a grant
abbrev pub first_seated : Command → Option ℕ
first_seated (command.Import import) = None
first_seated (command.Withdraw d p) = None
first_seated (command.Reinstate d p) = None
first_seated (command.CloseHall s h) = None
first_seated (command.Lodge l) = None
first_seated (command.Retract d reference) = None
first_seated (command.Decide d) = granted_number d d.outcome

-- the plan of one session after an accepted command
pub record IsNextPlan (done : Command) (old new : Seating ℕ Code) (before after : Plan ℕ Code) : Type 0 where
  pub best : IsBest new after
  pub untouched : SameSeating old new → SamePlan after before
  pub kept : SeatsOn done new before after
  pub repair : IsRepair new (first_seated done) before after

-- If the change is refused, so is the command, and nothing changes. Otherwise the office has the new facts and the next
-- plan of every session, in the order of their keys, and its answer follows from them.
abbrev pub StepTo : Command → State → Result Reply Refusal → State → Result Relations Refusal → Type 0
StepTo done before reply after (Err e) = (reply ≡ Err e) × (after ≡ before)
StepTo done before reply after (Ok r) =
    (after.relations ≡ r)
    × ((s : Code) → IsNextPlan done (seating before.relations s) (seating r s)
    (plan_of before.seats s) (plan_of after.seats s))
    × (reply ≡ Ok (reply_of done before after))
    × IsInOrder after

-- the command, on that day, leads from one state to the other with that reply
abbrev pub Step : Command → ℕ → State → Result Reply Refusal → State → Type 0
Step done today before reply after = StepTo done before reply after (change done today before)

-- what `Step` says, or memory ran out and nothing has changed
abbrev pub MayStep : Command → ℕ → State → Result Reply Refusal → State → Type 0
MayStep done today before reply after =
    ((reply ≡ Err NoMemory) × (after ≡ before)) ⊎ Step done today before reply after

-- ---- lists of commands, each with its day

abbrev pub Run : List (Command × ℕ) → State → List (Result Reply Refusal) → State → Type 0
Run [] before [] after = after ≡ before
Run (done ∷ rest) before (reply ∷ replies) after =
    (mid : State) × MayStep done.0 done.1 before reply mid × Run rest mid replies after
Run [] before (reply ∷ replies) after = ⊥
Run (done ∷ rest) before [] after = ⊥

-- no command was refused because memory ran out
abbrev pub NoneLacksMemory : List (Result Reply Refusal) → Type 0
NoneLacksMemory replies = All (λ reply. reply ≢ Err NoMemory) replies
