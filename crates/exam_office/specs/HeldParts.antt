-- The part of an office that a command reads, as the program holds it, and how a step over it is taken back.
use Rattle.std.specs.Prelude.{◌≡◌, ◌↔◌, ℕ, true, Contains, IsTrue, Option, None, Some}
use Rattle.exam_rules.specs.declared.listing.SessionLists.{SessionLists}
use Rattle.exam_rules.specs.Lists.{AreListsOf, listed}
use Rattle.exam_rules.specs.Relations.{Code, relations_of}
use Rattle.exam_commands.specs.declared.command.Command.{Command}
use Rattle.exam_commands.specs.declared.command.Reply.{Reply}
use Rattle.exam_commands.specs.FactsMade.{WasMade}
use Rattle.exam_commands.specs.Good.{IsGood}
use Rattle.exam_commands.specs.Limits.{within_limits}
use Rattle.exam_commands.specs.NextPlans.{Plans, PlansBack}
use Rattle.exam_commands.specs.Orders.{IsInOrder}
use Rattle.exam_commands.specs.Parts.{Agrees, IsMadeIn, reads}
use Rattle.exam_commands.specs.State.{Seats, State, office_of}
use Rattle.exam_changes.specs.Undoing.{IsThere, TakesBack, restored}
use Rattle.exam_office.specs.declared.part.Part.{Part}
use Rattle.exam_office.specs.Relisting.{HasList, halls_before, members_before}

-- its facts and its plans
abbrev pub part_state : Part → State
part_state part = office_of part.facts part.plans

-- its lists are those of its facts
abbrev pub HasLists : Part → Type 0
HasLists part = AreListsOf (relations_of part.facts) part.lists

-- and its sessions are those whose plans the command reads
pub record IsListed (done : Command) (part : Part) : Type 0 where
  pub lists : HasLists part
  pub sessions : (s : Code) → Contains part.sessions.items s ↔ IsTrue (reads (relations_of part.facts) done s)

-- this is so of the lists and sessions that it has made, if it has made any
abbrev pub IsKept : Command → Part → Type 0
IsKept done part = part.is_listed ≡ true → IsListed done part

-- The part is one for the command: it agrees with some good office on what the command reads, and what else it keeps is
-- right. A part that is made of facts and plans keeps nothing else.
pub record IsPartFor (done : Command) (part : Part) : Type 0 where
  pub office : State
  pub good : IsGood office
  pub order : IsInOrder office
  pub agrees : Agrees done office (part_state part)
  pub kept : IsKept done part

-- ---- a step taken back

-- the plans before the step, if these are the ones after it
abbrev pub plans_before : Option Plans → Seats → Seats
plans_before None new = new
plans_before (Some old) new = old.entries

-- the facts and the plans before the step
abbrev pub part_before : Part → State
part_before part = record {
  relations = restored part.undo.facts (relations_of part.facts);
  seats = plans_before part.undo.plans part.plans.entries;
}

-- these are the lists before the step
abbrev pub WereLists : Part → SessionLists → Type 0
WereLists part before =
    ((s : Code) → listed before.members.entries s ≡ members_before part.undo.lists part.lists s)
    × ((s : Code) → listed before.halls.entries s ≡ halls_before part.undo.lists part.lists s)

-- what the step has changed is there, so that putting it back needs no memory
abbrev pub CanGoBack : Part → Type 0
CanGoBack part = IsThere part.undo.facts (relations_of part.facts) × HasList part.undo.lists part.lists

-- the part with its step taken back
pub record IsBack (part back : Part) : Type 0 where
  pub state : part_state back ≡ part_before part
  pub lists : WereLists part back.lists
  pub sessions : back.sessions ≡ part.sessions

-- ---- a step

-- What an accepted command makes of a part with these facts and plans: the new facts, which are within every limit,
-- their lists, the new plans and the reply; and what leads back to the old facts, their lists and the old plans.
pub record IsStep (done : Command) (today : ℕ) (old : State) (new : Part) (reply : Reply) : Type 0 where
  pub made : IsMadeIn done today old (part_state new) reply
  pub change : WasMade done old.relations (relations_of new.facts)
  pub limits : IsTrue (within_limits (relations_of new.facts))
  pub lists : HasLists new
  pub facts_back : TakesBack new.undo.facts (relations_of new.facts) old.relations
  pub lists_there : HasList new.undo.lists new.lists
  pub lists_back : (was : SessionLists) → WereLists new was → AreListsOf old.relations was
  pub plans_back : PlansBack done old.relations new.undo.plans new.plans.entries old.seats
