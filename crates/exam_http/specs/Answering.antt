-- The answer to a request, and the office after it.
use Rattle.std.specs.Prelude.{◌≡◌, ◌⊎◌, ⊤, ℕ, Option, IsSome, IsSomeAnd, Result, Ok, Err, option_and_then, option_map}
use Rattle.sqlite_trees.specs.declared.store.Store.{Ghosts}
use Rattle.exam_types.specs.declared.refusal.Refusal.{Refusal}
use Rattle.exam_types.specs.declared.refusal.Refusal.TheVariants.{NoMemory}
use Rattle.exam_commands.specs.declared.command.AppealState.{AppealState}
use Rattle.exam_commands.specs.declared.command.AppealState.TheVariants as state
use Rattle.exam_commands.specs.declared.command.Command.{Command}
use Rattle.exam_commands.specs.declared.command.Command.TheVariants as command
use Rattle.exam_commands.specs.declared.command.Reply.{Reply}
use Rattle.exam_commands.specs.declared.command.Reply.TheVariants as reply
use Rattle.exam_commands.specs.Own.{OwnRows, own_of}
use Rattle.exam_commands.specs.State.{State}
use Rattle.exam_store.specs.Applied.{IsApplied}
use Rattle.exam_store.specs.Stores.{OfficeIn}
use Rattle.exam_request.specs.Answer.{Told, error_told, method_told, ok_told, refusal_told, state_told}
use Rattle.exam_request.specs.Asked.{Request}
use Rattle.exam_request.specs.Bodies.{page_body}
use Rattle.exam_request.specs.Choices.{ShowsCode, candidate_named, choice_of}
use Rattle.exam_request.specs.Faults.{fault_number}
use Rattle.exam_request.specs.declared.choice.Choice.{Choice}
use Rattle.exam_request.specs.declared.choice.Choice.TheVariants as choice
use Rattle.exam_request.specs.declared.choice.Named.{Named}
use Rattle.exam_request.specs.declared.fault.Fault.{Fault}

-- what the office shows of the candidate that a request names, if there is one
abbrev pub own_named : State → Request → Option OwnRows
own_named office request = option_and_then (own_of office) (candidate_named request)

-- a candidate's number and access code
abbrev pub named_as : OwnRows → Named
named_as own = record { number = own.number; code = own.code }

-- the candidate that a request names, if there is one
abbrev pub named_in : State → Request → Option Named
named_in office request = option_map named_as (own_named office request)

-- what is done for a request
abbrev pub choice_in : State → Request → Choice
choice_in office request = choice_of request (named_in office request)

-- the state of the appeal after an accepted lodging or retraction
abbrev pub state_after : Reply → AppealState
state_after (reply.Lodged stored) = stored
state_after other = state.Retracted

-- the answer to a command
abbrev pub TellsReply : Result Reply Refusal → Told → Type 0
TellsReply (Ok answered) told = told ≡ state_told (state_after answered)
TellsReply (Err refusal) told = told ≡ refusal_told refusal

-- ---- for any way in which a command is applied

-- A way to apply commands: for each command, its reply or refusal and what holds the office afterwards.
abbrev pub Applying : Type 0 → Type 1
Applying O = Command → Result Reply Refusal → O → Type 0

-- a command is applied, and its reply or refusal is answered
abbrev pub DoesCommandBy : {O : Type 0} → Applying O → Command → Told → O → Type 0
DoesCommandBy Applies command told new =
    (answered : Result Reply Refusal) × Applies command answered new × TellsReply answered told

-- How the program answers a choice over this office, and what holds the office afterwards. A lodging and a retraction
-- are applied. Any other choice changes nothing.
abbrev pub DoesBy : {O : Type 0} → Applying O → State → O → Choice → Told → O → Type 0
DoesBy Applies office old (choice.Fault fault) told new = (told ≡ error_told (fault_number fault)) × (new ≡ old)
DoesBy Applies office old (choice.OtherMethod route) told new = (told ≡ method_told route) × (new ≡ old)
DoesBy Applies office old (choice.Refused refusal) told new = (told ≡ refusal_told refusal) × (new ≡ old)
DoesBy Applies office old (choice.Show number page) told new =
    IsSomeAnd (own_of office number) (λ own. told ≡ ok_told (page_body page own)) × (new ≡ old)
DoesBy Applies office old (choice.Lodge lodging) told new = DoesCommandBy Applies (command.Lodge lodging) told new
DoesBy Applies office old (choice.Retract number reference) told new =
    DoesCommandBy Applies (command.Retract number reference) told new

-- memory ran out, and nothing has changed
abbrev pub IsBusy : {O : Type 0} → O → Told → O → Type 0
IsBusy old told new = (told ≡ refusal_told NoMemory) × (new ≡ old)

-- the answer to a request, by what it asks and what the office shows of the candidate that it names
abbrev pub AnswersBy : {O : Type 0} → Applying O → State → O → Request → Told → O → Type 0
AnswersBy Applies office old request told new =
    IsBusy old told new ⊎ DoesBy Applies office old (choice_in office request) told new

-- the answer to what was asked: a fault is answered by its number, and then nothing changes
abbrev pub AnswersAskedBy : {O : Type 0} → Applying O → State → O → Result Request Fault → Told → O → Type 0
AnswersAskedBy Applies office old (Ok request) told new = AnswersBy Applies office old request told new
AnswersAskedBy Applies office old (Err fault) told new = (told ≡ error_told (fault_number fault)) × (new ≡ old)

-- ---- for a command that is applied on a day to the office in a store

-- how a command is applied
abbrev pub AppliesIn : {S : Type 0} → Ghosts S → ℕ → OfficeIn S → Applying (OfficeIn S)
AppliesIn g today old command answered new = IsApplied g command today old answered new

-- a command is applied, and its reply or refusal is answered
abbrev pub DoesCommand : {S : Type 0} → Ghosts S → ℕ → OfficeIn S → Command → Told → OfficeIn S → Type 0
DoesCommand g today old = DoesCommandBy (AppliesIn g today old)

-- the answer to a choice, and the office after it
abbrev pub Does : {S : Type 0} → Ghosts S → ℕ → OfficeIn S → Choice → Told → OfficeIn S → Type 0
Does g today old = DoesBy (AppliesIn g today old) old.office old

-- the answer to a request
abbrev pub Answers : {S : Type 0} → Ghosts S → ℕ → OfficeIn S → Request → Told → OfficeIn S → Type 0
Answers g today old = AnswersBy (AppliesIn g today old) old.office old

-- the answer to what was asked
abbrev pub AnswersAsked : {S : Type 0} → Ghosts S → ℕ → OfficeIn S → Result Request Fault → Told → OfficeIn S → Type 0
AnswersAsked g today old = AnswersAskedBy (AppliesIn g today old) old.office old

-- ---- when memory may run out

-- once the route is found, only a request that shows the code takes memory
abbrev pub AnswersFound : {S : Type 0} → Ghosts S → ℕ → OfficeIn S → Request → Told → OfficeIn S → Type 0
AnswersFound g today old request told new =
    (ShowsCode request (named_in old.office request) × IsBusy old told new)
    ⊎ Does g today old (choice_in old.office request) told new

-- a page that is shown is that of a candidate of the office
abbrev pub IsOfOffice : State → Choice → Type 0
IsOfOffice office (choice.Show number page) = IsSome (own_of office number)
IsOfOffice office other = ⊤

-- a page is shown
abbrev pub IsShow : Choice → Type 0
IsShow (choice.Show number page) = ⊤
IsShow other = ⊥

-- the answer to a choice, or 22 for a page
abbrev pub MayDo : {S : Type 0} → Ghosts S → ℕ → OfficeIn S → Choice → Told → OfficeIn S → Type 0
MayDo g today old chosen told new = (IsShow chosen × IsBusy old told new) ⊎ Does g today old chosen told new
