-- What becomes of a request, and its answer.
use Rattle.std.specs.Prelude.{◌≡◌, ◌<◌, ◌++◌, ℕ, List, [], length, Result, Ok, Err}
use Rattle.exam_commands.specs.declared.command.Command.{Command}
use Rattle.exam_commands.specs.State.{State}
use Rattle.exam_request.specs.Answer.{Told, answer_text}
use Rattle.exam_request.specs.Asked.{Asks, Request}
use Rattle.exam_request.specs.declared.choice.Choice.{Choice}
use Rattle.exam_request.specs.declared.fault.Fault.{Fault}
use Rattle.exam_store.specs.Applied.{MayApply}
use Rattle.exam_http.specs.Answering.{AnswersAskedBy, Applying, DoesBy, DoesCommandBy}
use Rattle.exam_http.specs.declared.serving.HttpFault.{HttpFault}
use Rattle.exam_http.specs.declared.serving.HttpFault.TheVariants.{Read, Write}
use Rattle.exam_theorem.specs.declared.orders.Answered.{Answered}

-- a command makes its step on a day, or is refused
abbrev pub AppliesOn : ℕ → State → Applying State
AppliesOn today before done answered after = MayApply done today before answered after

-- a command makes its step or is refused, and the answer says which
abbrev pub DoesCommandInOffice : ℕ → State → Command → Told → State → Type 0
DoesCommandInOffice today before = DoesCommandBy (AppliesOn today before)

-- what a choice makes of the office, and its answer
abbrev pub DoesInOffice : ℕ → State → Choice → Told → State → Type 0
DoesInOffice today before = DoesBy (AppliesOn today before) before before

-- what was asked is done and answered, unless memory runs out; a fault is answered too
abbrev pub AnswersInOffice : ℕ → State → Result Request Fault → Told → State → Type 0
AnswersInOffice today before = AnswersAskedBy (AppliesOn today before) before before

-- this is the answer to what the bytes ask
pub record TellsInOffice (bytes : List ℕ) (today : ℕ) (before : State) (told : Told) (after : State) : Type 0 where
  pub asked : Result Request Fault
  pub asks : Asks bytes asked
  pub answers : AnswersInOffice today before asked told after

-- a beginning of the text, but not all
abbrev pub IsPart : List ℕ → List ℕ → Type 0
IsPart bytes text = (rest : List ℕ) × (text ≡ bytes ++ rest) × (0 < length rest)

-- All of the answer was written. Or the request was not read, and nothing changed. Or there was no room for all of the
-- answer, and what was done is not undone.
abbrev pub ServesInOffice : List ℕ → ℕ → State → Result (Unit {0}) HttpFault → List ℕ → State → Type 0
ServesInOffice bytes today before (Ok done) answer after =
    (told : Told) × TellsInOffice bytes today before told after × (answer ≡ answer_text told)
ServesInOffice bytes today before (Err Read) answer after = (answer ≡ []) × (after ≡ before)
ServesInOffice bytes today before (Err Write) answer after =
    (told : Told) × TellsInOffice bytes today before told after × IsPart answer (answer_text told)

-- the answer to a request, and the office after it
abbrev pub FollowsRequest : List ℕ → ℕ → State → Answered → State → Type 0
FollowsRequest bytes today before outcome after =
    ServesInOffice bytes today before outcome.served outcome.answer.items after
