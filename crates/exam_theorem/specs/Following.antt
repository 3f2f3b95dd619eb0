-- What becomes of orders.
use Rattle.std.specs.Prelude.{◌≡◌, ◌⊎◌, ⊤, ℕ, All, Bool, true, false, IsTrue, List, [], ◌∷◌, Option, Some, None}
use Rattle.std.specs.Prelude.{Result, Ok, Err}
use Rattle.clap.specs.Words.{Text}
use Rattle.exam_types.specs.declared.refusal.Refusal.{Refusal}
use Rattle.exam_plan.specs.Matching.{Keeps}
use Rattle.exam_rules.specs.Relations.{Code}
use Rattle.exam_rules.specs.Seatings.{plan_of, seating}
use Rattle.exam_commands.specs.declared.command.Command.{Command}
use Rattle.exam_commands.specs.declared.command.Reply.{Reply}
use Rattle.exam_commands.specs.Headline.{IsSeated}
use Rattle.exam_commands.specs.State.{State}
use Rattle.exam_line.specs.Lines.{Answers, Said}
use Rattle.exam_line.specs.declared.line.LineFault.{LineFault}
use Rattle.exam_line.specs.declared.line.LineFault.TheVariants.{NoMemory}
use Rattle.exam_request.specs.Answer.{Told, answer_text}
use Rattle.exam_store.specs.Applied.{MayApply}
use Rattle.exam_http.specs.Alike.{IsFailure}
use Rattle.exam_http.specs.declared.serving.HttpFault.{HttpFault}
use Rattle.exam_tables.specs.Faults.{is_store_refusal}
use Rattle.exam_job.specs.declared.report.JobFault.{JobFault}
use Rattle.exam_job.specs.declared.report.JobFault.TheVariants.{File, Refused, Write}
use Rattle.exam_theorem.specs.Orders.{Given, MayUnseat, command_of, line_of, of_line, of_request}
use Rattle.exam_theorem.specs.Requests.{FollowsRequest}
use Rattle.exam_theorem.specs.declared.orders.LineStop.{LineStop}
use Rattle.exam_theorem.specs.declared.orders.LineStop.TheVariants.{NoLine, Job}
use Rattle.exam_theorem.specs.declared.orders.Outcome.{Outcome}
use Rattle.exam_theorem.specs.declared.orders.Outcome.TheVariants as outcome

-- ---- a command line

-- the line was carried out, or why not
abbrev pub LineEnd : Type 0
LineEnd = Result (Unit {0}) LineStop

-- what became of a line that was read
abbrev pub told : Result (Unit {0}) JobFault → LineEnd
told (Ok done) = Ok done
told (Err fault) = Err (Job fault)

-- memory ran out, a read failed, the database failed, or it holds no office
abbrev pub is_failure : LineEnd → Bool
is_failure (Err (NoLine NoMemory)) = true
is_failure (Err (Job File)) = true
is_failure (Err (Job (Refused refusal))) = is_store_refusal refusal
is_failure other = false

-- there was a failure, and nothing changed
abbrev pub Fails : State → LineEnd → State → Type 0
Fails before end after = IsTrue (is_failure end) × (after ≡ before)

-- the line ends with this refusal, or there was a failure before; nothing changed
abbrev pub IsRefused : Refusal → State → LineEnd → State → Type 0
IsRefused refusal before end after =
    ((end ≡ Err (Job (Refused refusal))) × (after ≡ before)) ⊎ Fails before end after

-- how the line of a command ends, by its answer: it is done, whether or not what it prints was written, or it is
-- refused
abbrev pub TellsAnswer : Result Reply Refusal → LineEnd → Type 0
TellsAnswer (Ok reply) end = (end ≡ Ok tt) ⊎ (end ≡ Err (Job Write))
TellsAnswer (Err refusal) end = end ≡ Err (Job (Refused refusal))

-- the command makes its step or is refused, and the line ends with that; or there was a failure before
abbrev pub IsDone : Command → ℕ → State → LineEnd → State → Type 0
IsDone done today before end after =
    ((answered : Result Reply Refusal) × MayApply done today before answered after × TellsAnswer answered end)
    ⊎ Fails before end after

-- a command of the office is done, an import file that denotes none is refused, and nothing else changes the office
abbrev pub FollowsCommand : Option (Result Command Refusal) → ℕ → State → LineEnd → State → Type 0
FollowsCommand None today before end after = after ≡ before
FollowsCommand (Some (Ok done)) today before end after = IsDone done today before end after
FollowsCommand (Some (Err refusal)) today before end after = IsRefused refusal before end after

-- the words are not understood: this is the outcome, and nothing changes
abbrev pub IsNoLine : List Text → State → LineEnd → State → Type 0
IsNoLine words before end after =
    (fault : LineFault) × (end ≡ Err (NoLine fault)) × Answers (Err fault) words × (after ≡ before)

abbrev pub FollowsLine : Option Said → List Text → List ℕ → State → LineEnd → State → Type 0
FollowsLine None words file before end after = IsNoLine words before end after
FollowsLine (Some said) words file before end after =
    FollowsCommand (command_of said.job file) said.today before end after

-- how the words of a command line end, with the file that it imports, and the office after them
abbrev pub FollowsWords : List Text → List ℕ → State → LineEnd → State → Type 0
FollowsWords words file before end after = FollowsLine (line_of words) words file before end after

-- ---- orders

-- the outcome of an order, and the office after it
abbrev pub Follows : Given → State → Outcome → State → Type 0
Follows (of_line words file) before (outcome.Line end) after = FollowsWords words file before end after
Follows (of_request bytes today) before (outcome.Request answered) after =
    FollowsRequest bytes today before answered after
Follows (of_line words file) before (outcome.Request answered) after = ⊥
Follows (of_request bytes today) before (outcome.Line end) after = ⊥

-- each order leads in this way from the office that the order before it left to the next
abbrev pub AreEach : (Given → State → Outcome → State → Type 0) → List Given → State → List Outcome → State → Type 0
AreEach Leads [] before [] after = after ≡ before
AreEach Leads (order ∷ orders) before (outcome ∷ outcomes) after =
    (mid : State) × Leads order before outcome mid × AreEach Leads orders mid outcomes after
AreEach Leads [] before (outcome ∷ outcomes) after = ⊥
AreEach Leads (order ∷ orders) before [] after = ⊥

-- each order is followed in the office that the order before it left
abbrev pub AreFollowed : List Given → State → List Outcome → State → Type 0
AreFollowed = AreEach Follows

-- ---- seats that are kept

-- in each session everybody who sat and is still a member sits, except those who may lose a seat by the order
abbrev pub Spares : Given → State → State → Type 0
Spares order before after = (s : Code) → Keeps (MayUnseat order) (seating after.relations s)
    (plan_of before.seats s) (plan_of after.seats s)

-- an order is followed, all others keep a seat, and every session is seated as promised
pub record SparesOthers (order : Given) (before : State) (outcome : Outcome) (after : State) : Type 0 where
  pub follows : Follows order before outcome after
  pub spares : Spares order before after
  pub seated : (s : Code) → IsSeated after s

-- each order spares others, in the office that the order before it left
abbrev pub EachSparesOthers : List Given → State → List Outcome → State → Type 0
EachSparesOthers = AreEach SparesOthers

-- ---- one office

-- the request was not read, there was no room for its answer, or its answer is that to a failure
abbrev pub IsFailureOf : Result (Unit {0}) HttpFault → List ℕ → Type 0
IsFailureOf (Err fault) answer = ⊤
IsFailureOf (Ok done) answer = (told : Told) × IsFailure told × (answer ≡ answer_text told)

-- a line or a request met a failure
abbrev pub MeetsFailure : Outcome → Type 0
MeetsFailure (outcome.Line end) = IsTrue (is_failure end)
MeetsFailure (outcome.Request answered) = IsFailureOf answered.served answered.answer.items

-- no order met a failure
abbrev pub NoneFails : List Outcome → Type 0
NoneFails outcomes = All (λ outcome. MeetsFailure outcome → ⊥) outcomes

-- if the orders are followed again without a failure, they end in the same office
abbrev pub EndsInOne : List Given → State → List Outcome → State → Type 0
EndsInOne orders before outcomes after =
    NoneFails outcomes → (others : List Outcome) (other : State) → AreFollowed orders before others other
    → NoneFails others → other ≡ after
