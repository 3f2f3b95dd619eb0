-- Whom a line costs a seat, and that a request costs nobody one.
use Rattle.exam_theorem.proofs.Words.{Text, Refusal, Code, Command, Reply, IsGood, IsInOrder, State, Step, Said, Told}
use Rattle.exam_theorem.proofs.Words.{Request, Choice, Fault, MayApply, choice_in, HttpFault, Read, Write}
use Rattle.exam_theorem.proofs.Words.{FollowsCommand, FollowsLine, LineEnd, command_of, line_of, of_line, of_request}
use Rattle.exam_theorem.proofs.Words.{AnswersInOffice, ServesInOffice}
use Rattle.std.proofs.Common.{◌≡◌, ℕ, List, Option, None, Some, sym, ap, subst, inl, inr}
use Rattle.std.specs.Prelude.{Result, Ok, Err, IsSome}
use Rattle.exam_plan.specs.Matching.{Keeps, Plan, Seating}
use Rattle.exam_rules.specs.Relations.{Relations}
use Rattle.exam_rules.specs.Seatings.{plan_of, seating}
use Rattle.exam_commands.specs.declared.command.Command.TheVariants as command
use Rattle.exam_commands.specs.declared.command.Lodging.{Lodging}
use Rattle.exam_commands.specs.Steps.{SeatsOn, StepTo, change}
use Rattle.exam_request.specs.declared.choice.Choice.TheVariants as choice
use Rattle.exam_theorem.specs.Following.{FollowsWords, Spares}
use Rattle.exam_theorem.specs.Orders.{CommandMayUnseat, GivenMayUnseat, LineMayUnseat}
use Rattle.exam_theorem.specs.Requests.{DoesInOffice}

-- nobody leaves a seat where all plans stay
seats_stay : (Excepted : ℕ → Type 0) (before after : State) → after.seats ≡ before.seats → (s : Code)
    → Keeps Excepted (seating after.relations s) (plan_of before.seats s) (plan_of after.seats s)
seats_stay Excepted before after same s =
    λ c sat member other. subst (λ (seats : List ((Code × ℕ) × Code)). IsSome (plan_of seats s c)) (sym same) sat

-- ---- a line

-- who a step seats for certain
seated_on : (done : Command) (g : Seating ℕ Code) (p q : Plan ℕ Code) → SeatsOn done g p q
    → Keeps (CommandMayUnseat done) g p q
seated_on (command.Import import) g p q on = λ c sat member other. absurd (other tt)
seated_on (command.CloseHall session hall) g p q on = λ c sat member other. absurd (other tt)
seated_on (command.Withdraw number paper) g p q on = on
seated_on (command.Reinstate number paper) g p q on = on
seated_on (command.Lodge lodging) g p q on = on
seated_on (command.Retract number reference) g p q on = on
seated_on (command.Decide decision) g p q on = on

module _ (before after : State) where
  -- in each session all others sit on
  abbrev KeepsOthers : (ℕ → Type 0) → Type 0
  KeepsOthers Excepted = (s : Code)
      → Keeps Excepted (seating after.relations s) (plan_of before.seats s) (plan_of after.seats s)

  stays : (Excepted : ℕ → Type 0) → after ≡ before → KeepsOthers Excepted
  stays Excepted same = seats_stay Excepted before after (ap (λ (o : State). o.seats) same)

  made : (done : Command) (reply : Reply) (changed : Result Relations Refusal)
      → StepTo done before (Ok reply) after changed → KeepsOthers (CommandMayUnseat done)
  made done reply (Err e) h = absurd cc
  made done reply (Ok r) h = λ s.
      seated_on done (seating after.relations s) (plan_of before.seats s) (plan_of after.seats s)
      (subst (λ (t : Relations). SeatsOn done (seating t s) (plan_of before.seats s) (plan_of after.seats s)) (sym h.0)
      (h.1 s).kept)

  applied : (done : Command) (today : ℕ) (answered : Result Reply Refusal) → MayApply done today before answered after
      → KeepsOthers (CommandMayUnseat done)
  applied done today (Ok reply) may = made done reply (change done today before) may
  applied done today (Err e) may = stays (CommandMayUnseat done) may.0

  commanded : (asked : Option (Result Command Refusal)) (today : ℕ) (end : LineEnd)
      → FollowsCommand asked today before end after → KeepsOthers (GivenMayUnseat asked)
  commanded None today end h = stays (GivenMayUnseat None) h
  commanded (Some (Ok done)) today end (inl (answered, may, tells)) = applied done today answered may
  commanded (Some (Ok done)) today end (inr fails) = stays (CommandMayUnseat done) fails.1
  commanded (Some (Err refusal)) today end (inl told) = stays (GivenMayUnseat (Some (Err refusal))) told.1
  commanded (Some (Err refusal)) today end (inr fails) = stays (GivenMayUnseat (Some (Err refusal))) fails.1

  lined : (line : Option Said) (words : List Text) (file : List ℕ) (end : LineEnd)
      → FollowsLine line words file before end after → KeepsOthers (LineMayUnseat line file)
  lined None words file end h = stays (LineMayUnseat None file) h.3
  lined (Some said) words file end h = commanded (command_of said.job file) said.today end h

  pub line_spares : (words : List Text) (file : List ℕ) (end : LineEnd) → FollowsWords words file before end after
      → Spares (of_line words file) before after
  line_spares words file end h = lined (line_of words) words file end h

  -- ---- a request

  in_order : (done : Command) (reply : Reply) (changed : Result Relations Refusal)
      → StepTo done before (Ok reply) after changed → IsInOrder after
  in_order done reply (Err e) h = absurd cc
  in_order done reply (Ok r) h = h.3

-- lodging and retracting move nobody
abbrev pub LodgingMovesNobody : Type 0
LodgingMovesNobody =
    (lodging : Lodging) (day : ℕ) (before after : State) (first : Reply) → IsGood before → IsInOrder before
    → IsInOrder after
    → Step (command.Lodge lodging) day before (Ok first) after → after.seats ≡ before.seats

abbrev pub RetractingMovesNobody : Type 0
RetractingMovesNobody =
    (number : ℕ) (reference : Code) (day : ℕ) (before after : State) (first : Reply) → IsGood before → IsInOrder before
    → IsInOrder after
    → Step (command.Retract number reference) day before (Ok first) after → after.seats ≡ before.seats

module _ (lodging : LodgingMovesNobody) (retracting : RetractingMovesNobody) (before : State) (good : IsGood before)
    (order : IsInOrder before) (today : ℕ) (after : State) where
  same_seats : after ≡ before → after.seats ≡ before.seats
  same_seats same = ap (λ (o : State). o.seats) same

  lodged : (l : Lodging) (answered : Result Reply Refusal) → MayApply (command.Lodge l) today before answered after
      → after.seats ≡ before.seats
  lodged l (Ok reply) may =
      lodging l today before after reply good order
      (in_order before after (command.Lodge l) reply (change (command.Lodge l) today before) may) may
  lodged l (Err e) may = same_seats may.0

  retracted : (number : ℕ) (reference : Code) (answered : Result Reply Refusal)
      → MayApply (command.Retract number reference) today before answered after → after.seats ≡ before.seats
  retracted number reference (Ok reply) may =
      retracting number reference today before after reply good order
      (in_order before after (command.Retract number reference) reply
      (change (command.Retract number reference) today before) may) may
  retracted number reference (Err e) may = same_seats may.0

  chosen : (c : Choice) (told : Told) → DoesInOffice today before c told after → after.seats ≡ before.seats
  chosen (choice.Lodge l) told (answered, may, tells) = lodged l answered may
  chosen (choice.Retract number reference) told (answered, may, tells) = retracted number reference answered may
  chosen (choice.Fault fault) told h = same_seats h.1
  chosen (choice.OtherMethod route) told h = same_seats h.1
  chosen (choice.Refused refusal) told h = same_seats h.1
  chosen (choice.Show number page) told h = same_seats h.1

  answered_stays : (asked : Result Request Fault) (told : Told) → AnswersInOffice today before asked told after
      → after.seats ≡ before.seats
  answered_stays (Err fault) told h = same_seats h.1
  answered_stays (Ok request) told (inl busy) = same_seats busy.1
  answered_stays (Ok request) told (inr h) = chosen (choice_in before request) told h

  served_stays : (bytes : List ℕ) (result : Result (Unit {0}) HttpFault) (answer : List ℕ)
      → ServesInOffice bytes today before result answer after → after.seats ≡ before.seats
  served_stays bytes (Ok done) answer (told, h, is) = answered_stays h.asked told h.answers
  served_stays bytes (Err Read) answer h = same_seats h.1
  served_stays bytes (Err Write) answer (told, h, part) = answered_stays h.asked told h.answers

  pub request_spares : (bytes : List ℕ) (result : Result (Unit {0}) HttpFault) (answer : List ℕ)
      → ServesInOffice bytes today before result answer after → Spares (of_request bytes today) before after
  request_spares bytes result answer h = seats_stay (λ c. ⊥) before after (served_stays bytes result answer h)
