-- What a line or a request makes of an office in a store that is at rest.
use Rattle.exam_theorem.proofs.Words.{Ghosts, IsDay, Refusal, Code, Command, Reply, Kind, ImportRows, State, import_of}
use Rattle.exam_theorem.proofs.Words.{Job, Sheet, is_store_refusal, HasRowDays, OfficeIn, Told, answer_text}
use Rattle.exam_theorem.proofs.Words.{refusal_told, Asks, Request, Choice, Fault, choice_in, HttpFault, Read, Write}
use Rattle.exam_theorem.proofs.Words.{DoesJob, JobFault, FollowsCommand, IsFailureOf, LineEnd, is_failure, told}
use Rattle.exam_theorem.proofs.Words.{KeepsOn}
use Rattle.exam_theorem.proofs.Words.{command_of, import_command, TellsInOffice, Settles}
use Rattle.std.proofs.Common.{◌≡◌, ℕ, List, [], Option, None, Some, refl, sym, subst, inl, inr}
use Rattle.std.specs.Prelude.{Result, Ok, Err, IsTrue}
use Rattle.std.specs.Io.KnownBytes.{Appends}
use Rattle.exam_types.specs.declared.refusal.Refusal.TheVariants as refusal
use Rattle.exam_commands.specs.declared.command.Command.TheVariants as command
use Rattle.exam_line.specs.Lines as line
use Rattle.exam_line.specs.declared.line.Sheet.TheVariants as sheet
use Rattle.exam_request.specs.Answer.{state_told}
use Rattle.exam_request.specs.declared.choice.Choice.TheVariants as choice
use Rattle.exam_http.specs.Alike.{IsFailure}
use Rattle.exam_http.specs.Answering as http
use Rattle.exam_http.specs.Answering.{state_after}
use Rattle.exam_http.specs.Serving as serving
use Rattle.exam_job.specs.Jobs.{Commands, Imports, ImportsFile, PrintsReply, denoted, unread, short}
use Rattle.exam_job.specs.declared.report.JobFault.TheVariants.{Refused}
use Rattle.exam_theorem.specs.Requests.{DoesInOffice}
use Rattle.exam_theorem.proofs.OneOffice.{OneResult}
use Rattle.exam_theorem.proofs.Settling.{DaysStay, IsSettled, applied_settles, reading_settles, unchanged_settles}

-- the commands that a line gives have such days
abbrev pub GivesDays : Option (Result Command Refusal) → Type 0
GivesDays asked = (done : Command) → asked ≡ Some (Ok done) → HasRowDays done

module _ {S W : Type 0} (g : Ghosts S) (settled : IsSettled g) (one_result : OneResult) (days_stay : DaysStay)
    (contents : W → Option (List ℕ)) (today : ℕ) (is_day : IsDay today) where
  -- ---- a command line

  module _ (file : List ℕ) (rest : Option (List ℕ)) (old new : OfficeIn S) (before after : W)
      (result : Result (Unit {0}) JobFault) (on : KeepsOn g old new) where
    abbrev Failed : Type 0
    Failed = IsTrue (is_failure (told result))

    -- the offices to which what is asked may lead
    abbrev Led : Option (Result Command Refusal) → State → Type 0
    Led asked at = (end : LineEnd) × FollowsCommand asked today old.office end at

    abbrev Settled : Option (Result Command Refusal) → Type 0
    Settled asked = Settles g Failed (Led asked) old new

    -- the line ends with a refusal of the store
    told_failure : (answered : Result Reply Refusal) (e : Refusal) → PrintsReply contents answered before result after
        → answered ≡ Err e → IsTrue (is_store_refusal e) → Failed
    told_failure answered e tells is bad =
        let ends : (result ≡ Err (Refused e)) × (after ≡ before) =
        subst (λ (a : Result Reply Refusal). PrintsReply contents a before result after) is tells in
        subst (λ (r : Result (Unit {0}) JobFault). IsTrue (is_failure (told r))) (sym ends.0) bad

    commanded : (done : Command) → HasRowDays done → Commands g contents done today old before result new after
        → Settled (Some (Ok done))
    commanded done days (inl stops) = unchanged_settles g settled Failed (Led (Some (Ok done))) old new stops.1
    commanded done days (inr (answered, carried, tells)) =
        applied_settles g settled Failed (Led (Some (Ok done))) old new one_result days_stay done today is_day days
        (λ reply at step. (Ok tt, inl (Ok reply, step, inl refl))) answered
        (λ e is bad. told_failure answered e tells is bad) carried.applied on

    imports : (import : Result ImportRows Refusal) → GivesDays (Some (import_command import))
        → Imports g contents import today old before result new after → Settled (Some (import_command import))
    imports (Ok rows) days h = commanded (command.Import rows) (days (command.Import rows) refl) h
    imports (Err e) days h = unchanged_settles g settled Failed (Led (Some (Err e))) old new h.1

    imported : (kind : Kind) → GivesDays (Some (import_command (import_of kind file)))
        → ImportsFile g contents kind today (Some file) rest old before result new after
        → Settled (Some (import_command (import_of kind file)))
    imported kind days (denoted import gave h) =
        subst (λ (i : Result ImportRows Refusal). GivesDays (Some (import_command i))
        → Settled (Some (import_command i))) (sym gave.known) (λ given. imports import given h) days
    imported kind days (unread gave stops) =
        unchanged_settles g settled Failed (Led (Some (import_command (import_of kind file)))) old new stops.1
    imported kind days (short gave stops) =
        unchanged_settles g settled Failed (Led (Some (import_command (import_of kind file)))) old new stops.1

    printed : (s : Code) (which : Sheet)
        → DoesJob g contents (line.print s which) today (Some file) rest old before result new after
        → Settled (command_of (line.print s which) file)
    printed s sheet.Appeals h = reading_settles g settled Failed (Led None) old new h.1.read.office h.1.read.survives on
    printed s which h = unchanged_settles g settled Failed (Led None) old new h.1

    pub line_settles : (job : Job) → GivesDays (command_of job file)
        → DoesJob g contents job today (Some file) rest old before result new after → Settled (command_of job file)
    line_settles (line.import kind path) days h = imported kind days h
    line_settles (line.apply done) days h = commanded done (days done refl) h.1
    line_settles (line.print s which) days h = printed s which h
    line_settles other days h = unchanged_settles g settled Failed (Led None) old new h.1

  -- ---- a request

  -- the answer to a refusal of the store is that to a failure
  failed : (e : Refusal) (said : Told) → IsTrue (is_store_refusal e) → said ≡ refusal_told e → IsFailure said
  failed refusal.NoMemory said is tells = inl tells
  failed refusal.Store said is tells = inr (inl tells)
  failed refusal.BadStore said is tells = inr (inr tells)
  failed e said is tells = absurd cc

  module _ (bytes : List ℕ) (old new : OfficeIn S) (on : KeepsOn g old new) (Failed : Type 0) where
    abbrev Told_to : State → Type 0
    Told_to at = (said : Told) × TellsInOffice bytes today old.office said at

    abbrev Answered : Type 0
    Answered = Settles g Failed Told_to old new

    stays : new ≡ old → Answered
    stays same = unchanged_settles g settled Failed Told_to old new same

    -- it is answered with a refusal of the store
    answered_failure : (said : Told) → (IsFailure said → Failed) → (answered : Result Reply Refusal) (e : Refusal)
        → http.TellsReply answered said → answered ≡ Err e → IsTrue (is_store_refusal e) → Failed
    answered_failure said fails answered e tells is bad =
        fails (failed e said bad (subst (λ (a : Result Reply Refusal). http.TellsReply a said) is tells))

    does : (said : Told) → (IsFailure said → Failed) → (request : Request) → Asks bytes (Ok request) → (c : Choice)
        → c ≡ choice_in old.office request → http.Does g today old c said new → Answered
    does said fails request asks (choice.Fault fault) is h = stays h.1
    does said fails request asks (choice.OtherMethod route) is h = stays h.1
    does said fails request asks (choice.Refused e) is h = stays h.1
    does said fails request asks (choice.Show number page) is h = stays h.1
    does said fails request asks (choice.Lodge lodging) is (answered, applied, tells) =
        applied_settles g settled Failed Told_to old new one_result days_stay (command.Lodge lodging) today is_day tt
        (λ reply at step. (
          state_told (state_after reply),
          record {
            asked = Ok request;
            asks = asks;
            answers = inr (subst
                (λ (c : Choice). DoesInOffice today old.office c (state_told (state_after reply)) at) is
                (Ok reply, step, refl));
          },
        ))
        answered (λ e at bad. answered_failure said fails answered e tells at bad) applied on
    does said fails request asks (choice.Retract number reference) is (answered, applied, tells) =
        applied_settles g settled Failed Told_to old new one_result days_stay
        (command.Retract number reference) today is_day tt
        (λ reply at step. (
          state_told (state_after reply),
          record {
            asked = Ok request;
            asks = asks;
            answers = inr (subst
                (λ (c : Choice). DoesInOffice today old.office c (state_told (state_after reply)) at) is
                (Ok reply, step, refl));
          },
        ))
        answered (λ e at bad. answered_failure said fails answered e tells at bad) applied on

    answers : (said : Told) → (IsFailure said → Failed) → (asked : Result Request Fault) → Asks bytes asked
        → http.AnswersAsked g today old asked said new → Answered
    answers said fails (Err fault) asks h = stays h.1
    answers said fails (Ok request) asks (inl busy) = stays busy.1
    answers said fails (Ok request) asks (inr h) = does said fails request asks (choice_in old.office request) refl h

    tells : (rest : Option (List ℕ)) (said : Told) → (IsFailure said → Failed)
        → serving.Tells g today (Some bytes) rest old said new → Answered
    tells rest said fails h = answers said fails h.asked h.gave.known h.answers

  module _ (bytes : List ℕ) (rest : Option (List ℕ)) (old new : OfficeIn S) (on : KeepsOn g old new) (empty full : W)
      (answer : List ℕ) (none : contents empty ≡ Some []) (some : contents full ≡ Some answer) where
    appended : (text : List ℕ) → Appends (contents empty) (contents full) text → answer ≡ text
    appended text h = subst (λ (o : Option (List ℕ)). Appends o (Some answer) text) none
        (subst (λ (o : Option (List ℕ)). Appends (contents empty) o text) some h)

    pub request_settles : (result : Result (Unit {0}) HttpFault)
        → serving.Serves g contents today (Some bytes) rest old empty result new full
        → Settles g (IsFailureOf result answer)
        (λ at. (said : Told) × TellsInOffice bytes today old.office said at) old new
    request_settles (Ok done) (said, h, sent) =
        tells bytes old new on (IsFailureOf (Ok done) answer) rest said
        (λ fails. (said, fails, appended (answer_text said) sent)) h
    request_settles (Err Read) (gave, same, unsent) = stays bytes old new on (IsFailureOf (Err Read) answer) same
    request_settles (Err Write) (said, h, sent) =
        tells bytes old new on (IsFailureOf (Err Write) answer) rest said (λ fails. tt) h
