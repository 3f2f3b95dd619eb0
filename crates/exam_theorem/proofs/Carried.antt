-- What a line does to an office in a store is what its order asks of the office.
use Rattle.exam_theorem.proofs.Words.{Ghosts, Refusal, Command, Reply, Kind, ImportRows, import_of, Job, OfficeIn}
use Rattle.exam_theorem.proofs.Words.{DoesJob}
use Rattle.exam_theorem.proofs.Words.{JobFault, FollowsCommand, LineEnd, is_failure, told, command_of, import_command}
use Rattle.exam_theorem.proofs.Words.{KeepsOn}
use Rattle.std.proofs.Common.{◌≡◌, ℕ, List, Option, Some, refl, sym, ap, subst, inl, inr}
use Rattle.std.specs.Prelude.{Result, Ok, Err, IsTrue}
use Rattle.exam_types.specs.declared.refusal.Refusal.TheVariants.{NoMemory}
use Rattle.exam_commands.specs.declared.command.Command.TheVariants as command
use Rattle.exam_line.specs.Lines as line
use Rattle.exam_job.specs.Jobs.{Commands, Imports, ImportsFile, Stops, PrintsReply, denoted, unread, short}
use Rattle.exam_job.specs.declared.report.JobFault.TheVariants.{File, Net, Refused, Write}
use Rattle.exam_theorem.specs.Following.{Fails, IsDone, TellsAnswer}
use Rattle.exam_theorem.proofs.KeptOffice.{committed, unchanged}
use Rattle.exam_theorem.proofs.Sheets.{sheet_keeps}

module _ {S W : Type 0} (g : Ghosts S) (contents : W → Option (List ℕ)) (today : ℕ) (file : List ℕ)
    (rest : Option (List ℕ)) (old new : OfficeIn S) (before after : W) where
  -- ---- a command

  -- the line ends as its step does
  answer : (answered : Result Reply Refusal) (result : Result (Unit {0}) JobFault)
      → PrintsReply contents answered before result after → TellsAnswer answered (told result)
  answer (Ok reply) (Ok done) tells = inl refl
  answer (Ok reply) (Err Write) tells = inr refl
  answer (Ok reply) (Err (Refused e)) tells = absurd tells
  answer (Ok reply) (Err File) tells = absurd tells
  answer (Ok reply) (Err Net) tells = absurd tells
  answer (Err e) result tells = ap told tells.0

  -- ---- a fault before it, or the step

  failing : (f : JobFault) (result : Result (Unit {0}) JobFault) → IsTrue (is_failure (told (Err f)))
      → Stops f old before result new after → Fails old.office (told result) new.office
  failing f result is (fault, same, unsent) =
      (subst (λ r. IsTrue (is_failure (told r))) (sym fault) is, ap (λ (o : OfficeIn S). o.office) same)

  commanded : (done : Command) (result : Result (Unit {0}) JobFault)
      → Commands g contents done today old before result new after
      → IsDone done today old.office (told result) new.office × KeepsOn g old new
  commanded done result (inl stops) = (inr (failing (Refused NoMemory) result refl stops), unchanged g old new stops.1)
  commanded done result (inr (answered, carried, tells)) = (
    inl (answered, carried.applied.step, answer answered result tells),
    committed g old new answered carried.applied.made carried.kept,
  )

  -- whatever the file denotes
  import_failed : (import : Result ImportRows Refusal) (end : LineEnd) → Fails old.office end new.office
      → FollowsCommand (Some (import_command import)) today old.office end new.office
  import_failed (Ok rows) end fails = inr fails
  import_failed (Err refusal) end fails = inr fails

  -- ---- an import

  imports : (import : Result ImportRows Refusal) (result : Result (Unit {0}) JobFault)
      → Imports g contents import today old before result new after
      → FollowsCommand (Some (import_command import)) today old.office (told result) new.office × KeepsOn g old new
  imports (Ok rows) result h = commanded (command.Import rows) result h
  imports (Err refusal) result (fault, same, unsent) =
      (inl (ap told fault, ap (λ (o : OfficeIn S). o.office) same), unchanged g old new same)

  imported : (kind : Kind) (result : Result (Unit {0}) JobFault)
      → ImportsFile g contents kind today (Some file) rest old before result new after
      → FollowsCommand (Some (import_command (import_of kind file))) today old.office (told result) new.office
      × KeepsOn g old new
  imported kind result (denoted import gave h) =
      subst (λ (i : Result ImportRows Refusal). FollowsCommand (Some (import_command i)) today old.office
      (told result) new.office × KeepsOn g old new)
      (sym gave.known) (imports import result h)
  imported kind result (unread gave stops) =
      (import_failed (import_of kind file) (told result) (failing File result refl stops), unchanged g old new stops.1)
  imported kind result (short gave stops) = (
    import_failed (import_of kind file) (told result) (failing (Refused NoMemory) result refl stops),
    unchanged g old new stops.1,
  )

  -- ---- a line

  office_stays : new ≡ old → (new.office ≡ old.office) × KeepsOn g old new
  office_stays same = (ap (λ (o : OfficeIn S). o.office) same, unchanged g old new same)

  pub follows : (job : Job) (result : Result (Unit {0}) JobFault)
      → DoesJob g contents job today (Some file) rest old before result new after
      → FollowsCommand (command_of job file) today old.office (told result) new.office × KeepsOn g old new
  follows (line.import kind path) result h = imported kind result h
  follows (line.apply done) result h = commanded done result h.1
  follows (line.print session which) result h =
      sheet_keeps g contents today (Some file) rest old new before result after session which h
  follows other result h = office_stays h.1
