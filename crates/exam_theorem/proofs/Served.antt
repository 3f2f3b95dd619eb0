-- A request that is served over the office in a store is followed.
use Rattle.exam_theorem.proofs.Words.{Database, state, Ghosts, Refusal, Command, Reply, State, IsSound, Keeps, OfficeIn}
use Rattle.exam_theorem.proofs.Words.{Told, answer_text, Request, Choice, Fault, choice_in, HttpFault, Read, Write}
use Rattle.exam_theorem.proofs.Words.{KeepsOn, AnswersInOffice, DoesCommandInOffice, ServesInOffice, TellsInOffice}
use Rattle.std.proofs.Common.{◌≡◌, ◌∙◌, ℕ, List, [], ◌++◌, Option, Some, sym, ap, subst, inl, inr}
use Rattle.std.specs.Prelude.{Result, Ok, Err}
use Rattle.std.specs.Io.KnownBytes.{Appends}
use Rattle.exam_commands.specs.declared.command.Command.TheVariants as command
use Rattle.exam_store.specs.Applied.{IsApplied}
use Rattle.exam_store.specs.Kept.{Rekeeps}
use Rattle.exam_send.specs.Sending.{AppendsPart}
use Rattle.exam_request.specs.declared.choice.Choice.TheVariants as choice
use Rattle.exam_http.specs.Answering as http
use Rattle.exam_http.specs.Serving as serving
use Rattle.exam_theorem.specs.Requests.{DoesInOffice, IsPart}
use Rattle.exam_theorem.proofs.KeptOffice.{committed, unchanged}
use Rattle.exam_theorem.proofs.OneOffice.{OneResult}

module _ {S : Type 0} (g : Ghosts S) (one_result : OneResult) (today : ℕ) (old new : OfficeIn S) where
  office_stays : new ≡ old → new.office ≡ old.office
  office_stays same = ap (λ (o : OfficeIn S). o.office) same

  -- the tables keep the office that the command led to
  rekeeps : (done : Command) (answered : Result Reply Refusal) → IsApplied g done today old answered new
      → IsSound (state g new.database)
      → Rekeeps old.office new.office (state g old.database).now (state g new.database).now
  rekeeps done (Ok reply) applied sound kept =
      let turned = (applied.made.turned sound.0).0 in
      let same : turned.1 ≡ new.office =
      (one_result done today old.office turned.1 new.office (Ok turned.0) (Ok reply) turned.2 applied.step).1 in
      subst (λ (o : State). Keeps (state g new.database).now o) same (turned.3 kept)
  rekeeps done (Err e) applied sound kept =
      subst (λ (o : State). Keeps (state g new.database).now o) (sym applied.step.0)
      (subst (λ (db : Database). Keeps db old.office) (sym (applied.made.same sound).0) kept)

  commanded : (done : Command) (told : Told) → http.DoesCommand g today old done told new
      → DoesCommandInOffice today old.office done told new.office × KeepsOn g old new
  commanded done told (answered, applied, tells) =
      ((answered, applied.step, tells), committed g old new answered applied.made (rekeeps done answered applied))

  does : (chosen : Choice) (told : Told) → http.Does g today old chosen told new
      → DoesInOffice today old.office chosen told new.office × KeepsOn g old new
  does (choice.Fault fault) told h = ((h.0, office_stays h.1), unchanged g old new h.1)
  does (choice.OtherMethod route) told h = ((h.0, office_stays h.1), unchanged g old new h.1)
  does (choice.Refused refusal) told h = ((h.0, office_stays h.1), unchanged g old new h.1)
  does (choice.Show number page) told h = ((h.0, office_stays h.1), unchanged g old new h.1)
  does (choice.Lodge lodging) told h = commanded (command.Lodge lodging) told h
  does (choice.Retract number reference) told h = commanded (command.Retract number reference) told h

  answers : (asked : Result Request Fault) (told : Told) → http.AnswersAsked g today old asked told new
      → AnswersInOffice today old.office asked told new.office × KeepsOn g old new
  answers (Err fault) told h = ((h.0, office_stays h.1), unchanged g old new h.1)
  answers (Ok request) told (inl busy) = (inl (busy.0, office_stays busy.1), unchanged g old new busy.1)
  answers (Ok request) told (inr h) =
      let done = does (choice_in old.office request) told h in (inr done.0, done.1)

  module _ (bytes : List ℕ) (rest : Option (List ℕ)) where
    tells : (told : Told) → serving.Tells g today (Some bytes) rest old told new
        → TellsInOffice bytes today old.office told new.office × KeepsOn g old new
    tells told h =
        let done = answers h.asked told h.answers in
        (record { asked = h.asked; asks = h.gave.known; answers = done.0 }, done.1)

    module _ {W : Type 0} (contents : W → Option (List ℕ)) (empty full : W) (answer : List ℕ)
        (none : contents empty ≡ Some []) (some : contents full ≡ Some answer) where
      appended : (text : List ℕ) → Appends (contents empty) (contents full) text → answer ≡ text
      appended text h = subst (λ (o : Option (List ℕ)). Appends o (Some answer) text) none
          (subst (λ (o : Option (List ℕ)). Appends (contents empty) o text) some h)

      part : (text : List ℕ) → AppendsPart (contents empty) (contents full) text → IsPart answer text
      part text (front, left, is, more, h) = (left, is ∙ ap (λ f. f ++ left) (sym (appended front h)), more)

      pub served : (result : Result (Unit {0}) HttpFault)
          → serving.Serves g contents today (Some bytes) rest old empty result new full
          → ServesInOffice bytes today old.office result answer new.office × KeepsOn g old new
      served (Ok done) (told, h, sent) = let it = tells told h in ((told, it.0, appended (answer_text told) sent), it.1)
      served (Err Read) (gave, same, unsent) =
          let is : Some answer ≡ Some [] = sym some ∙ ap contents unsent ∙ none in
          let nothing : answer ≡ [] = cc in
          ((nothing, office_stays same), unchanged g old new same)
      served (Err Write) (told, h, sent) = let it = tells told h in ((told, it.0, part (answer_text told) sent), it.1)
