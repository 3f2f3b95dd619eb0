-- One request, read and answered.
use Rattle.std.specs.Prelude.{◌≡◌, ◌⊎◌, ⊤, ℕ, List, Option, Result, Ok, Err}
use Rattle.std.specs.Io.KnownBytes.{Appends}
use Rattle.sqlite_trees.specs.declared.store.Store.{Ghosts}
use Rattle.exam_store.specs.Stores.{OfficeIn}
use Rattle.exam_request.specs.Answer.{Told, answer_text}
use Rattle.exam_request.specs.Asked.{Asks, Request}
use Rattle.exam_send.specs.Given.{Gave}
use Rattle.exam_send.specs.Sending.{AppendsPart}
use Rattle.exam_request.specs.declared.fault.Fault.{Fault}
use Rattle.exam_http.specs.Answering.{AnswersAsked}
use Rattle.exam_http.specs.declared.serving.HttpFault.{HttpFault}
use Rattle.exam_http.specs.declared.serving.HttpFault.TheVariants.{Read, Write}
use Rattle.exam_request.specs.Sizes.{most_request}

-- the number that is printed for a fault of a connection
abbrev pub http_fault_number : HttpFault → ℕ
http_fault_number Read = 41
http_fault_number Write = 42

-- The answer to the bytes that a reader gave, by what they ask.
pub record Tells {S : Type 0} (g : Ghosts S) (today : ℕ) (input rest : Option (List ℕ)) (old : OfficeIn S)
    (told : Told) (new : OfficeIn S) : Type 0 where
  pub asked : Result Request Fault
  pub gave : Gave most_request input rest (λ bytes. Asks bytes asked)
  pub answers : AnswersAsked g today old asked told new

-- the answer to what was asked, and how much of it was written
abbrev pub Replies : {S W : Type 0} → Ghosts S → (W → Option (List ℕ)) → ℕ → Result Request Fault
    → OfficeIn S → W → Result (Unit {0}) HttpFault → OfficeIn S → W → Type 0
Replies g contents today asked old before (Ok done) new after =
    (told : Told) × AnswersAsked g today old asked told new
    × Appends (contents before) (contents after) (answer_text told)
Replies g contents today asked old before (Err Read) new after = ⊥
Replies g contents today asked old before (Err Write) new after =
    (told : Told) × AnswersAsked g today old asked told new
    × AppendsPart (contents before) (contents after) (answer_text told)

-- If nothing fails, all of the answer is written. After a failed read nothing was written and nothing changed. After a
-- failed write a beginning of the answer was written, but not all, and what was done is not undone.
abbrev pub Serves : {S W : Type 0} → Ghosts S → (W → Option (List ℕ)) → ℕ → Option (List ℕ) → Option (List ℕ)
    → OfficeIn S → W → Result (Unit {0}) HttpFault → OfficeIn S → W → Type 0
Serves g contents today input rest old before (Ok done) new after =
    (told : Told) × Tells g today input rest old told new
    × Appends (contents before) (contents after) (answer_text told)
Serves g contents today input rest old before (Err Read) new after =
    Gave most_request input rest (λ bytes. ⊤) × (new ≡ old) × (after ≡ before)
Serves g contents today input rest old before (Err Write) new after =
    (told : Told) × Tells g today input rest old told new
    × AppendsPart (contents before) (contents after) (answer_text told)

-- ---- which day it is

-- A request is answered on this day and changes nothing but by its answer, or none could be read and nothing changes.
abbrev pub ServedOn : {S : Type 0} → Ghosts S → ℕ → OfficeIn S → OfficeIn S → Type 0
ServedOn g today old new =
    (new ≡ old) ⊎ ((asked : Result Request Fault) × (told : Told) × AnswersAsked g today old asked told new)
