-- What a request asks, as its bytes say.
use Rattle.std.specs.Prelude.{◌≡◌, ◌+◌, ◌≤◌, ℕ, List, length, take, drop, Option, option_map, Result, Ok, Err}
use Rattle.std.specs.Prelude.{MatchResult, nat_lt, ⊤, if◌then◌else◌}
use Rattle.exam_request.specs.Head.{Judges, LiesIn, Said, said_at}
use Rattle.exam_send.specs.Given.{Gave}
use Rattle.exam_request.specs.Input.{head_of}
use Rattle.exam_request.specs.declared.fault.Fault.{Fault}
use Rattle.exam_request.specs.declared.fault.Fault.TheVariants.{Length}
use Rattle.exam_request.specs.declared.reading.Asked.{Asked}
use Rattle.exam_request.specs.declared.reading.Asked.TheVariants as asked
use Rattle.exam_request.specs.declared.reading.Message.{Message}
use Rattle.exam_request.specs.declared.reading.ReadFailed.{ReadFailed}
use Rattle.exam_request.specs.declared.reading.Request.{Request as Parts}
use Rattle.exam_request.specs.declared.reading.Stop.{Stop}
use Rattle.exam_request.specs.declared.reading.Stop.TheVariants.{Failed, Faulty}
use Rattle.exam_request.specs.Sizes.{most_request}

-- A request: its method, its target, the value of its one access code line, and its body.
pub record Request : Type 0 where
  pub method : List ℕ
  pub target : List ℕ
  pub code : Option (List ℕ)
  pub body : List ℕ

-- what a head says, with this body
abbrev pub request_with : Said → List ℕ → Request
request_with said body = record {
  method = said.method;
  target = said.target;
  code = said.code;
  body = body;
}

-- the body is the next bytes; there must be as many as the head says
abbrev pub asked_with : List ℕ → Result Said Fault → Result Request Fault
asked_with rest (Err fault) = Err fault
asked_with rest (Ok said) =
    if nat_lt (length rest) said.body_length then Err Length
    else Ok (request_with said (take said.body_length rest))

-- what an input asks: the fault of its head, or what its head says with the body after it
abbrev pub Asks : List ℕ → Result Request Fault → Type 0
Asks input answer = MatchResult (head_of input)
    (λ p. (said : Result Said Fault) × Judges p.0 said × (answer ≡ asked_with p.1 said))
    (λ fault. answer ≡ Err fault)

-- the parts of a request that a caller gets
abbrev pub request_of : Parts → Request
request_of parts = record {
  method = parts.method.now;
  target = parts.target.now;
  code = option_map (λ c. c.now) parts.code;
  body = parts.body.now;
}

-- what a caller gets, as what was asked
abbrev pub asked_of : Asked → Result Request Fault
asked_of (asked.Fault fault) = Err fault
asked_of (asked.Request parts) = Ok (request_of parts)

-- the answer is what these bytes ask
abbrev pub IsAnswerTo : Result Asked ReadFailed → List ℕ → Type 0
IsAnswerTo (Err failed) input = ⊤
IsAnswerTo (Ok done) input = Asks input (asked_of done)

-- Where a request lies in a buffer.

-- the head comes first, and the body after it
abbrev pub request_at : List ℕ → Message → Request
request_at buffer m =
    request_with (said_at (take m.head buffer) m.spans) (take m.spans.body_length (drop m.head buffer))

-- its parts lie in the buffer
pub record MessageLiesIn (buffer : List ℕ) (m : Message) : Type 0 where
  pub within : m.head + m.spans.body_length ≤ length buffer
  pub parts : LiesIn (take m.head buffer) m.spans

-- the message in the buffer is what the given bytes ask, and a fault is the fault of these bytes
abbrev pub FindsMessage : Option (List ℕ) → Option (List ℕ) → List ℕ → Result Message Stop → Type 0
FindsMessage old new buffer (Ok m) =
    MessageLiesIn buffer m × Gave most_request old new (λ input. Asks input (Ok (request_at buffer m)))
FindsMessage old new buffer (Err Failed) = Gave most_request old new (λ input. ⊤)
FindsMessage old new buffer (Err (Faulty fault)) = Gave most_request old new (λ input. Asks input (Err fault))
