-- An answer: what it says, and its bytes.
use Rattle.std.specs.Prelude.{ℕ, List, [], ◌∷◌, ◌++◌, ◌==◌, ◌||◌, ◌&&◌, Option, Some, None, codes}
use Rattle.std.specs.Prelude.{decimal, length, nat_le, if◌then◌else◌}
use Rattle.http.specs.StatusCode.{code_digits}
use Rattle.exam_commands.specs.declared.command.AppealState.{AppealState}
use Rattle.exam_types.specs.Days.{day_text}
use Rattle.exam_types.specs.Refusals.{refusal_number}
use Rattle.exam_types.specs.declared.refusal.Refusal.{Refusal}
use Rattle.exam_types.specs.declared.refusal.Refusal.TheVariants.{PastClosing}
use Rattle.exam_request.specs.Json.{number, object_text, text}
use Rattle.exam_request.specs.Methods.{allow_text}
use Rattle.exam_commands.specs.Words.{state_word}
use Rattle.exam_request.specs.declared.routes.Route.{Route}

-- the status of the answer to a refusal or a fault
abbrev pub status_number : ℕ → ℕ
status_number n =
    if (n == 6) || (n == 15) || (n == 37) then 404
    else if (n == 31) || (n == 32) || (n == 33) || (n == 36) then 400
    else if n == 38 then 405
    else if (n == 8) || (nat_le 11 n && nat_le n 14) || (nat_le 16 n && nat_le n 21) then 409
    else if n == 34 then 413
    else if n == 35 then 501
    else if n == 22 then 503
    else 500

-- the office's own phrase for a status
abbrev pub phrase_text : ℕ → List ℕ
phrase_text n =
    if n == 200 then codes "OK"
    else if n == 400 then codes "Bad Request"
    else if n == 404 then codes "Not Found"
    else if n == 405 then codes "Method Not Allowed"
    else if n == 409 then codes "Conflict"
    else if n == 413 then codes "Content Too Large"
    else if n == 500 then codes "Internal Server Error"
    else if n == 501 then codes "Not Implemented"
    else if n == 503 then codes "Service Unavailable"
    else []

-- what an answer says: its status, in an answer 405 the route whose methods are allowed, and its body
pub record Told : Type 0 where
  pub status : ℕ
  pub allow : Option Route
  pub body : List ℕ

-- the first line
abbrev pub status_line : ℕ → List ℕ
status_line n = codes "HTTP/1.1 " ++ (code_digits n ++ (32 ∷ (phrase_text n ++ codes "\r\n")))

-- a further line of the head
abbrev pub header_line : List ℕ → List ℕ → List ℕ
header_line name value = name ++ (codes ": " ++ (value ++ codes "\r\n"))

-- the line of the methods, if there is one
abbrev pub allow_line : Option Route → List ℕ
allow_line None = []
allow_line (Some route) = header_line (codes "Allow") (allow_text route)

-- the lines of the head and an empty line, for a body of this length
abbrev pub head_text : ℕ → Option Route → ℕ → List ℕ
head_text status allow count =
    status_line status ++ (header_line (codes "Content-Type") (codes "application/json")
    ++ (header_line (codes "Content-Length") (decimal count) ++ (allow_line allow
    ++ (header_line (codes "Connection") (codes "close") ++ codes "\r\n"))))

-- the head, and this body behind it
abbrev pub text_with : ℕ → Option Route → List ℕ → List ℕ
text_with status allow body = head_text status allow (length body) ++ body

-- all of an answer
abbrev pub answer_text : Told → List ℕ
answer_text told = text_with told.status told.allow told.body

-- an answer 200
abbrev pub ok_told : List ℕ → Told
ok_told body = record { status = 200; allow = None; body = body }

-- `{"error":n}`
abbrev pub error_body : ℕ → List ℕ
error_body n = object_text ((codes "error", number n) ∷ [])

-- the answer to a refusal or a fault by its number alone
abbrev pub error_told : ℕ → Told
error_told n = record { status = status_number n; allow = None; body = error_body n }

-- the answer to a method that is none of the route's
abbrev pub method_told : Route → Told
method_told route = record { status = 405; allow = Some route; body = error_body 38 }

-- `{"day":"YYYY-MM-DD","error":13}`
abbrev pub closing_body : ℕ → List ℕ
closing_body day = object_text ((codes "day", text (day_text day)) ∷ (codes "error", number 13) ∷ [])

-- the answer to a lodging after this last day
abbrev pub closing_told : ℕ → Told
closing_told day = record { status = 409; allow = None; body = closing_body day }

-- the answer to a refusal
abbrev pub refusal_told : Refusal → Told
refusal_told (PastClosing day) = closing_told day
refusal_told refusal = error_told (refusal_number refusal)

-- the answer to an accepted lodging or retraction: the state of the appeal
abbrev pub state_told : AppealState → Told
state_told state = ok_told (object_text ((codes "state", text (state_word state)) ∷ []))
