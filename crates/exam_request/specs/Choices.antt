-- What is done for a request: the first of these that applies.
use Rattle.std.specs.Prelude.{◌≡◌, ◌⊎◌, ⊤, ℕ, List, Bool, true, false, Option, Some, None, IsSomeAnd, option_and_then}
use Rattle.std.specs.Prelude.{bytes_eq, codes, if◌then◌else◌}
use Rattle.exam_commands.specs.declared.command.Lodging.{Lodging}
use Rattle.exam_types.specs.Codes.{is_reference}
use Rattle.exam_types.specs.Numbers.{number_in}
use Rattle.exam_types.specs.declared.refusal.Refusal.TheVariants.{UnknownAppeal, UnknownCandidate}
use Rattle.exam_request.specs.Asked.{Request}
use Rattle.exam_request.specs.Methods.{is_allowed}
use Rattle.exam_request.specs.Posted.{IsReadable, posted_of}
use Rattle.exam_request.specs.Targets.{Target, reading}
use Rattle.exam_request.specs.declared.choice.Choice.{Choice}
use Rattle.exam_request.specs.declared.choice.Choice.TheVariants as choice
use Rattle.exam_request.specs.declared.choice.Named.{Named}
use Rattle.exam_request.specs.declared.fault.Fault.TheVariants as fault
use Rattle.exam_request.specs.declared.own_bodies.Page.TheVariants as page
use Rattle.exam_request.specs.declared.posted.Posted.{Posted}
use Rattle.exam_request.specs.declared.routes.Route.{Route}
use Rattle.exam_request.specs.declared.routes.Route.TheVariants.{Appeal, Appeals, Clashes, Seats}

-- the candidate that a target names, if its number is one
abbrev pub number_named : Option Target → Option ℕ
number_named target = option_and_then (λ t. number_in t.number) target

-- the candidate that a request names
abbrev pub candidate_named : Request → Option ℕ
candidate_named request = number_named (reading request.target)

-- the request has exactly one access code, and it is this one
abbrev pub has_code : Option (List ℕ) → List ℕ → Bool
has_code None code = false
has_code (Some given) code = bytes_eq given code

-- the appeal that a candidate posts
abbrev pub lodged : ℕ → Posted → Lodging
lodged number posted = record {
  number = number;
  reference = posted.reference;
  session = posted.session;
  subject = posted.subject;
  reason = posted.reason;
}

-- the lodging of the posted appeal, or the fault of the body
abbrev pub lodged_or_fault : ℕ → Option Posted → Choice
lodged_or_fault number None = choice.Fault fault.Body
lodged_or_fault number (Some posted) = choice.Lodge (lodged number posted)

-- the candidate lodges what the body says
abbrev pub lodging : ℕ → List ℕ → Choice
lodging number body = lodged_or_fault number (posted_of body)

-- the candidate takes back the appeal of this reference
abbrev pub retraction : ℕ → List ℕ → Choice
retraction number reference =
    if is_reference reference then choice.Retract number reference else choice.Refused UnknownAppeal

-- what is done at a route for the candidate who has shown their code, by one of the route's methods
abbrev pub done_at : Route → Request → ℕ → List ℕ → Choice
done_at Seats request number reference = choice.Show number page.Seats
done_at Clashes request number reference = choice.Show number page.Clashes
done_at Appeals request number reference =
    if bytes_eq request.method (codes "POST") then lodging number request.body
    else choice.Show number page.Appeals
done_at Appeal request number reference = retraction number reference

-- what is done for a candidate's own request, by its target
abbrev pub choice_own : Request → ℕ → Target → Choice
choice_own request number target = done_at target.route request number target.reference

-- the request must show the code; otherwise the answer is the same as for an unknown candidate
abbrev pub choice_for : Request → Target → Named → Choice
choice_for request target named =
    if has_code request.code named.code then choice_own request named.number target
    else choice.Refused UnknownCandidate

-- the candidate must be known
abbrev pub choice_of_known : Request → Target → Option Named → Choice
choice_of_known request target None = choice.Refused UnknownCandidate
choice_of_known request target (Some named) = choice_for request target named

-- the method must be one of the route's
abbrev pub choice_at : Request → Option Named → Target → Choice
choice_at request named target =
    if is_allowed target.route request.method then choice_of_known request target named
    else choice.OtherMethod target.route

-- the target must have a route
abbrev pub choice_by : Request → Option Named → Option Target → Choice
choice_by request named None = choice.Fault fault.Route
choice_by request named (Some target) = choice_at request named target

-- what is done for a request, by the candidate that it names, if there is one
abbrev pub choice_of : Request → Option Named → Choice
choice_of request named = choice_by request named (reading request.target)

-- ---- what the choices guarantee

-- the request does not show the code of this candidate; an unknown one has none to show
abbrev pub IsStranger : Request → Option Named → Type 0
IsStranger request None = ⊤
IsStranger request (Some named) = has_code request.code named.code ≡ false

-- the request shows the code of this candidate; an unknown one has none to show
abbrev pub ShowsCode : Request → Option Named → Type 0
ShowsCode request None = ⊥
ShowsCode request (Some named) = has_code request.code named.code ≡ true

-- the request posts, at the route of appeals, a body that is a text
abbrev pub PostsText : Request → Target → Type 0
PostsText request target =
    (target.route ≡ Appeals) × (bytes_eq request.method (codes "POST") ≡ true) × IsReadable request.body

-- a text is posted with the candidate's code; no other request takes memory
abbrev pub ReadsText : Request → Option Named → Type 0
ReadsText request named = ShowsCode request named × IsSomeAnd (reading request.target) (PostsText request)

-- nothing is shown, and nothing is done
abbrev pub IsIdle : Choice → Type 0
IsIdle (choice.Fault fault) = ⊤
IsIdle (choice.OtherMethod route) = ⊤
IsIdle (choice.Refused refusal) = ⊤
IsIdle other = ⊥

-- the candidate is shown a page, lodges an appeal or takes one back
abbrev pub IsBy : ℕ → Choice → Type 0
IsBy number (choice.Show other page) = other ≡ number
IsBy number (choice.Lodge lodging) = lodging.number ≡ number
IsBy number (choice.Retract other reference) = other ≡ number
IsBy number other = ⊥

-- a page, a lodging or a retraction is that of the candidate, who has shown the code
abbrev pub IsOwnChoice : Request → Option Named → Choice → Type 0
IsOwnChoice request None chosen = IsIdle chosen
IsOwnChoice request (Some named) chosen =
    IsIdle chosen ⊎ ((has_code request.code named.code ≡ true) × IsBy named.number chosen)
