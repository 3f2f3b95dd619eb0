-- What is done for a stranger, and which candidate a choice is for.
use Rattle.std.proofs.Common.{◌≡◌, ◌∙◌, ℕ, List, Option, Some, None, Bool, true, false, cond, refl, sym, inl, inr}
use Rattle.std.specs.Prelude.{◌⊎◌, bytes_eq, codes}
use Rattle.exam_types.specs.Codes.{is_reference}
use Rattle.exam_types.specs.declared.refusal.Refusal.TheVariants.{UnknownAppeal, UnknownCandidate}
use Rattle.exam_request.specs.Asked.{Request}
use Rattle.exam_request.specs.Choices.{IsBy, IsIdle, IsOwnChoice, IsStranger, ReadsText, choice_by, choice_of}
use Rattle.exam_request.specs.Choices.{choice_of_known, choice_own, done_at, has_code, lodged_or_fault}
use Rattle.exam_request.specs.Methods.{is_allowed}
use Rattle.exam_request.specs.Posted.{posted_of}
use Rattle.exam_request.specs.Targets.{Target, reading}
use Rattle.exam_request.specs.declared.choice.Choice.{Choice}
use Rattle.exam_request.specs.declared.choice.Choice.TheVariants as choice
use Rattle.exam_request.specs.declared.choice.Named.{Named}
use Rattle.exam_request.specs.declared.own_bodies.Page.TheVariants as page
use Rattle.exam_request.specs.declared.posted.Posted.{Posted}
use Rattle.exam_request.specs.declared.routes.Route.{Route}
use Rattle.exam_request.specs.declared.routes.Route.TheVariants.{Appeal, Appeals, Clashes, Seats}

-- a stranger is refused as for an unknown candidate
refused : (request : Request) (t : Target) (named : Option Named) → IsStranger request named
    → choice_of_known request t named ≡ choice.Refused UnknownCandidate
refused request t None h = refl
refused request t (Some named) h = rw h refl

alike_by : (request : Request) (one other : Option Named) → IsStranger request one → IsStranger request other
    → (found : Option Target) → choice_by request one found ≡ choice_by request other found
alike_by request one other h k None = refl
alike_by request one other h k (Some t) = by (is_allowed t.route request.method)
  where
    by : (v : Bool) → cond v (choice_of_known request t one) (choice.OtherMethod t.route)
        ≡ cond v (choice_of_known request t other) (choice.OtherMethod t.route)
    by true = refused request t one h ∙ sym (refused request t other k)
    by false = refl

pub alike : (request : Request) (one other : Option Named) → IsStranger request one → IsStranger request other
    → choice_of request one ≡ choice_of request other
alike request one other h k = alike_by request one other h k (reading request.target)

-- no text of a stranger is read
pub unread : (request : Request) (named : Option Named) → IsStranger request named → ReadsText request named → ⊥
unread request None h reads = reads.0
unread request (Some named) h reads = cc (h, reads.0)

-- what is shown or done is of this candidate
abbrev IsOf : ℕ → Choice → Type 0
IsOf number chosen = IsIdle chosen ⊎ IsBy number chosen

of_posted : (number : ℕ) (posted : Option Posted) → IsOf number (lodged_or_fault number posted)
of_posted number None = inl tt
of_posted number (Some posted) = inr refl

of_route : (route : Route) (request : Request) (number : ℕ) (reference : List ℕ)
    → IsOf number (done_at route request number reference)
of_route Seats request number reference = inr refl
of_route Clashes request number reference = inr refl
of_route Appeals request number reference =
    by (bytes_eq request.method (codes "POST")) (of_posted number (posted_of request.body))
  where
    by : (v : Bool) → IsOf number (lodged_or_fault number (posted_of request.body))
        → IsOf number (cond v (lodged_or_fault number (posted_of request.body)) (choice.Show number page.Appeals))
    by true h = h
    by false h = inr refl
of_route Appeal request number reference = by (is_reference reference)
  where
    by : (v : Bool) → IsOf number (cond v (choice.Retract number reference) (choice.Refused UnknownAppeal))
    by true = inr refl
    by false = inl tt

own_known : (request : Request) (t : Target) (named : Option Named)
    → IsOwnChoice request named (choice_of_known request t named)
own_known request t None = tt
own_known request t (Some named) =
    by (has_code request.code named.code) refl (of_route t.route request named.number t.reference)
  where
    by : (v : Bool) → has_code request.code named.code ≡ v → IsOf named.number (choice_own request named.number t)
        → IsOwnChoice request (Some named)
        (cond v (choice_own request named.number t) (choice.Refused UnknownCandidate))
    by true shows (inl idle) = inl idle
    by true shows (inr is) = inr (shows, is)
    by false shows either = inl tt

idle_is_own : (request : Request) (named : Option Named) (chosen : Choice) → IsIdle chosen
    → IsOwnChoice request named chosen
idle_is_own request None chosen idle = idle
idle_is_own request (Some named) chosen idle = inl idle

own_by : (request : Request) (named : Option Named) (found : Option Target)
    → IsOwnChoice request named (choice_by request named found)
own_by request named None = idle_is_own request named _ tt
own_by request named (Some t) = by (is_allowed t.route request.method)
  where
    by : (v : Bool) → IsOwnChoice request named (cond v (choice_of_known request t named) (choice.OtherMethod t.route))
    by true = own_known request t named
    by false = idle_is_own request named _ tt

pub own_choice : (request : Request) (named : Option Named) → IsOwnChoice request named (choice_of request named)
own_choice request named = own_by request named (reading request.target)
