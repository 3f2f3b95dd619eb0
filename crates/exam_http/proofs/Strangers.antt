-- The answer to a stranger depends on the request alone, and changes nothing.
use Rattle.std.proofs.Common.{◌≡◌, ◌∙◌, ℕ, Option, None, Some, Bool, true, false, cond, sym, subst, inl, inr}
use Rattle.sqlite_trees.specs.declared.store.Store.{Ghosts}
use Rattle.exam_types.specs.declared.refusal.Refusal.TheVariants.{UnknownCandidate}
use Rattle.exam_store.specs.Stores.{OfficeIn}
use Rattle.exam_request.specs.Answer.{Told, method_told, refusal_told}
use Rattle.exam_request.specs.Asked.{Request}
use Rattle.exam_request.specs.Choices.{IsStranger, ShowsCode, choice_by}
use Rattle.exam_request.specs.Methods.{is_allowed}
use Rattle.exam_request.specs.Targets.{Target, reading}
use Rattle.exam_request.specs.declared.choice.Choice.TheVariants as choice
use Rattle.exam_request.specs.declared.choice.Named.{Named}
use Rattle.exam_request.proofs.Chosen.{alike}
use Rattle.exam_http.specs.Alike.{AreSame, stranger_told, stranger_told_at}
use Rattle.exam_http.specs.Answering.{Answers, AnswersFound, Does, choice_in, named_in}

-- a stranger shows no code
no_code : (request : Request) (named : Option Named) → IsStranger request named → ShowsCode request named → ⊥
no_code request None is shows = shows
no_code request (Some named) is shows = cc (is, shows)

module _ {S : Type 0} (g : Ghosts S) (today : ℕ) (one one_after : OfficeIn S) (told : Told) (request : Request) where
  -- what is done for an unknown candidate
  nobody : (found : Option Target) → Does g today one (choice_by request None found) told one_after
      → (told ≡ stranger_told_at request found) × (one_after ≡ one)
  nobody None does = does
  nobody (Some t) does = by (is_allowed t.route request.method) does
    where
      by : (v : Bool) → Does g today one
          (cond v (choice.Refused UnknownCandidate) (choice.OtherMethod t.route)) told one_after
          → (told ≡ cond v (refusal_told UnknownCandidate) (method_told t.route)) × (one_after ≡ one)
      by true does = does
      by false does = does

  done : IsStranger request (named_in one.office request)
      → Does g today one (choice_in one.office request) told one_after
      → (told ≡ stranger_told request) × (one_after ≡ one)
  done is does =
      nobody (reading request.target)
      (subst (λ c. Does g today one c told one_after) (alike request (named_in one.office request) None is tt) does)

  pub stranger_found : IsStranger request (named_in one.office request)
      → AnswersFound g today one request told one_after → (told ≡ stranger_told request) × (one_after ≡ one)
  stranger_found is (inl (shows, busy)) = absurd (no_code request (named_in one.office request) is shows)
  stranger_found is (inr does) = done is does

pub strangers_alike : {S T : Type 0} (g : Ghosts S) (h : Ghosts T) (today later : ℕ) (one one_after : OfficeIn S)
    (other other_after : OfficeIn T) (first second : Told) (request : Request)
    → IsStranger request (named_in one.office request) → IsStranger request (named_in other.office request)
    → Answers g today one request first one_after → Answers h later other request second other_after
    → AreSame first second × (one_after ≡ one)
strangers_alike g h today later one one_after other other_after first second request is are (inl busy) b =
    (inl busy.0, busy.1)
strangers_alike g h today later one one_after other other_after first second request is are (inr a) (inl busy) =
    (inr (inl busy.0), (done g today one one_after first request is a).1)
strangers_alike g h today later one one_after other other_after first second request is are (inr a) (inr b) =
    let mine = done g today one one_after first request is a in
    let theirs = done h later other other_after second request are b in
    (inr (inr (mine.0 ∙ sym theirs.0)), mine.1)
