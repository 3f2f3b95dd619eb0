-- A candidate's own rows decide what a request is answered.
use Rattle.exam_theorem.proofs.Words.{Refusal, Command, Reply, IsGood, IsInOrder, State, Step, MayApply}
use Rattle.exam_theorem.proofs.Words.{is_store_refusal, Told, answer_text, refusal_told, Asks, Request, Choice, Fault}
use Rattle.exam_theorem.proofs.Words.{choice_in, HttpFault, Follows, IsFailureOf, of_request, AnswersInOffice}
use Rattle.exam_theorem.proofs.Words.{DoesCommandInOffice}
use Rattle.exam_theorem.proofs.Words.{ServesInOffice, TellsInOffice, Outcome}
use Rattle.std.proofs.Common.{◌≡◌, ◌⊎◌, ◌∙◌, ℕ, List, Option, None, Some, refl, sym, ap, subst, inl, inr}
use Rattle.std.specs.Prelude.{Result, Ok, Err, IsTrue, IsSomeAnd, option_and_then}
use Rattle.std.specs.Option.{option_map}
use Rattle.exam_types.specs.declared.refusal.Refusal.TheVariants as refusal
use Rattle.exam_commands.specs.declared.command.Command.TheVariants as command
use Rattle.exam_commands.specs.Own.{OwnRows, own_of, own_rows}
use Rattle.exam_laws.proofs.OwnLodging.{same_lodging_answer}
use Rattle.exam_laws.proofs.OwnRetracting.{same_retraction_answer}
use Rattle.exam_request.specs.Answer.{ok_told}
use Rattle.exam_request.specs.Bodies.{page_body}
use Rattle.exam_request.specs.Choices.{IsBy, IsIdle, IsOwnChoice, candidate_named, choice_of}
use Rattle.exam_request.specs.declared.choice.Choice.TheVariants as choice
use Rattle.exam_request.specs.declared.choice.Named.{Named}
use Rattle.exam_http.specs.Alike.{AreAlike, IsFailure}
use Rattle.exam_http.specs.Answering.{TellsReply, named_as, named_in, own_named}
use Rattle.exam_theorem.specs.Following.{MeetsFailure}
use Rattle.exam_theorem.specs.Life.{OwnRowsDecide, ShowSame, answer_of}
use Rattle.exam_theorem.specs.Requests.{DoesInOffice}
use Rattle.exam_theorem.specs.declared.orders.Answered.{Answered}
use Rattle.exam_theorem.specs.declared.orders.Outcome.TheVariants as outcome
use Rattle.exam_theorem.proofs.OneOffice.{OneAsked}

-- a page, a lodging or a retraction is that of the candidate that the request names
abbrev pub OwnChoices : Type 0
OwnChoices = (request : Request) (named : Option Named) → IsOwnChoice request named (choice_of request named)

-- ---- the candidate that a request names

-- what a mapped value is made of
made_of : {A B : Type 0} (f : A → B) (o : Option A) (b : B) → option_map f o ≡ Some b → (a : A) × (f a ≡ b)
made_of f None b is = absurd (let differ : None ≡ Some b = is in cc)
made_of f (Some a) b is = (a, let same : f a ≡ b = cc in same)

numbered : (office : State) (c : ℕ) (rows : OwnRows) → own_of office c ≡ Some rows → rows.number ≡ c
numbered office c rows is = let made =
    made_of (own_rows office c) _ rows is in sym (ap (λ (r : OwnRows). r.number) made.1)

own_numbered : (office : State) (request : Request) (rows : OwnRows) → own_named office request ≡ Some rows
    → own_of office rows.number ≡ Some rows
own_numbered office request rows is = by (candidate_named request) is
  where
    by : (o : Option ℕ) → option_and_then (own_of office) o ≡ Some rows → own_of office rows.number ≡ Some rows
    by None e = absurd (let differ : None ≡ Some rows = e in cc)
    by (Some c) e = ap (own_of office) (numbered office c rows e) ∙ e

-- nothing is shown and done, or it is for the candidate who has these rows
abbrev IsFor : State → Request → Choice → Type 0
IsFor office request c = IsIdle c ⊎ ((rows : OwnRows) × (own_named office request ≡ Some rows) × IsBy rows.number c)

chosen_for : OwnChoices → (office : State) (request : Request) → IsFor office request (choice_in office request)
chosen_for own_choice office request =
    from (own_named office request) refl (own_choice request (named_in office request))
  where
    from : (own : Option OwnRows) → own_named office request ≡ own
        → IsOwnChoice request (option_map named_as own) (choice_in office request)
        → IsFor office request (choice_in office request)
    from None at idle = inl idle
    from (Some rows) at (inl idle) = inl idle
    from (Some rows) at (inr own) = inr (rows, at, own.1)

-- ---- a command

-- a refusal of the store is a failure
failed : (e : Refusal) (told : Told) → IsTrue (is_store_refusal e) → told ≡ refusal_told e → IsFailure told
failed refusal.NoMemory told is tells = inl tells
failed refusal.Store told is tells = inr (inl tells)
failed refusal.BadStore told is tells = inr (inr tells)
failed e told is tells = absurd cc

-- equal replies have equal answers
replied : (a : Result Reply Refusal) (first second : Told) → TellsReply a first → TellsReply a second
    → AreAlike first second
replied (Ok r) first second a b = inr (inr (a ∙ sym b))
replied (Err e) first second a b = inr (inr (a ∙ sym b))

-- it is its step, or a refusal of the store
abbrev IsStepped : Command → ℕ → State → Result Reply Refusal → Type 0
IsStepped done today before a =
    ((end : State) × Step done today before a end) ⊎ ((e : Refusal) × (a ≡ Err e) × IsTrue (is_store_refusal e))

stepped : (done : Command) (today : ℕ) (before after : State) (a : Result Reply Refusal)
    → MayApply done today before a after → IsStepped done today before a
stepped done today before after (Ok r) may = inl (after, may)
stepped done today before after (Err e) (same, inl step) = inl (before, step)
stepped done today before after (Err e) (same, inr is) = inr (e, refl, is)

told_failure : (a : Result Reply Refusal) (e : Refusal) (told : Told) → a ≡ Err e → IsTrue (is_store_refusal e)
    → TellsReply a told → IsFailure told
told_failure a e told at is tells = failed e told is (subst (λ r. TellsReply r told) at tells)

-- own rows are equal at an equal number
at_number : (one other : State) (candidate number : ℕ) → candidate ≡ number → own_of one number ≡ own_of other number
    → own_of one candidate ≡ own_of other candidate
at_number one other candidate number is same = subst (λ c. own_of one c ≡ own_of other c) (sym is) same

-- equal rows have equal pages
shown : (body : OwnRows → List ℕ) (own : Option OwnRows) (first second : Told)
    → IsSomeAnd own (λ rows. first ≡ ok_told (body rows)) → IsSomeAnd own (λ rows. second ≡ ok_told (body rows))
    → AreAlike first second
shown body None first second a b = absurd a
shown body (Some rows) first second a b = inr (inr (a ∙ sym b))

module _ (own_choice : OwnChoices) (today : ℕ) (one other one_after other_after : State) (first second : Told) where
  joined : (done : Command) (a b : Result Reply Refusal)
      → ((end last : State) → Step done today one a end → Step done today other b last → a ≡ b) → TellsReply a first
      → TellsReply b second
      → IsStepped done today one a → IsStepped done today other b → AreAlike first second
  joined done a b same tells told (inr (e, at, is)) either = inl (told_failure a e first at is tells)
  joined done a b same tells told (inl p) (inr (e, at, is)) = inr (inl (told_failure b e second at is told))
  joined done a b same tells told (inl (end, step)) (inl (last, next)) =
      replied a first second tells (subst (λ r. TellsReply r second) (sym (same end last step next)) told)

  commanded : (done : Command)
      → ((a b : Result Reply Refusal) (end last : State) → Step done today one a end → Step done today other b last
      → a ≡ b)
      → DoesCommandInOffice today one done first one_after → DoesCommandInOffice today other done second other_after
      → AreAlike first second
  commanded done same (a, may, tells) (b, might, told) =
      joined done a b (same a b) tells told (stepped done today one one_after a may)
      (stepped done today other other_after b might)

  module _ (good : IsGood one) (up : IsInOrder one) (sound : IsGood other) (rise : IsInOrder other) where
    -- a choice for a number for which both show the same
    own_chosen : (c : Choice) (number : ℕ) → IsBy number c → own_of one number ≡ own_of other number
        → DoesInOffice today one c first one_after → DoesInOffice today other c second other_after
        → AreAlike first second
    own_chosen (choice.Fault fault) number is same a b = absurd is
    own_chosen (choice.OtherMethod route) number is same a b = absurd is
    own_chosen (choice.Refused refused) number is same a b = absurd is
    own_chosen (choice.Show candidate page) number is same a b =
        shown (page_body page) (own_of one candidate) first second a.0
        (subst (λ own. IsSomeAnd own (λ rows. second ≡ ok_told (page_body page rows)))
        (sym (at_number one other candidate number is same)) b.0)
    own_chosen (choice.Lodge lodging) number is same a b =
        commanded (command.Lodge lodging)
        (λ x y end last step next. same_lodging_answer one other end last today lodging x y good up sound rise
        (at_number one other lodging.number number is same) step next)
        a b
    own_chosen (choice.Retract candidate reference) number is same a b =
        commanded (command.Retract candidate reference)
        (λ x y end last step next. same_retraction_answer one other end last candidate reference today today x y good
        sound (at_number one other candidate number is same) step next)
        a b

    idle_chosen : (c : Choice) → IsIdle c → DoesInOffice today one c first one_after
        → DoesInOffice today other c second other_after
        → AreAlike first second
    idle_chosen (choice.Fault fault) idle a b = inr (inr (a.0 ∙ sym b.0))
    idle_chosen (choice.OtherMethod route) idle a b = inr (inr (a.0 ∙ sym b.0))
    idle_chosen (choice.Refused refused) idle a b = inr (inr (a.0 ∙ sym b.0))
    idle_chosen (choice.Show number page) idle a b = absurd idle
    idle_chosen (choice.Lodge lodging) idle a b = absurd idle
    idle_chosen (choice.Retract number reference) idle a b = absurd idle

    -- ---- a request

    module _ (request : Request) (same : own_named one request ≡ own_named other request) where
      chosen : (c : Choice) → IsFor one request c → DoesInOffice today one c first one_after
          → DoesInOffice today other c second other_after → AreAlike first second
      chosen c (inl idle) a b = idle_chosen c idle a b
      chosen c (inr (rows, named, is_by)) a b =
          own_chosen c rows.number is_by
          (own_numbered one request rows named ∙ sym (own_numbered other request rows (sym same ∙ named))) a b

      answered : AnswersInOffice today one (Ok request) first one_after
          → AnswersInOffice today other (Ok request) second other_after → AreAlike first second
      answered (inl busy) b = inl (inl busy.0)
      answered a (inl busy) = inr (inl (inl busy.0))
      answered (inr a) (inr b) =
          chosen (choice_in one request) (chosen_for own_choice one request) a
          (subst (λ own. DoesInOffice today other (choice_of request (option_map named_as own)) second other_after)
          (sym same) b)

    pub asked_alike : (asked : Result Request Fault)
        → ((request : Request) → asked ≡ Ok request → own_named one request ≡ own_named other request)
        → AnswersInOffice today one asked first one_after → AnswersInOffice today other asked second other_after
        → AreAlike first second
    asked_alike (Err fault) same a b = inr (inr (a.0 ∙ sym b.0))
    asked_alike (Ok request) same a b = answered request (same request refl) a b

-- ---- the bytes of an answer

no_failure : (first second : Told) → (IsFailure first → ⊥) → (IsFailure second → ⊥) → AreAlike first second
    → first ≡ second
no_failure first second none neither (inl fails) = absurd (none fails)
no_failure first second none neither (inr (inl fails)) = absurd (neither fails)
no_failure first second none neither (inr (inr same)) = same

module _ (one_asked : OneAsked) (own_choice : OwnChoices) (bytes : List ℕ) (today : ℕ) (before after : State)
    (good : IsGood before) (up : IsInOrder before) where
  module _ (other other_after : State) (sound : IsGood other) (rise : IsInOrder other)
      (same : ShowSame bytes before other) where
    told_same : (first second : Told) → (IsFailure first → ⊥) → (IsFailure second → ⊥)
        → TellsInOffice bytes today before first after → TellsInOffice bytes today other second other_after
        → first ≡ second
    told_same first second none neither here there =
        let one = one_asked bytes there.asked here.asked there.asks here.asks in
        no_failure first second none neither
        (asked_alike own_choice today before other after other_after first second good up sound rise here.asked
        (λ request is. same request (subst (Asks bytes) is here.asks)) here.answers
        (subst (λ (asked : Result Request Fault). AnswersInOffice today other asked second other_after) one
        there.answers))

    served_same : (p q : Result (Unit {0}) HttpFault) (text words : List ℕ) → (IsFailureOf p text → ⊥)
        → (IsFailureOf q words → ⊥) → ServesInOffice bytes today before p text after
        → ServesInOffice bytes today other q words other_after → text ≡ words
    served_same (Err e) q text words none neither here there = absurd (none tt)
    served_same (Ok done) (Err e) text words none neither here there = absurd (neither tt)
    served_same (Ok done) (Ok too) text words none neither (told, here, is) (said, there, was) =
        is ∙ ap answer_text (told_same told said (λ f. none (told, f, is)) (λ f. neither (said, f, was)) here there)
        ∙ sym was

    followed_same : (p : Answered) (second : Outcome) → ServesInOffice bytes today before p.served p.answer.items after
        → Follows (of_request bytes today) other second other_after
        → (MeetsFailure (outcome.Request p) → ⊥) → (MeetsFailure second → ⊥)
        → answer_of (outcome.Request p) ≡ answer_of second
    followed_same p (outcome.Request q) here there none neither =
        served_same p.served q.served p.answer.items q.answer.items none neither here there
    followed_same p (outcome.Line end) here there none neither = absurd there

  pub own_decides : (p : Answered) → ServesInOffice bytes today before p.served p.answer.items after
      → OwnRowsDecide (of_request bytes today) before (outcome.Request p)
  own_decides p here =
      λ other other_after second sound rise same there none neither. followed_same other other_after sound rise same p
      second here there none neither
