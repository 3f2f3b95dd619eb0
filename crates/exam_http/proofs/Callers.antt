-- What is shown or done is of a candidate of the office, who shows the code.
use Rattle.std.proofs.Common.{◌≡◌, ◌⊎◌, ◌∙◌, ℕ, Option, None, Some, true, sym, ap, subst, inl, inr, refl}
use Rattle.std.specs.Prelude.{IsSome, option_and_then}
use Rattle.std.specs.Option.{option_map}
use Rattle.sqlite_trees.specs.declared.store.Store.{Ghosts}
use Rattle.exam_types.specs.declared.refusal.Refusal.{Refusal}
use Rattle.exam_types.specs.declared.refusal.Refusal.TheVariants.{NoMemory}
use Rattle.exam_commands.specs.Own.{OwnRows, own_of, own_rows}
use Rattle.exam_commands.specs.State.{State}
use Rattle.exam_store.specs.Stores.{OfficeIn}
use Rattle.exam_request.specs.Answer.{Told, refusal_told}
use Rattle.exam_request.specs.Asked.{Request}
use Rattle.exam_request.specs.Choices.{IsBy, IsIdle, IsOwnChoice, ReadsText, ShowsCode, candidate_named, choice_of}
use Rattle.exam_request.specs.Choices.{has_code, number_named}
use Rattle.exam_request.specs.Targets.{Target, reading}
use Rattle.exam_request.specs.declared.choice.Choice.{Choice}
use Rattle.exam_request.specs.declared.choice.Choice.TheVariants as choice
use Rattle.exam_request.specs.declared.choice.Named.{Named}
use Rattle.exam_request.proofs.Chosen.{own_choice}
use Rattle.exam_http.specs.Answering.{AnswersFound, Does, IsOfOffice, IsShow, MayDo, choice_in, named_as, named_in}
use Rattle.exam_http.specs.Answering.{own_named}

-- what a mapped value is made of
made_of : {A B : Type 0} (f : A → B) (o : Option A) (b : B) → option_map f o ≡ Some b → (a : A) × (f a ≡ b)
made_of f None b is = absurd cc
made_of f (Some a) b is = (a, let same : f a ≡ b = cc in same)

numbered : (office : State) (c : ℕ) (rows : OwnRows) → own_of office c ≡ Some rows → rows.number ≡ c
numbered office c rows is = let made =
    made_of (own_rows office c) _ rows is in sym (ap (λ (r : OwnRows). r.number) made.1)

pub own_numbered : (office : State) (request : Request) (rows : OwnRows) → own_named office request ≡ Some rows
    → own_of office rows.number ≡ Some rows
own_numbered office request rows is = by (candidate_named request) is
  where
    by : (o : Option ℕ) → option_and_then (own_of office) o ≡ Some rows → own_of office rows.number ≡ Some rows
    by None e = absurd cc
    by (Some c) e = ap (own_of office) (numbered office c rows e) ∙ e

-- the rows of the candidate that the choice is for; the request shows their code
pub record Caller (office : State) (request : Request) (chosen : Choice) : Type 0 where
  pub rows : OwnRows
  pub named : own_named office request ≡ Some rows
  pub shows : has_code request.code rows.code ≡ true
  pub is_by : IsBy rows.number chosen

pub idle_or_own : (office : State) (request : Request) (chosen : Choice) → chosen ≡ choice_in office request
    → IsIdle chosen ⊎ Caller office request chosen
idle_or_own office request chosen is =
    from (own_named office request) refl
    (subst (IsOwnChoice request (named_in office request)) (sym is) (own_choice request (named_in office request)))
  where
    from : (own : Option OwnRows) → own_named office request ≡ own
        → IsOwnChoice request (option_map named_as own) chosen → IsIdle chosen ⊎ Caller office request chosen
    from None at idle = inl idle
    from (Some rows) at (inl idle) = inl idle
    from (Some rows) at (inr own) = inr (record { rows = rows; named = at; shows = own.0; is_by = own.1 })

some_is : {A : Type 0} (o : Option A) (a : A) → o ≡ Some a → IsSome o
some_is o a is = subst IsSome (sym is) refl

-- a page is shown of a candidate of the office
pub of_office : (office : State) (request : Request) (chosen : Choice) → chosen ≡ choice_in office request
    → IsOfOffice office chosen
of_office office request (choice.Show number page) is = by (idle_or_own office request (choice.Show number page) is)
  where
    by : IsIdle (choice.Show number page) ⊎ Caller office request (choice.Show number page)
        → IsSome (own_of office number)
    by (inl idle) = absurd idle
    by (inr caller) = some_is _ caller.rows
        (ap (own_of office) caller.is_by ∙ own_numbered office request caller.rows caller.named)
of_office office request _ is = tt

-- a page is shown to a caller who shows the code
shows_code : (office : State) (request : Request) (chosen : Choice) → chosen ≡ choice_in office request → IsShow chosen
    → ShowsCode request (named_in office request)
shows_code office request (choice.Show number page) is show =
    by (idle_or_own office request (choice.Show number page) is)
  where
    by : IsIdle (choice.Show number page) ⊎ Caller office request (choice.Show number page)
        → ShowsCode request (named_in office request)
    by (inl idle) = absurd idle
    by (inr caller) = subst (λ own. ShowsCode request (option_map named_as own)) (sym caller.named) caller.shows
shows_code office request _ is show = absurd show

pub found : {S : Type 0} (g : Ghosts S) (today : ℕ) (old : OfficeIn S) (request : Request) (chosen : Choice)
    (told : Told) (new : OfficeIn S)
    → chosen ≡ choice_in old.office request → MayDo g today old chosen told new
    → AnswersFound g today old request told new
found g today old request chosen told new is (inl busy) = inl (shows_code old.office request chosen is busy.0, busy.1)
found g today old request chosen told new is (inr does) = inr (subst (λ c. Does g today old c told new) is does)

-- the target and the request name one candidate
pub named_is : (office : State) (request : Request) (named : Option Named) (target : Option Target)
    → named ≡ option_map named_as (option_and_then (own_of office) (number_named target))
    → target ≡ reading request.target → named ≡ named_in office request
named_is office request named target is at =
    is ∙ ap (λ t. option_map named_as (option_and_then (own_of office) (number_named t))) at

pub chosen_is : (office : State) (request : Request) (chosen : Choice) (named : Option Named)
    → chosen ≡ choice_of request named → named ≡ named_in office request → chosen ≡ choice_in office request
chosen_is office request chosen named is at = is ∙ ap (choice_of request) at

-- memory ran out for a posted text
pub short : {S : Type 0} (g : Ghosts S) (today : ℕ) (old : OfficeIn S) (request : Request) (named : Option Named)
    (e : Refusal) (told : Told)
    → named ≡ named_in old.office request → (e ≡ NoMemory) × ReadsText request named → told ≡ refusal_told e
    → AnswersFound g today old request told old
short g today old request named e told is memory tells =
    inl (subst (ShowsCode request) is memory.1.0, (tells ∙ ap refusal_told memory.0, refl))
