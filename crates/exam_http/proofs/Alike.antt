-- Two offices with equal own rows of a candidate give equal answers.
use Rattle.std.proofs.Common.{◌≡◌, ◌⊎◌, ◌∙◌, ℕ, List, Option, None, Some, refl, sym, subst, inl, inr}
use Rattle.std.specs.Prelude.{Result, Ok, Err, IsTrue, IsSomeAnd}
use Rattle.std.specs.Option.{option_map}
use Rattle.sqlite_trees.specs.declared.store.Store.{Ghosts}
use Rattle.exam_types.specs.declared.refusal.Refusal.{Refusal}
use Rattle.exam_types.specs.declared.refusal.Refusal.TheVariants as refusal
use Rattle.exam_commands.specs.declared.command.Command.{Command}
use Rattle.exam_commands.specs.declared.command.Command.TheVariants as command
use Rattle.exam_commands.specs.declared.command.Reply.{Reply}
use Rattle.exam_commands.specs.Good.{IsGood}
use Rattle.exam_commands.specs.Orders.{IsInOrder}
use Rattle.exam_commands.specs.Own.{OwnRows, own_of}
use Rattle.exam_commands.specs.State.{State}
use Rattle.exam_commands.specs.Steps.{Step}
use Rattle.exam_laws.proofs.OwnLodging.{same_lodging_answer}
use Rattle.exam_laws.proofs.OwnRetracting.{same_retraction_answer}
use Rattle.exam_store.specs.Applied.{MayApply}
use Rattle.exam_tables.specs.Faults.{is_store_refusal}
use Rattle.exam_store.specs.Stores.{OfficeIn}
use Rattle.exam_request.specs.Answer.{Told, ok_told, refusal_told}
use Rattle.exam_request.specs.Asked.{Request}
use Rattle.exam_request.specs.Bodies.{page_body}
use Rattle.exam_request.specs.Choices.{IsBy, IsIdle, choice_of}
use Rattle.exam_request.specs.declared.choice.Choice.{Choice}
use Rattle.exam_request.specs.declared.choice.Choice.TheVariants as choice
use Rattle.exam_http.specs.Alike.{AreAlike, IsFailure}
use Rattle.exam_http.specs.Answering.{Answers, Does, DoesCommand, TellsReply, choice_in, named_as, own_named}
use Rattle.exam_http.proofs.Callers.{Caller, idle_or_own, own_numbered}

-- a refusal of the store is a failure
pub failed : (e : Refusal) (told : Told) → IsTrue (is_store_refusal e) → told ≡ refusal_told e → IsFailure told
failed refusal.NoMemory told is tells = inl tells
failed refusal.Store told is tells = inr (inl tells)
failed refusal.BadStore told is tells = inr (inr tells)
failed e told is tells = absurd cc

-- equal rows have equal bodies
pub shown : (body : OwnRows → List ℕ) (own : Option OwnRows) (first second : Told)
    → IsSomeAnd own (λ rows. first ≡ ok_told (body rows)) → IsSomeAnd own (λ rows. second ≡ ok_told (body rows))
    → AreAlike first second
shown body None first second a b = absurd a
shown body (Some rows) first second a b = inr (inr (a ∙ sym b))

-- equal replies have equal answers
pub replied : (a : Result Reply Refusal) (first second : Told) → TellsReply a first → TellsReply a second
    → AreAlike first second
replied (Ok r) first second a b = inr (inr (a ∙ sym b))
replied (Err e) first second a b = inr (inr (a ∙ sym b))

-- ---- a command

-- it is its step, or a refusal of the store
pub stepped : (done : Command) (today : ℕ) (before after : State) (a : Result Reply Refusal)
    → MayApply done today before a after
    → ((end : State) × Step done today before a end) ⊎ ((e : Refusal) × (a ≡ Err e) × IsTrue (is_store_refusal e))
stepped done today before after (Ok r) may = inl (after, may)
stepped done today before after (Err e) (same, inl step) = inl (before, step)
stepped done today before after (Err e) (same, inr is) = inr (e, refl, is)

pub told_failure : (a : Result Reply Refusal) (e : Refusal) (told : Told) → a ≡ Err e → IsTrue (is_store_refusal e)
    → TellsReply a told → IsFailure told
told_failure a e told at is tells = failed e told is (subst (λ r. TellsReply r told) at tells)

-- own rows are equal at an equal number
pub at_number : (one other : State) (candidate number : ℕ) → candidate ≡ number
    → own_of one number ≡ own_of other number
    → own_of one candidate ≡ own_of other candidate
at_number one other candidate number is same = subst (λ c. own_of one c ≡ own_of other c) (sym is) same

module _ (one other : State) where
  -- the command answers the same in both offices
  abbrev AnswersSame : Command → ℕ → Type 0
  AnswersSame done today = (a b : Result Reply Refusal) (end last : State) → Step done today one a end
      → Step done today other b last → a ≡ b

  applied : (done : Command) (today : ℕ) (a b : Result Reply Refusal) (one_after other_after : State)
      (first second : Told) → AnswersSame done today
      → MayApply done today one a one_after → MayApply done today other b other_after → TellsReply a first
      → TellsReply b second → AreAlike first second
  applied done today a b one_after other_after first second same may might tells told =
      join (stepped done today one one_after a may) (stepped done today other other_after b might)
    where
      join : ((end : State) × Step done today one a end) ⊎ ((e : Refusal) × (a ≡ Err e) × IsTrue (is_store_refusal e))
          → ((end : State) × Step done today other b end) ⊎ ((e : Refusal) × (b ≡ Err e) × IsTrue (is_store_refusal e))
          → AreAlike first second
      join (inr (e, at, is)) either = inl (told_failure a e first at is tells)
      join (inl p) (inr (e, at, is)) = inr (inl (told_failure b e second at is told))
      join (inl (end, step)) (inl (last, next)) =
          replied a first second tells (subst (λ r. TellsReply r second) (sym (same a b end last step next)) told)

-- ---- a request

module _ {S T : Type 0} (g : Ghosts S) (h : Ghosts T) (today : ℕ) (request : Request) (one one_after : OfficeIn S)
    (other other_after : OfficeIn T) (first second : Told)
    (good : IsGood one.office) (up : IsInOrder one.office) (sound : IsGood other.office)
    (rise : IsInOrder other.office) where
  commanded : (done : Command) → AnswersSame one.office other.office done today
      → DoesCommand g today one done first one_after → DoesCommand h today other done second other_after
      → AreAlike first second
  commanded done same a b =
      applied one.office other.office done today a.0 b.0 one_after.office other_after.office first second same a.1.step
      b.1.step a.2 b.2

  -- a choice for a number for which both show the same
  own_chosen : (c : Choice) (number : ℕ) → IsBy number c → own_of one.office number ≡ own_of other.office number
      → Does g today one c first one_after → Does h today other c second other_after → AreAlike first second
  own_chosen (choice.Fault fault) number is same a b = absurd is
  own_chosen (choice.OtherMethod route) number is same a b = absurd is
  own_chosen (choice.Refused refused) number is same a b = absurd is
  own_chosen (choice.Show candidate page) number is same a b =
      shown (page_body page) (own_of one.office candidate) first second a.0
      (subst (λ own. IsSomeAnd own (λ rows. second ≡ ok_told (page_body page rows)))
      (sym (at_number one.office other.office candidate number is same)) b.0)
  own_chosen (choice.Lodge lodging) number is same a b =
      commanded (command.Lodge lodging)
      (λ x y end last step next. same_lodging_answer one.office other.office end last today lodging x y good up sound
      rise (at_number one.office other.office lodging.number number is same) step next)
      a b
  own_chosen (choice.Retract candidate reference) number is same a b =
      commanded (command.Retract candidate reference)
      (λ x y end last step next. same_retraction_answer one.office other.office end last candidate reference today
      today x y good sound (at_number one.office other.office candidate number is same) step next)
      a b

  idle_chosen : (c : Choice) → IsIdle c → Does g today one c first one_after → Does h today other c second other_after
      → AreAlike first second
  idle_chosen (choice.Fault fault) idle a b = inr (inr (a.0 ∙ sym b.0))
  idle_chosen (choice.OtherMethod route) idle a b = inr (inr (a.0 ∙ sym b.0))
  idle_chosen (choice.Refused refused) idle a b = inr (inr (a.0 ∙ sym b.0))
  idle_chosen (choice.Show number page) idle a b = absurd idle
  idle_chosen (choice.Lodge lodging) idle a b = absurd idle
  idle_chosen (choice.Retract number reference) idle a b = absurd idle

  chosen : own_named one.office request ≡ own_named other.office request → (c : Choice)
      → IsIdle c ⊎ Caller one.office request c
      → Does g today one c first one_after → Does h today other c second other_after → AreAlike first second
  chosen same c (inl idle) a b = idle_chosen c idle a b
  chosen same c (inr caller) a b =
      own_chosen c caller.rows.number caller.is_by
      (own_numbered one.office request caller.rows caller.named
      ∙ sym (own_numbered other.office request caller.rows (sym same ∙ caller.named))) a b

  pub alike : own_named one.office request ≡ own_named other.office request
      → Answers g today one request first one_after → Answers h today other request second other_after
      → AreAlike first second
  alike same (inl busy) b = inl (inl busy.0)
  alike same a (inl busy) = inr (inl (inl busy.0))
  alike same (inr a) (inr b) =
      chosen same (choice_in one.office request) (idle_or_own one.office request (choice_in one.office request) refl) a
      (subst (λ own. Does h today other (choice_of request (option_map named_as own)) second other_after) (sym same) b)
