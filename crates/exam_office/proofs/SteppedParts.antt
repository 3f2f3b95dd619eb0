-- A step over a part: what it makes, and the part after a refusal or with its step taken back.
use Rattle.std.proofs.Common.{◌≡◌, ◌<◌, ◌↔◌, ℕ, Bool, true, false, IsTrue, List, [], Contains, Option, None, Some}
use Rattle.std.proofs.Common.{Result, Ok, Err, Vec, refl, ap, sym, subst, arith, ◌∙◌}
use Rattle.std.specs.Prelude.{OnErr}
use Rattle.std.specs.Global.{Global}
use Rattle.exam_types.specs.declared.refusal.Refusal.{Refusal}
use Rattle.exam_rules.specs.declared.listing.SessionLists.{SessionLists}
use Rattle.exam_rules.specs.Lists.{AreListsOf, listed}
use Rattle.exam_rules.specs.Relations.{Code, Relations, relations_of}
use Rattle.exam_commands.specs.declared.command.Command.{Command}
use Rattle.exam_commands.specs.declared.command.Command.TheVariants as command
use Rattle.exam_commands.specs.declared.command.Outcome.{Outcome}
use Rattle.exam_commands.specs.declared.command.Outcome.TheVariants as outcome
use Rattle.exam_commands.specs.declared.command.Reply.{Reply}
use Rattle.exam_commands.specs.Appeals.{is_grant}
use Rattle.exam_commands.specs.FactsMade.{early_refusal, facts_made}
use Rattle.exam_commands.specs.Good.{IsGood}
use Rattle.exam_commands.specs.Limits.{within_limits}
use Rattle.exam_commands.specs.NextPlans.{AreNext, ArePut, Plans, PlansBack, after_plans, first_reply, keeps_plans}
use Rattle.exam_commands.specs.NextPlans.{last_reply, newly_decided, refuses}
use Rattle.exam_commands.specs.Orders.{IsInOrder}
use Rattle.exam_commands.specs.Parts.{Agrees, IsMadeIn, reads}
use Rattle.exam_commands.specs.State.{Seats, State}
use Rattle.exam_commands.specs.Touched.{touches}
use Rattle.exam_laws.proofs.Making.{is_made, none_touched, plans_back}
use Rattle.exam_office.specs.declared.part.Part.{Part}
use Rattle.exam_office.specs.HeldParts.{HasLists, IsBack, IsListed, IsPartFor, IsStep, part_state, plans_before}
use Rattle.exam_office.specs.declared.relisting.ListUndo.{ListUndo}
use Rattle.exam_office.specs.Relisting.{ListsBack, halls_before, members_before}
use Rattle.exam_office.proofs.LentPlans.{grant_reads}

-- ---- the sessions

-- a command that changes plans reads those that it touches
changed_read : (done : Command) (r : Relations) (s : Code) → keeps_plans done ≡ false
    → reads r done s ≡ touches r done s
changed_read (command.Import import) r s changes = refl
changed_read (command.Withdraw c p) r s changes = refl
changed_read (command.Reinstate c p) r s changes = refl
changed_read (command.CloseHall named h) r s changes = refl
changed_read (command.Lodge l) r s changes = absurd (let differ : true ≡ false = changes in cc)
changed_read (command.Retract c reference) r s changes = refl
changed_read (command.Decide d) r s changes = grant_reads r d s (grants d.outcome changes)
  where
    grants : (o : Outcome) → refuses o ≡ false → is_grant o ≡ true
    grants outcome.Grant changes = refl
    grants outcome.Standing changes = refl
    grants outcome.Refuse changes = absurd (let differ : true ≡ false = changes in cc)

module _ (done : Command) (r : Relations) (sessions : List Code)
    (exact : (s : Code) → Contains sessions s ↔ IsTrue (reads r done s)) where
  touched : keeps_plans done ≡ false → (s : Code) → Contains sessions s ↔ IsTrue (touches r done s)
  touched changes s = subst (λ (b : Bool). Contains sessions s ↔ IsTrue b) (changed_read done r s changes) (exact s)

  none_among : (s : Code) → Contains [] s → ⊥
  none_among s among = let below : among.0 < 0 = among.1 in omega arith

  none : keeps_plans done ≡ true → (s : Code) → Contains [] s ↔ IsTrue (touches r done s)
  none keeps s = (
    λ among. absurd (none_among s among),
    λ here. absurd (let differ : true ≡ false = sym here ∙ none_touched done r s keeps in cc),
  )

  pub read_back : (t : Relations) (old new : Seats) (o : Option Plans) → AreNext done t sessions old o
      → (given : Option Plans) → ArePut o old new given → PlansBack done r given new old
  read_back t old new None keeps given put = plans_back done r t [] old new (none keeps) None keeps given put
  read_back t old new (Some next) found given put =
      plans_back done r t sessions old new (touched found.0) (Some next) found given put

-- ---- what it makes

module _ (done : Command) (today : ℕ) (office part : State) (good : IsGood office) (up : IsInOrder office)
    (agrees : Agrees done office part) where
  module _ (sessions : List Code)
      (exact : (s : Code) → Contains sessions s ↔ IsTrue (reads part.relations done s)) where
    pub step_made : (new : State) → early_refusal done today part ≡ None → new.relations ≡ facts_made done today part
        → within_limits new.relations ≡ true
        → (o : Option Plans) → AreNext done new.relations sessions part.seats o → new.seats ≡ after_plans o part.seats
        → IsMadeIn done today part new
        (last_reply done (newly_decided part.relations done)
        (first_reply done part.relations new.relations) new.relations part.seats new.seats)
    step_made new early facts within None keeps put =
        is_made done today office part good up agrees new early facts within []
        (none done part.relations sessions exact keeps) None keeps put
    step_made new early facts within (Some next) found put =
        is_made done today office part good up agrees new early facts within sessions
        (touched done part.relations sessions exact found.0) (Some next) found put

-- ---- as before

-- with the facts and the plans as they were, their lists and the same sessions, what it has made is right
pub still_listed : (done : Command) (old new : Part) → IsListed done old → part_state new ≡ part_state old
    → HasLists new → new.sessions.items ≡ old.sessions.items
    → IsListed done new
still_listed done old new was same lists sessions = record {
  lists = lists;
  sessions = λ s. subst (λ (list : List Code). Contains list s ↔ IsTrue (reads (relations_of new.facts) done s))
      (sym sessions)
      (subst (λ (state : State). Contains old.sessions.items s ↔ IsTrue (reads state.relations done s)) (sym same)
      (was.sessions s));
}

-- with the facts and the plans as they were, and what it has made right, it is still a part for the command
pub still_part : (done : Command) (old new : Part) → IsPartFor done old → part_state new ≡ part_state old
    → IsListed done new → IsPartFor done new
still_part done old new was same listed = record {
  office = was.office;
  good = was.good;
  order = was.order;
  agrees = subst (Agrees done was.office) (sym same) was.agrees;
  kept = λ made. listed;
}

-- so it is after a refusal of the step, and its lists are those of its facts
module _ (done : Command) (old mid new : Part) (same : part_state mid ≡ part_state old) where
  pub ready_after : (result : Result Reply Refusal) → IsPartFor done old
      → OnErr result (part_state new ≡ part_state mid) → OnErr result (IsListed done new)
      → OnErr result (IsPartFor done new)
  ready_after (Ok reply) was err listed = tt
  ready_after (Err e) was err listed = still_part done old new was (err ∙ same) listed

  pub lists_after : (result : Result Reply Refusal) → OnErr result (IsListed done new) → OnErr result (HasLists new)
  lists_after (Ok reply) listed = tt
  lists_after (Err e) listed = listed.lists

-- ---- taken back

-- with a change of the lists taken back they are those of the facts before it
pub lists_were : (r : Relations) (undo : ListUndo) (new old : SessionLists) → AreListsOf r old → ListsBack undo new old
    → (was : SessionLists)
    → ((s : Code) → listed was.members.entries s ≡ members_before undo new s)
    × ((s : Code) → listed was.halls.entries s ≡ halls_before undo new s)
    → AreListsOf r was
lists_were r undo new old lists back was were = record {
  numbers = lists.numbers;
  members = λ s. were.0 s ∙ back.members s ∙ lists.members s;
  halls = λ s. were.1 s ∙ back.halls s ∙ lists.halls s;
  rising = lists.rising;
}

-- so are those of a part with its step taken back
pub lists_again : (done : Command) (today : ℕ) (old : State) (new : Part) (told : Reply)
    → IsStep done today old new told → (back : Part) → IsBack new back → HasLists back
lists_again done today old new told is back is_back =
    subst (λ (r : Relations). AreListsOf r back.lists)
    (sym (ap (λ (s : State). s.relations) is_back.state ∙ is.facts_back.1)) (is.lists_back back.lists is_back.lists)

-- with the step taken back it is a part for the command again
pub part_again : (done : Command) (today : ℕ) (old new : Part) (told : Reply) → IsPartFor done old → IsListed done old
    → IsStep done today (part_state old) new told
    → new.sessions.items ≡ old.sessions.items → (back : Part) → IsBack new back → IsPartFor done back
part_again done today old new told was listed is same back is_back =
    still_part done old back was state
    (still_listed done old back listed state (lists_again done today (part_state old) new told is back is_back)
    (ap (λ (list : Vec Code Global). list.items) is_back.sessions ∙ same))
  where
    plans : (o : Option Plans) → PlansBack done (relations_of old.facts) o new.plans.entries old.plans.entries
        → plans_before o new.plans.entries ≡ old.plans.entries
    plans None kept = kept.0
    plans (Some list) kept = kept.0

    state : part_state back ≡ part_state old
    state =
        is_back.state
        ∙ ap (λ (r : Relations). let x : State =
        record { relations = r; seats = plans_before new.undo.plans new.plans.entries } in x) is.facts_back.1
        ∙ ap (λ (q : Seats). let x : State = record { relations = relations_of old.facts; seats = q } in x)
        (plans new.undo.plans is.plans_back)
