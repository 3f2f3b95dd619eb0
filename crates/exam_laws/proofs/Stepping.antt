-- An accepted command is a step, and a refused one too.
use Rattle.exam_laws.proofs.Words.{option_or, fun_ext, Refusal, IsBest, Code, Relations, same_code, code_cmp, nat_cmp}
use Rattle.exam_laws.proofs.Words.{seating, plan_of, fits, ListsRise, Row, Command, imported, unless, first_refusal}
use Rattle.exam_laws.proofs.Words.{rows_refusal, with_rows, too_many, within_limits, IsInOrder, IsRepaired, State}
use Rattle.exam_laws.proofs.Words.{Seats, change, SameSeating, SeatsOn, StepTo, Step, first_seated, IsGood, reply_of}
use Rattle.std.proofs.Common.{◌≡◌, ℕ, nat_eq, not, Bool, true, cond, List, [], ◌∷◌, None, Some, Ok, Err, refl, ap, sym}
use Rattle.std.proofs.Common.{subst, ◌∙◌}
use Rattle.exam_types.specs.declared.refusal.Refusal.TheVariants as refusal
use Rattle.exam_plan.specs.Matching.{Seating}
use Rattle.exam_rules.specs.Sessions.{members}
use Rattle.exam_rules.specs.Seatings.{desks}
use Rattle.exam_commands.specs.Steps.{IsNextPlan}
use Rattle.exam_commands.proofs.Staying.{best_stays}

-- ---- the change

pub limits_refusal : (r : Relations) (rows : List Row) (b : Bool) → within_limits (with_rows r rows) ≡ b
    → first_refusal (too_many (with_rows r rows) ∷ []) ≡ cond (not b) (Some refusal.TooMany) None
limits_refusal r rows b e = ap (λ t. cond (not t) (Some refusal.TooMany) None) e

pub import_accepted : (r : Relations) (rows : List Row) → rows_refusal r rows ≡ None
    → within_limits (with_rows r rows) ≡ true → imported r rows ≡ Ok (with_rows r rows)
import_accepted r rows ok within =
    ap (λ o. unless (option_or o (first_refusal (too_many (with_rows r rows) ∷ []))) (with_rows r rows)) ok
    ∙ ap (λ o. unless o (with_rows r rows)) (limits_refusal r rows true within)

-- ---- the plans

-- a session with the same members, fits and desks has the same seating
pub same_seating : (r t : Relations) (s : Code) → SameSeating (seating r s) (seating t s) → seating r s ≡ seating t s
same_seating r t s same =
    ap (λ ms. with_parts ms (fits r s) (desks r s)) same.members
    ∙ ap (λ f. with_parts (members t s) f (desks r s)) (fun_ext (λ c. fun_ext (same.fits c)))
    ∙ ap (with_parts (members t s) (fits t s)) (fun_ext same.desks)
  where
    with_parts : List ℕ → (ℕ → Code → Bool) → (Code → ℕ) → Seating ℕ Code
    with_parts ms f d = record {
      members = ms;
      fits = f;
      desks = d;
      same_candidate = nat_eq;
      same_hall = same_code;
      candidate_cmp = nat_cmp;
      hall_cmp = code_cmp;
    }

pub next_plan : (done : Command) (r t : Relations) (s : Code) (before after : Seats) → ListsRise t s
    → IsBest (seating r s) (plan_of before s) → IsRepaired t (first_seated done) before after s
    → SeatsOn done (seating t s) (plan_of before s) (plan_of after s)
    → IsNextPlan done (seating r s) (seating t s) (plan_of before s) (plan_of after s)
next_plan done r t s before after up best made kept = record {
  best = made.best;
  untouched = λ same. best_stays t s up (first_seated done) (plan_of before s) (plan_of after s)
      (subst (λ g. IsBest g (plan_of before s)) (same_seating r t s same) best) made.repair;
  kept = kept;
  repair = made.repair;
}

-- ---- any command

pub accepted_step : (done : Command) (today : ℕ) (before after : State) (t : Relations)
    → change done today before ≡ Ok t → after.relations ≡ t → IsInOrder after → ((s : Code) → ListsRise t s)
    → IsGood before
    → ((s : Code) → IsRepaired t (first_seated done) before.seats after.seats s)
    → ((s : Code) → SeatsOn done (seating t s) (plan_of before.seats s) (plan_of after.seats s))
    → Step done today before (Ok (reply_of done before after)) after
accepted_step done today before after t accepted facts order up good plans kept =
    subst (StepTo done before (Ok (reply_of done before after)) after) (sym accepted) (
      facts,
      λ s. next_plan done before.relations t s before.seats after.seats (up s) (good.best s) (plans s) (kept s),
      refl,
      order,
    )

pub refused_step : (done : Command) (today : ℕ) (before : State) (e : Refusal) → change done today before ≡ Err e
    → Step done today before (Err e) before
refused_step done today before e refused = subst (StepTo done before (Err e) before) (sym refused) (refl, refl)
