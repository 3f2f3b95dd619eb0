-- A command on a day has one result, and so has a list of commands.
use Rattle.exam_laws.proofs.Words.{nat_cmp_total, nat_list_cmp_total, Refusal, SamePlan, Code, Relations, seat_cmp}
use Rattle.exam_laws.proofs.Words.{plan_of, seating, same_rows, seats_exact, seats_total, Command, Reply, reply_of}
use Rattle.exam_laws.proofs.Words.{State, MayStep, Run, Step, StepTo, change, first_seated}
use Rattle.std.proofs.Common.{◌≡◌, ◌≢◌, ℕ, List, [], ◌∷◌, Result, Ok, Err, refl, ap, sym, subst, ◌∙◌, inl, inr}
use Rattle.std.specs.FinMap.{nat_cmp-IsAntisymmetric, slice_cmp-IsAntisymmetric}
use Rattle.std.proofs.lemmas.List.Elements.{All-head, All-tail}
use Rattle.exam_types.specs.declared.refusal.Refusal.TheVariants.{NoMemory}
use Rattle.exam_plan.specs.Repair.{IsRepair}
use Rattle.exam_plan.proofs.OneRepair.{one_repair}
use Rattle.exam_commands.specs.Steps.{NoneLacksMemory}

-- a plan of the session has one repair
one_plan : (r : Relations) (done : Command) (before one other : State) (s : Code)
    → IsRepair (seating r s) (first_seated done) (plan_of before.seats s) (plan_of one.seats s)
    → IsRepair (seating r s) (first_seated done) (plan_of before.seats s) (plan_of other.seats s)
    → SamePlan (plan_of one.seats s) (plan_of other.seats s)
one_plan r done before one other s here there =
    one_repair (seating r s) nat_cmp_total nat_list_cmp_total nat_cmp-IsAntisymmetric
    (slice_cmp-IsAntisymmetric nat_cmp-IsAntisymmetric) (first_seated done) (plan_of before.seats s)
    (plan_of one.seats s) (plan_of other.seats s) here there

module _ (done : Command) (before one other : State) (first second : Result Reply Refusal) where
  one_outcome : (o : Result Relations Refusal) → StepTo done before first one o → StepTo done before second other o
      → (first ≡ second) × (one ≡ other)
  one_outcome (Err e) here there = (here.0 ∙ sym there.0, here.1 ∙ sym there.1)
  one_outcome (Ok r) here there =
      let facts : one.relations ≡ other.relations = here.0 ∙ sym there.0 in
      let seats : one.seats ≡ other.seats =
      same_rows seat_cmp seats_total seats_exact one.seats other.seats here.3.seats there.3.seats
      (λ q. one_plan r done before one other q.0 (here.1 q.0).repair (there.1 q.0).repair q.1) in
      let offices : one ≡ other = λ i. record { relations = facts i; seats = seats i } in
      (here.2 ∙ ap (λ (after : State). Ok (reply_of done before after)) offices ∙ sym there.2, offices)

  pub one_result : (today : ℕ) → Step done today before first one → Step done today before second other
      → (first ≡ second) × (one ≡ other)
  one_result today here there = one_outcome (change done today before) here there

with_memory : (done : Command) (today : ℕ) (before : State) (answer : Result Reply Refusal) (after : State)
    → answer ≢ Err NoMemory → MayStep done today before answer after → Step done today before answer after
with_memory done today before answer after not_lacking (inl lacking) = absurd (not_lacking lacking.0)
with_memory done today before answer after not_lacking (inr step) = step

pub one_run : (done : List (Command × ℕ)) (before one other : State) (first second : List (Result Reply Refusal))
    → NoneLacksMemory first → NoneLacksMemory second
    → Run done before first one → Run done before second other → (first ≡ second) × (one ≡ other)
one_run [] before one other [] [] enough plenty here there = (refl, here ∙ sym there)
one_run [] before one other [] (q ∷ second) enough plenty here there = absurd there
one_run [] before one other (p ∷ first) second enough plenty here there = absurd here
one_run (x ∷ done) before one other [] second enough plenty here there = absurd here
one_run (x ∷ done) before one other (p ∷ first) [] enough plenty here there = absurd there
one_run (x ∷ done) before one other (p ∷ first) (q ∷ second) enough plenty here there =
    let heads = one_result x.0 before here.0 there.0 p q x.1
    (with_memory x.0 x.1 before p here.0 (All-head (λ reply. reply ≢ Err NoMemory) p first enough) here.1)
    (with_memory x.0 x.1 before q there.0 (All-head (λ reply. reply ≢ Err NoMemory) q second plenty) there.1) in
    let rests = one_run done there.0 one other first second
    (All-tail (λ reply. reply ≢ Err NoMemory) p first enough) (All-tail (λ reply. reply ≢ Err NoMemory) q second plenty)
    (subst (λ (mid : State). Run done mid first one) heads.1 here.2) there.2 in
    (λ i. heads.0 i ∷ rests.0 i, rests.1)
