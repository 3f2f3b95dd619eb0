-- The seats of the session are those of the members walked so far. Each number stands once among them, so no seat is
-- put twice.
use Rattle.exam_rules.proofs.Words.{option_map, Code, same_code, members, plan_of, number_at, hall_at}
use Rattle.std.proofs.Common.{◌≡◌, ◌∙◌, ℕ, ◌<◌, [], List, Option, length, get_or, nat_eq, None, ap, sym, arith}
use Rattle.std.proofs.lemmas.List.{get_or_default}
use Rattle.exam_plan.proofs.Steps.{plan_at-get_or}
use Rattle.exam_rules.proofs.Naming.{same_code_itself}
use Rattle.exam_rules.proofs.Writing.{written_more, written_all, seat_taken, seat_other, seat_of_other}
use Rattle.exam_rules.proofs.plans.write_plan.Goals as goal

pub loop-index-preserved : goal.loop-index-preserved
loop-index-preserved c =
    let s : Code = c.args.session.now in
    let i : ℕ = c.loop-index.index in
    let n : ℕ = c.index-numbers-index.result in
    let step = c.in_ok-add_place.ensures.ok in
    record {
      mine = λ r up numbers halls d.
          let long : length c.args.numbers.now ≡ length (members r s) = ap length numbers in
          let below : i < length (members r s) = omega arith in
          let name : n ≡ number_at r s i =
          c.index-numbers-index.is ∙ get_or_default c.args.numbers.now i n 0 c.loop-index-test.true
          ∙ ap (λ (ns : List ℕ). get_or ns i 0) numbers in
          let old : Option Code = plan_of c.loop-index.seats.entries s d in
          let new : Option Code = plan_of c.add_place.new.seats.entries s d in
          written_more r s c.args.plan.now up i below old new d (c.loop-index.invariant.mine r up numbers halls d)
          (λ e none. seat_taken (same_code s s) (nat_eq n d) _ old new (step s d) (same_code_itself s)
          (ap (λ k. nat_eq k d) name ∙ e) none
          ∙ ap (λ (hs : List Code). option_map (λ h. get_or hs h []) (get_or c.args.plan.now i None)) halls
          ∙ ap (option_map (hall_at r s)) (sym (plan_at-get_or c.args.plan.now i)))
          (λ e. seat_of_other (same_code s s) (nat_eq n d) _ old new (step s d) (same_code_itself s)
          (ap (λ k. nat_eq k d) name ∙ e));
      others = λ t d apart. seat_other (same_code s t) (nat_eq n d) _ (plan_of c.loop-index.seats.entries t d)
          (plan_of c.add_place.new.seats.entries t d) (step t d) apart ∙ c.loop-index.invariant.others t d apart;
    }

pub returns-clause-ok : goal.returns-clause-ok
returns-clause-ok c = λ r up numbers halls d.
    let long : length c.args.numbers.now ≡ length (members r c.args.session.now) = ap length numbers in
    c.loop-index.invariant.mine r up numbers halls d
    ∙ written_all r c.args.session.now c.args.plan.now c.loop-index.index (omega arith) d
