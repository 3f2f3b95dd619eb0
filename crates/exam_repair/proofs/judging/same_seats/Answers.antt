use Rattle.std.proofs.Common.{◌≡◌, length, ap, arith}
use Rattle.std.proofs.lemmas.Map.Lookups.{btree_map_eq-Decides}
use Rattle.exam_rules.specs.Seatings.{plan_of}
use Rattle.exam_commands.proofs.SameSeats.{codes_decide, keys_decide, seats_from_plans}
use Rattle.exam_repair.proofs.judging.same_seats.Goals as goal

pub returns-then-len : goal.returns-then-len
returns-then-len c = (
  λ e. absurd (cc),
  λ same.
      let is : c.args.one.now.entries ≡ c.args.other.now.entries =
      seats_from_plans c.args.one.now c.args.other.now c.len.ensures.ordered c.len-2.ensures.ordered same in
      let long : length c.args.one.now.entries ≡ length c.args.other.now.entries = ap length is in absurd (omega arith),
)

pub returns : goal.returns
returns c =
    let d = btree_map_eq-Decides keys_decide codes_decide c.args.one.now c.args.other.now c.eq.result c.eq.ensures in (
      λ e s n. ap (λ es. plan_of es s n) (d.0 e),
      λ same. d.1 (seats_from_plans c.args.one.now c.args.other.now c.len.ensures.ordered c.len-2.ensures.ordered
          same),
    )
