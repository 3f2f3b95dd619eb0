-- What was appended is the halls of the set below the hall at hand. The room that is asked for is enough, since each
-- of them is appended once.
use Rattle.exam_plan.proofs.Words.{length-append, holds, halls_below}
use Rattle.std.proofs.Common.{◌≡◌, ◌+◌, length, ap, sym, ◌∙◌, rules}
use Rattle.exam_plan.proofs.Listing.{still_fewer, takes_more, leaves_same}
use Rattle.exam_plan.proofs.turns.list_halls.Goals as goal
use Rattle.exam_plan.proofs.turns.list_halls.Goals.{then-contains, else-contains}

pub push_reserved-requires : goal.push_reserved-requires
push_reserved-requires c =
    let fewer = still_fewer (holds c.args.set) c.args.halls c.loop-hall.hall c.loop-hall-test.true
    (sym c.contains.ensures ∙ c.if-contains.true) in
    let long : length c.loop-hall.listed.items
    ≡ length c.args.listed.now.items + length (halls_below c.loop-hall.hall c.args.set) =
    ap length c.loop-hall.invariant.listed
    ∙ length-append c.args.listed.now.items (halls_below c.loop-hall.hall c.args.set) in
    let room = c.requires in
    let same = c.loop-hall.invariant.room in
    search rules

pub loop-hall-preserved : goal.loop-hall-preserved
loop-hall-preserved c = elim c.if-contains.branch [
  | then-contains w ↦ record {
    listed = rw w.listed-is
        (takes_more (holds c.args.set) c.loop-hall.hall c.args.listed.now.items c.loop-hall.listed.items
        w.push_reserved.new.self.items c.loop-hall.invariant.listed w.push_reserved.ensures.items
        (sym c.contains.ensures ∙ w.if-contains.true));
    room = rw w.listed-is (w.push_reserved.ensures.capacity ∙ c.loop-hall.invariant.room);
  }
  | else-contains w ↦ record {
    listed = rw w.listed-is
        (leaves_same (holds c.args.set) c.loop-hall.hall c.args.listed.now.items c.loop-hall.listed.items
        c.loop-hall.invariant.listed (sym c.contains.ensures ∙ w.if-contains.false));
    room = rw w.listed-is c.loop-hall.invariant.room;
  }
]
