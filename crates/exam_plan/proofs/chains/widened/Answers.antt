-- What was united so far is the marked halls and the sets of the fresh ones that are no longer in the rest.
use Rattle.exam_plan.proofs.Words.{get_or_default}
use Rattle.std.proofs.Common.{◌∙◌, length}
use Rattle.exam_plan.proofs.Steps.{united_none, united_more, united_all, less_within, one_fewer}
use Rattle.exam_plan.proofs.chains.widened.Goals as goal

pub uniting-init : goal.uniting-init
uniting-init c = record {
  fresh = λ k t. t;
  united = united_none c.args.inward.now c.args.marked c.args.fresh;
}

pub bounds-inward-hall : goal.bounds-inward-hall
bounds-inward-hall c = c.requires c.in-Some.split.0 (c.uniting.invariant.fresh c.in-Some.split.0 c.in-Some.ensures.0.1)

pub uniting-preserved : goal.uniting-preserved
uniting-preserved c =
    let among = c.uniting.invariant.fresh c.in-Some.split.0 c.in-Some.ensures.0.1 in
    record {
      fresh = λ k t. c.uniting.invariant.fresh k
          (less_within c.uniting.rest c.in-Some.split.0 c.in-Some.split.1 c.in-Some.ensures.1 k t);
      united = united_more c.args.inward.now c.args.marked c.args.fresh c.uniting.rest c.uniting.next c.in-Some.split.0
          c.index-inward-hall.result c.union-next.result c.in-Some.split.1 c.uniting.invariant.united among
          (c.index-inward-hall.is
          ∙ get_or_default c.args.inward.now c.in-Some.split.0 c.index-inward-hall.result 0
          (c.requires c.in-Some.split.0 among)) c.union-next.ensures c.in-Some.ensures.1;
    }

pub uniting-smaller : goal.uniting-smaller
uniting-smaller c = one_fewer c.uniting.rest c.in-Some.split.0 c.in-Some.split.1 c.in-Some.ensures.1
    (length c.args.inward.now)
    (c.requires c.in-Some.split.0 (c.uniting.invariant.fresh c.in-Some.split.0 c.in-Some.ensures.0.1))
    c.in-Some.ensures.0.1

pub returns : goal.returns
returns c = united_all c.args.inward.now c.args.marked c.args.fresh c.uniting.rest c.uniting.next c.in_default.ensures
    c.uniting.invariant.united
