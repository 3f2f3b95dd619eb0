-- The sets of those halls that are no longer in the rest are changed, the others are not.
use Rattle.exam_plan.proofs.Words.{length-set, get_or_default, holds}
use Rattle.std.proofs.Common.{rules, ◌<◌, ◌∙◌, length, cond, nat_eq, ap, arith}
use Rattle.exam_plan.proofs.Steps.{less_within, one_fewer}
use Rattle.exam_plan.proofs.Tables.{put_none, put_more, put_all}
use Rattle.exam_plan.proofs.onward.put_each.Goals as goal

pub putting-init : goal.putting-init
putting-init c = record {
  long = search rules;
  within = λ k t. t;
  put = put_none c.args.sets.now.items c.args.halls c.args.hall c.args.inside;
}

pub index-requires : goal.index-requires
index-requires c =
    let l : c.in-Some.split.0 < length c.putting.sets.items =
    (let b = c.requires.exist c.in-Some.split.0
    (c.putting.invariant.within c.in-Some.split.0 c.in-Some.ensures.0.1) in
    omega (arith, b, c.putting.invariant.long)) in
    search rules

pub index_mut-requires : goal.index_mut-requires
index_mut-requires c =
    let l : c.in-Some.split.0 < length c.putting.sets.items =
    (let b = c.requires.exist c.in-Some.split.0
    (c.putting.invariant.within c.in-Some.split.0 c.in-Some.ensures.0.1) in
    omega (arith, b, c.putting.invariant.long)) in
    search rules

pub putting-preserved : goal.putting-preserved
putting-preserved c =
    let among = c.putting.invariant.within c.in-Some.split.0 c.in-Some.ensures.0.1 in
    let below : c.in-Some.split.0 < length c.putting.sets.items =
    (let b = c.requires.exist c.in-Some.split.0 among in omega (arith, b, c.putting.invariant.long)) in
    record {
      long = simp length-set c.putting.invariant.long;
      within = λ k t. c.putting.invariant.within k
          (less_within c.putting.rest c.in-Some.split.0 c.in-Some.split.1 c.in-Some.ensures.1 k t);
      put = put_more c.args.sets.now.items c.args.halls c.args.hall c.args.inside c.putting.rest c.putting.sets.items
          c.in-Some.split.0 c.put.result c.in-Some.split.1 c.putting.invariant.put below among c.in-Some.ensures.0.1
          (λ h. c.put.ensures h
          ∙ ap (λ s. cond (nat_eq h c.args.hall) c.args.inside (holds s h))
          (c.index.ensures ∙ get_or_default c.putting.sets.items c.in-Some.split.0 c.index.result.now 0 below))
          c.in-Some.ensures.1;
    }

pub putting-smaller : goal.putting-smaller
putting-smaller c =
    let below : c.in-Some.split.0 < length c.putting.sets.items =
    (let b = c.requires.exist c.in-Some.split.0
    (c.putting.invariant.within c.in-Some.split.0 c.in-Some.ensures.0.1) in
    omega (arith, b, c.putting.invariant.long)) in
    simp length-set (one_fewer c.putting.rest c.in-Some.split.0 c.in-Some.split.1 c.in-Some.ensures.1
    (length c.putting.sets.items) below c.in-Some.ensures.0.1)

pub returns-clause-put : goal.returns-clause-put
returns-clause-put c =
    put_all c.args.sets.now.items c.args.halls c.args.hall c.args.inside c.putting.rest c.putting.sets.items
    c.in_default.ensures c.putting.invariant.put
