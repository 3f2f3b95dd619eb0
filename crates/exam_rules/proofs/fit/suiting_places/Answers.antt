use Rattle.exam_rules.proofs.Words.{is_suiting}
use Rattle.std.proofs.Common.{add-one, sym, ◌∙◌, ap}
use Rattle.exam_rules.proofs.HallMasks.{places_begin, places_more, places_same, places_end}
use Rattle.exam_rules.proofs.fit.suiting_places.Goals as goal
use Rattle.exam_rules.proofs.fit.suiting_places.Goals.{then-is_suiting, else-is_suiting}

pub loop-place-init : goal.loop-place-init
loop-place-init c = places_begin
    (is_suiting c.args.terms.now c.args.barred.now) c.args.halls.now c.empty-places.result c.empty-places.ensures

pub loop-place-preserved : goal.loop-place-preserved
loop-place-preserved c = let P = is_suiting c.args.terms.now c.args.barred.now in
    let test = ap P (sym c.index-halls-place.is) ∙ sym c.is_suiting.ensures in
    rw add-one (elim c.if-is_suiting.branch [
      | then-is_suiting w ↦ rw w.places-is
          (places_more P c.args.halls.now c.loop-place.place c.index-halls-place.result c.loop-place.places
          w.with-places.result c.loop-place-test.true
          (test ∙ w.if-is_suiting.true) w.with-places.ensures c.loop-place.invariant)
      | else-is_suiting w ↦ rw w.places-is
          (places_same P c.args.halls.now c.loop-place.place c.index-halls-place.result c.loop-place.places
          c.loop-place-test.true (test ∙ w.if-is_suiting.false) c.loop-place.invariant)
    ])

pub returns-clause-places : goal.returns-clause-places
returns-clause-places c =
    (places_end (is_suiting c.args.terms.now c.args.barred.now) c.args.halls.now c.loop-place.place c.loop-place.places
    c.loop-place-test.false c.loop-place.invariant).0

pub returns-clause-exist : goal.returns-clause-exist
returns-clause-exist c =
    (places_end (is_suiting c.args.terms.now c.args.barred.now) c.args.halls.now c.loop-place.place c.loop-place.places
    c.loop-place-test.false c.loop-place.invariant).1
