use Rattle.exam_rules.proofs.Words.{holds, halls_below, Code, relations_of, Room, fitting_places}
use Rattle.std.proofs.Common.{ℕ, Option, map, length, ap, sym, ◌∙◌}
use Rattle.exam_rules.proofs.HallMasks.{masks_begin, masks_more, masks_end}
use Rattle.exam_rules.proofs.seating.fit_rows.Goals as goal

pub loop-key-init : goal.loop-key-init
loop-key-init c = rw c.in_ok-rows.ensures.items (masks_begin (length c.args.halls.now)
    (λ (key : Option Code × ℕ). fitting_places (relations_of c.args.facts.now) c.args.session.now key.1
    (map (λ (hall : Code × Option Room). hall.0) c.args.halls.now)) c.args.keys.now)

pub loop-key-preserved : goal.loop-key-preserved
loop-key-preserved c =
    rw c.in_ok-push.ensures.items (masks_more (length c.args.halls.now)
    (λ (key : Option Code × ℕ). fitting_places (relations_of c.args.facts.now) c.args.session.now key.1
    (map (λ (hall : Code × Option Room). hall.0) c.args.halls.now)) c.args.keys.now
    c.loop-key.key-index c.key-item.result c.loop-key.rows.items c.mask.result c.loop-key-test.true
    (ap (halls_below (length c.args.halls.now)) c.mask.ensures.bits ∙ c.in_ok-places.ensures.ok
    ∙ ap (λ (key : Option Code × ℕ). fitting_places (relations_of c.args.facts.now) c.args.session.now key.1
    (map (λ (hall : Code × Option Room). hall.0) c.args.halls.now)) c.key-item.is)
    (λ h held. c.in_ok-places.ensures.exist h (ap (λ m. holds m h) (sym c.mask.ensures.bits) ∙ held))
    c.loop-key.invariant)

pub returns-clause-ok : goal.returns-clause-ok
returns-clause-ok c =
    masks_end (length c.args.halls.now)
    (λ (key : Option Code × ℕ). fitting_places (relations_of c.args.facts.now) c.args.session.now key.1
    (map (λ (hall : Code × Option Room). hall.0) c.args.halls.now)) c.args.keys.now
    c.loop-key.key-index c.loop-key.rows.items c.loop-key-test.false c.loop-key.invariant

pub returns-clause-exist : goal.returns-clause-exist
returns-clause-exist c = c.loop-key.invariant.within
