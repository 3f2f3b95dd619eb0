-- Who sits no paper is no member, and fits nowhere. Of a member the terms and the barred halls are those of the rules,
-- so the places that suit are those that fit.
use Rattle.exam_rules.proofs.Words.{Room, Code, relations_of, has_live_entry, barred_halls, positions, is_suiting}
use Rattle.exam_rules.proofs.Words.{sitting_terms}
use Rattle.std.proofs.Common.{◌≡◌, map, is_some, true, false, length, Option, ap, sym, ◌∙◌, arith}
use Rattle.exam_rules.proofs.Places.{fits_nowhere, fits_by_rooms}
use Rattle.exam_rules.proofs.HallMasks.{no_places}
use Rattle.exam_rules.proofs.Sitters.{members_sit}
use Rattle.exam_rules.proofs.fit.fitting_places.Goals as goal

pub returns-then-is_none-clause-ok : goal.returns-then-is_none-clause-ok
returns-then-is_none-clause-ok c =
    let inside : is_some c.args.sat ≡ has_live_entry (relations_of c.args.facts.now) c.args.session.now c.args.number =
    ap is_some c.requires.sat ∙ members_sit (relations_of c.args.facts.now) c.args.session.now c.args.number in
    let outside : has_live_entry (relations_of c.args.facts.now) c.args.session.now c.args.number ≡ false =
    grind arith in
    no_places (length c.args.halls.now) c.empty.result c.empty.ensures
    ∙ fits_nowhere (relations_of c.args.facts.now) c.args.session.now c.args.number outside
    (map (λ (row : Code × Option Room). row.0) c.args.halls.now)

pub returns-then-is_none-clause-exist : goal.returns-then-is_none-clause-exist
returns-then-is_none-clause-exist c = λ h held. absurd (let z : false ≡ true = sym (c.empty.ensures h) ∙ held in cc)

pub returns-clause-ok : goal.returns-clause-ok
returns-clause-ok c =
    let sits : is_some c.args.sat ≡ has_live_entry (relations_of c.args.facts.now) c.args.session.now c.args.number =
    ap is_some c.requires.sat ∙ members_sit (relations_of c.args.facts.now) c.args.session.now c.args.number in
    let inside : has_live_entry (relations_of c.args.facts.now) c.args.session.now c.args.number ≡ true = grind arith in
    let barred : c.deref.result.now ≡ barred_halls (relations_of c.args.facts.now) c.args.session.now c.args.number =
    c.deref.ensures.value ∙ c.in_ok-barred.ensures.ok in
    c.suiting_places.ensures.places
    ∙ ap (λ terms. positions (is_suiting terms c.deref.result.now) 0 c.args.halls.now) c.sitting_terms-terms.ensures
    ∙ ap (λ codes. positions
    (is_suiting (sitting_terms (relations_of c.args.facts.now) c.args.session.now c.args.number) codes) 0
    c.args.halls.now) barred
    ∙ fits_by_rooms (relations_of c.args.facts.now) c.args.session.now c.args.number inside c.args.halls.now
    c.requires.halls
