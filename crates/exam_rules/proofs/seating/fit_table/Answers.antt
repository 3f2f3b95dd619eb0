-- The rooms are those of the halls that were given, so the rows are those of the rules.
use Rattle.exam_rules.proofs.Words.{length-map, map-map, holds, halls_below, sets_of, Code, relations_of, members}
use Rattle.exam_rules.proofs.Words.{sitting, opened_room, fitting_places, desk_key}
use Rattle.std.proofs.Common.{◌≡◌, ◌≤◌, ◌<◌, ℕ, true, List, Option, length, map, IfOk, refl, ap, sym, subst, ◌∙◌}
use Rattle.std.specs.Prelude.{All}
use Rattle.std.proofs.lemmas.List.Elements.{All-map}
use Rattle.exam_plan.specs.HallSets.{most_halls}
use Rattle.exam_rules.specs.Seatings.{with_rooms}
use Rattle.exam_rules.proofs.Places.{rooms_named}
use Rattle.exam_rules.proofs.seating.fit_table.Goals as goal

pub fit_rows-requires : goal.fit_rows-requires
fit_rows-requires c =
    let rooms : c.deref.result.now ≡ with_rooms (relations_of c.args.facts.now) c.args.session.now c.args.halls.now =
    c.deref.ensures.value ∙ c.in_ok-rooms.ensures.ok in
    let long : length c.deref.result.now ≡ length c.args.halls.now =
    ap length rooms ∙ length-map c.args.halls.now
    (λ h. (h, opened_room (relations_of c.args.facts.now) c.args.session.now h)) in record {
      keys = subst (All (λ (key : Option Code × ℕ). key.0
          ≡ sitting (relations_of c.args.facts.now) c.args.session.now key.1)) (sym c.requires.keys)
          (All-map (λ (key : Option Code × ℕ). key.0
          ≡ sitting (relations_of c.args.facts.now) c.args.session.now key.1)
          (desk_key (relations_of c.args.facts.now) c.args.session.now)
          (members (relations_of c.args.facts.now) c.args.session.now) (λ k d h. refl));
      halls = rooms ∙ ap (with_rooms (relations_of c.args.facts.now) c.args.session.now)
          (sym (rooms_named (relations_of c.args.facts.now) c.args.session.now c.args.halls.now c.deref.result.now
          rooms));
      few = subst (λ n. n ≤ most_halls) (sym long) c.requires.few;
    }

pub returns-clause-ok : goal.returns-clause-ok
returns-clause-ok c =
    let rooms : c.deref.result.now ≡ with_rooms (relations_of c.args.facts.now) c.args.session.now c.args.halls.now =
    c.deref.ensures.value ∙ c.in_ok-rooms.ensures.ok in
    let long : length c.deref.result.now ≡ length c.args.halls.now =
    ap length rooms ∙ length-map c.args.halls.now
    (λ h. (h, opened_room (relations_of c.args.facts.now) c.args.session.now h)) in
    subst (λ n. IfOk c.fit_rows.result
    (λ rows. map (halls_below n) (sets_of rows.items)
    ≡ map (λ m. fitting_places (relations_of c.args.facts.now) c.args.session.now m c.args.halls.now)
    (members (relations_of c.args.facts.now) c.args.session.now))) long
    (subst (λ (places : List (List ℕ)). IfOk c.fit_rows.result
    (λ rows. map (halls_below (length c.deref.result.now)) (sets_of rows.items) ≡ places))
    (ap (map (λ (key : Option Code × ℕ). fitting_places (relations_of c.args.facts.now) c.args.session.now key.1
    (map (λ hall. hall.0) c.deref.result.now))) c.requires.keys
    ∙ map-map (λ (key : Option Code × ℕ). fitting_places (relations_of c.args.facts.now) c.args.session.now key.1
    (map (λ hall. hall.0) c.deref.result.now)) (desk_key (relations_of c.args.facts.now) c.args.session.now)
    (members (relations_of c.args.facts.now) c.args.session.now)
    ∙ ap (λ (halls : List Code). map (λ n. fitting_places (relations_of c.args.facts.now) c.args.session.now n halls)
    (members (relations_of c.args.facts.now) c.args.session.now))
    (rooms_named (relations_of c.args.facts.now) c.args.session.now c.args.halls.now c.deref.result.now rooms))
    c.fit_rows.ensures.ok)

pub returns-clause-exist : goal.returns-clause-exist
returns-clause-exist c =
    let rooms : c.deref.result.now ≡ with_rooms (relations_of c.args.facts.now) c.args.session.now c.args.halls.now =
    c.deref.ensures.value ∙ c.in_ok-rooms.ensures.ok in
    let long : length c.deref.result.now ≡ length c.args.halls.now =
    ap length rooms ∙ length-map c.args.halls.now
    (λ h. (h, opened_room (relations_of c.args.facts.now) c.args.session.now h)) in
    subst (λ n. IfOk c.fit_rows.result
    (λ rows. All (λ set. (h : ℕ) → holds set h ≡ true → h < n) (sets_of rows.items))) long c.fit_rows.ensures.exist
