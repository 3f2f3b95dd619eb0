-- The place is that of the first number that is not less. Who is there already has the number, and keeps the lesser
-- paper; else the candidate goes in before them, and the numbers still rise.
use Rattle.exam_rules.proofs.Words.{IsNonDecreasingBy, Entrant, Code, entered, entrant}
use Rattle.std.proofs.Common.{◌≡◌, ◌<◌, ◌≤◌, ℕ, List, length, get_or, nat_eq, false, set, refl, ap, sym, subst, ◌∙◌}
use Rattle.std.proofs.Common.{rules}
use Rattle.std.specs.List.{insert}
use Rattle.exam_rules.specs.Lists.{lesser_paper}
use Rattle.exam_rules.proofs.Entered.{IsPlace, entered_new, entered_there}
use Rattle.exam_rules.proofs.entering.enter_among.Goals as goal

-- the place was looked for in the same list
there : (n : ℕ) (p q least : Code) (seen xs new : List Entrant) (i : ℕ) → seen ≡ xs
    → (IsNonDecreasingBy (λ (e : Entrant). e.number) seen → IsPlace n p seen i) → i < length seen
    → get_or seen i (entrant n q) ≡ entrant n q
    → least ≡ lesser_paper p q → new ≡ set xs i (entrant n least) → IsNonDecreasingBy (λ (e : Entrant). e.number) xs
    → new ≡ entered n p xs
there n p q least seen xs new i same place inside at is put up =
    put ∙ ap (λ paper. set xs i (entrant n paper)) is
    ∙ subst (λ (es : List Entrant). set es i (entrant n (lesser_paper p q)) ≡ entered n p es) same
    (sym (entered_there n p seen i q
    (place (subst (IsNonDecreasingBy (λ (e : Entrant). e.number)) (sym same) up)) inside at))

missing : (n : ℕ) (p : Code) (seen xs new : List Entrant) (i : ℕ) → seen ≡ xs
    → (IsNonDecreasingBy (λ (e : Entrant). e.number) seen → IsPlace n p seen i) → i ≤ length seen
    → ((d : Entrant) → i < length seen → nat_eq (get_or seen i d).number n ≡ false)
    → new ≡ insert xs i (entrant n p) → IsNonDecreasingBy (λ (e : Entrant). e.number) xs → new ≡ entered n p xs
missing n p seen xs new i same place within other put up =
    put
    ∙ subst (λ (es : List Entrant). insert es i (entrant n p) ≡ entered n p es) same
    (sym (entered_new n p seen i
    (place (subst (IsNonDecreasingBy (λ (e : Entrant). e.number)) (sym same) up)) within other))

pub put_at-requires : goal.put_at-requires
put_at-requires c = subst
    (λ (es : List Entrant). c.place_of-place.result < length es) c.as_slice-entrants.ensures.value
    c.in-Some.ensures.found.0

pub returns-in-Some-clause-ok : goal.returns-in-Some-clause-ok
returns-in-Some-clause-ok c =
    there c.args.number c.args.paper c.in-Some.listed c.lesser_paper-paper.result c.as_slice-entrants.result.now
    c.args.list.now.items c.put_at.new.list.items c.place_of-place.result
    c.as_slice-entrants.ensures.value c.place_of-place.ensures.place c.in-Some.ensures.found.0
    c.in-Some.ensures.found.1 c.lesser_paper-paper.ensures c.put_at.ensures

pub returns-in_ok-insert-in-None-clause-ok : goal.returns-in_ok-insert-in-None-clause-ok
returns-in_ok-insert-in-None-clause-ok c =
    let put : c.insert.new.self.items
    ≡ insert c.args.list.now.items c.place_of-place.result (entrant c.args.number c.args.paper) = search rules in
    missing c.args.number c.args.paper c.as_slice-entrants.result.now c.args.list.now.items c.insert.new.self.items
    c.place_of-place.result
    c.as_slice-entrants.ensures.value c.place_of-place.ensures.place c.place_of-place.ensures.within
    (λ d inside. c.in-None.ensures.none refl inside d) put
