-- What the router's table finds.
use Rattle.std.proofs.Common.{◌≡◌, ℕ, suc, ◌+◌, List, [], ◌∷◌, ◌++◌, length, drop, get_or, Option, Some, None, refl}
use Rattle.std.proofs.Common.{sym, ap, ◌∙◌, arith, codes, option_map, Fits, w8}
use Rattle.std.proofs.Math.Seq.{drop-append-add}
use Rattle.matchit.proofs.OnLiterals.{matchit_on_literals}
use Rattle.matchit.specs.Level.{IsText}
use Rattle.matchit.specs.Router.{RouteOf}
use Rattle.matchit.specs.Rows.{param_token}
use Rattle.matchit.specs.Seek.{first}
use Rattle.exam_request.specs.Table.{table}
use Rattle.exam_request.specs.Targets.{IsPart, IsReferenceOf, Target, behind_number, part, reading, reference_in}
use Rattle.exam_request.specs.declared.routes.Route.{Route}
use Rattle.exam_request.specs.declared.routes.Route.TheVariants.{Appeal, Appeals, Clashes, Seats}
use Rattle.exam_request.proofs.Readings.{part_all, part_ends, reading_says}
use Rattle.exam_request.proofs.Tables.{all_routes, walk_reads}

-- a route, as the router keeps it
abbrev route_of : Route → RouteOf Route
route_of Seats = record {
  pattern = codes "/candidates/" ++ param_token ∷ codes "/seats";
  text = codes "/candidates/{number}/seats";
  names = (13, 19) ∷ [];
  value = Seats;
}
route_of Clashes = record {
  pattern = codes "/candidates/" ++ param_token ∷ codes "/clashes";
  text = codes "/candidates/{number}/clashes";
  names = (13, 19) ∷ [];
  value = Clashes;
}
route_of Appeals = record {
  pattern = codes "/candidates/" ++ param_token ∷ codes "/appeals";
  text = codes "/candidates/{number}/appeals";
  names = (13, 19) ∷ [];
  value = Appeals;
}
route_of Appeal =
    record {
      pattern = codes "/candidates/" ++ param_token ∷ (codes "/appeals/" ++ param_token ∷ []);
      text = codes "/candidates/{number}/appeals/{ref}";
      names = (13, 19) ∷ (30, 33) ∷ [];
      value = Appeal;
    }

value_of : (p : Route) → (route_of p).value ≡ p
value_of Seats = refl
value_of Clashes = refl
value_of Appeals = refl
value_of Appeal = refl

table_is : table ≡ all_routes route_of
unfolding matchit_on_literals
table_is = refl

walk : (target : List ℕ) → IsText target → first table target ≡ option_map (λ t. route_of t.route) (reading target)
walk target h = ap (λ r. first r target) table_is ∙ walk_reads route_of target h

values : (o : Option Target)
    → option_map (λ r. r.value) (option_map (λ t. route_of t.route) o) ≡ option_map (λ t. t.route) o
values None = refl
values (Some t) = ap Some (value_of t.route)

pub table_reads : (target : List ℕ) → IsText target
    → option_map (λ r. r.value) (first table target) ≡ option_map (λ t. t.route) (reading target)
table_reads target h = ap (option_map (λ r. r.value)) (walk target h) ∙ values (reading target)

-- a text of bytes
pub is_text : (t : List ℕ) → ((i : ℕ) → Fits w8 (get_or t i 0)) → IsText t
is_text [] h = tt
is_text (b ∷ t) h = (omega (arith, (h 0).fits), is_text t (λ i. h (suc i)))

-- ---- where the parts lie

number_is_read : (route : Route) (n r : List ℕ) → IsPart n → part (n ++ behind_number route r) ≡ n
number_is_read Seats n r h = (part_ends n (codes "seats") h.1).0
number_is_read Clashes n r h = (part_ends n (codes "clashes") h.1).0
number_is_read Appeals n r h = (part_ends n (codes "appeals") h.1).0
number_is_read Appeal n r h = (part_ends n (codes "appeals/" ++ r) h.1).0

reference_is_read : (route : Route) (n r : List ℕ) → IsReferenceOf route r
    → reference_in route (length n) (codes "/candidates/" ++ n ++ behind_number route r) ≡ r
reference_is_read Seats n r e = sym e
reference_is_read Clashes n r e = sym e
reference_is_read Appeals n r e = sym e
reference_is_read Appeal n r e =
    let at : length n + 21 ≡ length (codes "/candidates/") + (length n + 9) = omega arith in
    let all : List ℕ = codes "/candidates/" ++ (n ++ (codes "/appeals/" ++ r)) in
    ap (λ k. part (drop k all)) at
    ∙ ap part (drop-append-add (codes "/candidates/") (n ++ (codes "/appeals/" ++ r)) (length n + 9))
    ∙ ap part (drop-append-add n (codes "/appeals/" ++ r) 9) ∙ part_all r e.1

pub parts_stand : (target : List ℕ) (t : Target) → reading target ≡ Some t
    → t ≡ record {
      route = t.route;
      number = part (drop 12 target);
      reference = reference_in t.route (length (part (drop 12 target))) target;
    }
parts_stand target t e =
    let said = reading_says target t e in
    let number = number_is_read t.route t.number t.reference said.0.0 in
    rw (said.1, number, reference_is_read t.route t.number t.reference said.0.1) refl

-- what a route that was found says
pub found_reads : (target : List ℕ) (route : Route) → IsText target
    → option_map (λ r. r.value) (first table target) ≡ Some route
    → Some (record {
      route = route;
      number = part (drop 12 target);
      reference = reference_in route (length (part (drop 12 target))) target;
    }) ≡ reading target
found_reads target route h e = by (reading target) refl (sym (table_reads target h) ∙ e)
  where
    by : (o : Option Target) → reading target ≡ o → option_map (λ t. t.route) o ≡ Some route
        → Some (record {
          route = route;
          number = part (drop 12 target);
          reference = reference_in route (length (part (drop 12 target))) target;
        }) ≡ o
    by None q e = cc e
    by (Some t) q e =
        let is : t.route ≡ route = cc e in
        ap Some (rw (← is) (sym (parts_stand target t q)))

pub missing_reads : (target : List ℕ) → IsText target → first table target ≡ None → None ≡ reading target
missing_reads target h e = by (reading target) (sym (table_reads target h) ∙ ap (option_map (λ r. r.value)) e)
  where
    by : (o : Option Target) → option_map (λ t. t.route) o ≡ None → None ≡ o
    by None e = refl
    by (Some t) e = cc e
