-- Rows are equal exactly if `same_row` says so, and exactly if `==` does.
use Rattle.std.proofs.Common.{◌≡◌, ◌∙◌, Bool, true, false, refl, sym, ap, ℕ, List}
use Rattle.std.specs.Prelude.{nat_eq, ◌&&◌}
use Rattle.std.specs.Cmp.{booleans_Decides}
use Rattle.std.specs.Cmp.Lexicographic.{pointwise}
use Rattle.std.proofs.Math.Bool.{beq}
use Rattle.std.proofs.lemmas.Bool.Decides.{Decides-eqb}
use Rattle.std.proofs.lemmas.Slice.Eq.{slice_eq-Decides}
use Rattle.exam_rules.specs.declared.rows.Session.{Session}
use Rattle.exam_rules.specs.declared.rows.Paper.{Paper}
use Rattle.exam_rules.specs.declared.rows.Hall.{Hall}
use Rattle.exam_rules.specs.declared.rows.Opening.{Opening}
use Rattle.exam_rules.specs.declared.rows.Candidate.{Candidate}
use Rattle.exam_rules.specs.declared.rows.Arrangement.{Arrangement}
use Rattle.exam_types.specs.Features.{Features, same_features}
use Rattle.exam_types.proofs.FeatureFacts.{same_features-is}
use Rattle.exam_commands.specs.declared.import_row.Row.{Row}
use Rattle.exam_commands.specs.declared.import_row.Row.TheVariants as row
use Rattle.exam_commands.specs.contracts.import_row.RowPartialEq.TheImpl as rows
use Rattle.exam_commands.specs.contracts.import_row.RowEq.TheImpl.Laws as laws
use Rattle.exam_commands.specs.Imports.{same_row}
use Rattle.std.proofs.lemmas.Bool.{and_parts}

pub never : {A : Type 0} → false ≡ true → A
never e = cc e

pub numbers : (a b : ℕ) → nat_eq a b ≡ true → a ≡ b
numbers a b = (Decides-eqb a b).0

pub texts : (a b : List ℕ) → pointwise nat_eq a b ≡ true → a ≡ b
texts a b = (slice_eq-Decides Decides-eqb a b (pointwise nat_eq a b) refl).0

flags : (a b : Bool) → beq a b ≡ true → a ≡ b
flags a b = (booleans_Decides a b).0

sessions : (a b : List ℕ) (x y : Session)
    → (pointwise nat_eq a b && (nat_eq x.day y.day && nat_eq x.start y.start)) ≡ true
    → row.OfSession a x ≡ row.OfSession b y
sessions a b x y e =
    let r = (and_parts _ _ e).1 in
    ap (λ k. row.OfSession k x) (texts a b (and_parts _ _ e).0)
    ∙ ap (λ (d : ℕ). row.OfSession b (record { day = d; start = x.start })) (numbers _ _ (and_parts _ _ r).0)
    ∙ ap (λ (t : ℕ). row.OfSession b (record { day = y.day; start = t })) (numbers _ _ (and_parts _ _ r).1)

papers : (a b : List ℕ) (x y : Paper)
    → (pointwise nat_eq a b
    && (pointwise nat_eq x.title y.title
    && (pointwise nat_eq x.session y.session && (nat_eq x.minutes y.minutes && same_features x.required y.required))))
    ≡ true
    → row.OfPaper a x ≡ row.OfPaper b y
papers a b x y e =
    let r = (and_parts _ _ e).1 in
    let r1 = (and_parts _ _ r).1 in
    let r2 = (and_parts _ _ r1).1 in
    ap (λ k. row.OfPaper k x) (texts a b (and_parts _ _ e).0)
    ∙ ap (λ (t : List ℕ). row.OfPaper b
    (record { title = t; session = x.session; minutes = x.minutes; required = x.required }))
    (texts _ _ (and_parts _ _ r).0)
    ∙ ap (λ (s : List ℕ). row.OfPaper b
    (record { title = y.title; session = s; minutes = x.minutes; required = x.required }))
    (texts _ _ (and_parts _ _ r1).0)
    ∙ ap (λ (m : ℕ). row.OfPaper b
    (record { title = y.title; session = y.session; minutes = m; required = x.required }))
    (numbers _ _ (and_parts _ _ r2).0)
    ∙ ap (λ (f : Features). row.OfPaper b
    (record { title = y.title; session = y.session; minutes = y.minutes; required = f }))
    (same_features-is _ _ (and_parts _ _ r2).1)

halls : (a b : List ℕ) (x y : Hall)
    → (pointwise nat_eq a b && (pointwise nat_eq x.title y.title && same_features x.features y.features)) ≡ true
    → row.OfHall a x ≡ row.OfHall b y
halls a b x y e =
    let r = (and_parts _ _ e).1 in
    ap (λ k. row.OfHall k x) (texts a b (and_parts _ _ e).0)
    ∙ ap (λ (t : List ℕ). row.OfHall b (record { title = t; features = x.features })) (texts _ _ (and_parts _ _ r).0)
    ∙ ap (λ (f : Features). row.OfHall b (record { title = y.title; features = f }))
    (same_features-is _ _ (and_parts _ _ r).1)

openings : (a b s t : List ℕ) (x y : Opening)
    → (pointwise nat_eq a b
    && (pointwise nat_eq s t && (nat_eq x.desks y.desks && (nat_eq x.until y.until && beq x.reserved y.reserved))))
    ≡ true
    → row.OfOpening a s x ≡ row.OfOpening b t y
openings a b s t x y e =
    let r = (and_parts _ _ e).1 in
    let r1 = (and_parts _ _ r).1 in
    let r2 = (and_parts _ _ r1).1 in
    ap (λ k. row.OfOpening k s x) (texts a b (and_parts _ _ e).0)
    ∙ ap (λ k. row.OfOpening b k x) (texts s t (and_parts _ _ r).0)
    ∙ ap (λ (d : ℕ). row.OfOpening b t (record { desks = d; until = x.until; reserved = x.reserved }))
    (numbers _ _ (and_parts _ _ r1).0)
    ∙ ap (λ (u : ℕ). row.OfOpening b t (record { desks = y.desks; until = u; reserved = x.reserved }))
    (numbers _ _ (and_parts _ _ r2).0)
    ∙ ap (λ (f : Bool). row.OfOpening b t (record { desks = y.desks; until = y.until; reserved = f }))
    (flags _ _ (and_parts _ _ r2).1)

candidates : (a b : ℕ) (x y : Candidate)
    → (nat_eq a b && (pointwise nat_eq x.name y.name && pointwise nat_eq x.code y.code)) ≡ true
    → row.OfCandidate a x ≡ row.OfCandidate b y
candidates a b x y e =
    let r = (and_parts _ _ e).1 in
    ap (λ k. row.OfCandidate k x) (numbers a b (and_parts _ _ e).0)
    ∙ ap (λ (n : List ℕ). row.OfCandidate b (record { name = n; code = x.code })) (texts _ _ (and_parts _ _ r).0)
    ∙ ap (λ (c : List ℕ). row.OfCandidate b (record { name = y.name; code = c })) (texts _ _ (and_parts _ _ r).1)

entries : (a b : ℕ) (s t : List ℕ) → (nat_eq a b && pointwise nat_eq s t) ≡ true → row.OfEntry a s ≡ row.OfEntry b t
entries a b s t e = ap (λ k. row.OfEntry k s) (numbers a b (and_parts _ _ e).0)
    ∙ ap (row.OfEntry b) (texts s t (and_parts _ _ e).1)

arrangements : (a b : ℕ) (x y : Arrangement)
    → (nat_eq a b && (same_features x.needs y.needs && nat_eq x.extra y.extra)) ≡ true
    → row.OfArrangement a x ≡ row.OfArrangement b y
arrangements a b x y e =
    let r = (and_parts _ _ e).1 in
    ap (λ k. row.OfArrangement k x) (numbers a b (and_parts _ _ e).0)
    ∙ ap (λ (f : Features). row.OfArrangement b (record { needs = f; extra = x.extra }))
    (same_features-is _ _ (and_parts _ _ r).0)
    ∙ ap (λ (p : ℕ). row.OfArrangement b (record { needs = y.needs; extra = p })) (numbers _ _ (and_parts _ _ r).1)

pub row_exact : (a b : Row) → same_row a b ≡ true → a ≡ b
row_exact (row.OfSession a x) (row.OfSession b y) e = sessions a b x y e
row_exact (row.OfPaper a x) (row.OfPaper b y) e = papers a b x y e
row_exact (row.OfHall a x) (row.OfHall b y) e = halls a b x y e
row_exact (row.OfOpening a s x) (row.OfOpening b t y) e = openings a b s t x y e
row_exact (row.OfCandidate a x) (row.OfCandidate b y) e = candidates a b x y e
row_exact (row.OfEntry a s) (row.OfEntry b t) e = entries a b s t e
row_exact (row.OfArrangement a x) (row.OfArrangement b y) e = arrangements a b x y e
row_exact a b e = never e

-- `==` of rows
pub eq_same : (a b : Row) → rows.ghosts.eq a b ≡ same_row a b
eq_same (row.OfSession a x) (row.OfSession b y) = refl
eq_same (row.OfPaper a x) (row.OfPaper b y) = refl
eq_same (row.OfHall a x) (row.OfHall b y) = refl
eq_same (row.OfOpening a s x) (row.OfOpening b t y) = refl
eq_same (row.OfCandidate a x) (row.OfCandidate b y) = refl
eq_same (row.OfEntry a s) (row.OfEntry b t) = refl
eq_same (row.OfArrangement a x) (row.OfArrangement b y) = refl
eq_same a b = refl

pub row_refl : (a : Row) → same_row a a ≡ true
row_refl a = sym (eq_same a a) ∙ laws.laws-law.refl a
