-- What a query on one table answers.
use Rattle.exam_sql.proofs.Words.{list_all, IsPermutation, IsPermutation-map, Row, Trees, map-map, Term, eval_all}
use Rattle.exam_sql.proofs.Words.{holds, IsAnswer, Has, one_table}
use Rattle.std.proofs.Common.{◌≡◌, ℕ, List, [], ◌∷◌, ◌++◌, map, filter, flat_map, Bool, true, false, cond, refl, sym}
use Rattle.std.proofs.Common.{ap, ap₂, subst, ◌∙◌}
use Rattle.std.proofs.lemmas.List.Sorted.{Contains-permutation}
use Rattle.sqlite_value.specs.declared.keys.Key.{Key}
use Rattle.sqlite_sql.specs.Query.{Output, output}
use Rattle.sqlite_rules.proofs.ListLemmas.{has_contained, contains_had}

pub chosen : {X Y : Type 0} (p : X → Bool) (f : X → Y) (xs : List X)
    → flat_map (λ x. cond (p x) (f x ∷ []) []) xs ≡ map f (filter p xs)
chosen p f [] = refl
chosen p f (x ∷ xs) =
    elim (p x) as (λ b. cond b (f x ∷ []) []
    ++ flat_map (λ x. cond (p x) (f x ∷ []) []) xs ≡ map f (cond b (x ∷ filter p xs) (filter p xs)))
    [ true ↦ ap (λ l. f x ∷ l) (chosen p f xs) | false ↦ chosen p f xs ]

-- the rows are those that pass, as they are shown
pub picks : (tree : ℕ) (terms project : List Term) (order : List (Term × Key)) (db : Trees) (params : Row)
    (rows : List Row) → IsAnswer (one_table tree terms project order) db params rows
    → IsPermutation (map (λ r. eval_all project (params ∷ r ∷ []))
    (filter (λ r. list_all (holds (params ∷ r ∷ [])) terms) (db tree))) rows
picks tree terms project order db params rows a =
    let q = one_table tree terms project order in
    let passed = filter (λ r. list_all (holds (params ∷ r ∷ [])) terms) (db tree) in
    let staged : a.staged ≡ map (λ (r : Row). params ∷ r ∷ []) passed =
    a.grouped ∙ chosen _ (λ r. params ∷ r ∷ []) (db tree) in
    let kept : a.kept ≡ map (λ (r : Row). output q (params ∷ r ∷ [])) passed =
    a.distinct ∙ ap (map (output q)) staged ∙ map-map (output q) (λ r. params ∷ r ∷ []) passed in
    let all : IsPermutation (map (λ (o : Output). o.1) a.kept) (map (λ (o : Output). o.1) a.ordered) =
    IsPermutation-map (λ o. o.1) a.kept a.ordered a.same in
    let front : map (λ (o : Output). o.1) a.kept ≡ map (λ r. eval_all project (params ∷ r ∷ [])) passed =
    ap (map (λ (o : Output). o.1)) kept ∙ map-map (λ (o : Output). o.1) (λ r. output q (params ∷ r ∷ [])) passed in
    subst (λ l. IsPermutation l rows) front (subst (IsPermutation (map (λ (o : Output). o.1) a.kept)) (sym a.shown) all)

pub map_same : {X Y : Type 0} (f g : X → Y) → ((x : X) → f x ≡ g x) → (xs : List X) → map f xs ≡ map g xs
map_same f g each [] = refl
map_same f g each (x ∷ xs) = ap₂ (λ y ys. y ∷ ys) (each x) (map_same f g each xs)

pub has_permuted : {X : Type 0} (xs ys : List X) (x : X) → IsPermutation xs ys → Has xs x → Has ys x
has_permuted xs ys x same h = has_contained ys x (Contains-permutation xs ys x same (contains_had xs x h))
