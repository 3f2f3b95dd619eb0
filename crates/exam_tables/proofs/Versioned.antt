-- The one row of the version, as a query shows it.
use Rattle.exam_tables.proofs.Words.{IsPermutation, IsPermutation-sym, length_permutation, Null, Row}
use Rattle.std.proofs.Common.{◌≡◌, ℕ, zero, suc, List, [], ◌∷◌, map, refl, ap, subst, arith, lit<}
use Rattle.std.specs.List.{All}
use Rattle.std.proofs.lemmas.List.Sorted.{All-permutation}
use Rattle.exam_tables.specs.Versions.{version_row}

-- a list of one in another order is that list
one_from : {X : Type 0} (x : X) (ys : List X) → IsPermutation (x ∷ []) ys → ys ≡ x ∷ []
one_from x [] same = absurd (omega (arith, length_permutation (x ∷ []) [] same))
one_from {X} x (y ∷ []) same = ap (λ z. z ∷ []) (All-permutation (λ z. z ≡ x) (x ∷ []) (y ∷ []) same only 0 x (lit< tt))
  where
    only : All (λ z. z ≡ x) (x ∷ [])
    only zero d below = refl
    only (suc k) d below = absurd (omega arith)
one_from x (y ∷ z ∷ ys) same = absurd (omega (arith, length_permutation (x ∷ []) (y ∷ z ∷ ys) same))

-- the table holds that row alone where a query shows it alone
pub version_held : (v : ℕ) (meant rows : List Row) → IsPermutation meant (map (λ row. Null ∷ row) rows)
    → rows ≡ version_row v ∷ [] → meant ≡ (Null ∷ version_row v) ∷ []
version_held v meant rows same is =
    one_from (Null ∷ version_row v) meant
    (IsPermutation-sym _ _ (subst (λ l. IsPermutation meant (map (λ row. Null ∷ row) l)) is same))

-- and a query shows it alone where the table holds it alone
pub version_shown : (v : ℕ) (meant rows : List Row) → IsPermutation meant (map (λ row. Null ∷ row) rows)
    → meant ≡ (Null ∷ version_row v) ∷ [] → rows ≡ version_row v ∷ []
version_shown v meant rows same is =
    only rows (one_from (Null ∷ version_row v) _ (subst (λ l. IsPermutation l (map (λ row. Null ∷ row) rows)) is same))
  where
    only : (rows : List Row) → map (λ row. Null ∷ row) rows ≡ (Null ∷ version_row v) ∷ [] → rows ≡ version_row v ∷ []
    only [] e = absurd cc
    only (row ∷ []) e = cc
    only (row ∷ next ∷ more) e = absurd cc
