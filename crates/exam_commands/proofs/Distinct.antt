-- Keys that all differ, one key at a time.
use Rattle.std.proofs.Common.{◌≡◌, ◌||◌, Bool, true, false, cond, List, [], ◌∷◌, ◌++◌, refl, ap, sym, ◌∙◌}
use Rattle.std.specs.List.{list_any, IsDistinct, AllByRecursion}
use Rattle.std.specs.Cmp.{IsTotalOrder}
use Rattle.std.specs.declared.cmp.Ordering.{Ordering}
use Rattle.std.specs.Ordering.{eq_by_cmp}
use Rattle.std.specs.BTreeMap.{is_at}
use Rattle.std.proofs.lemmas.List.Folds.{list_any-append}
use Rattle.std.proofs.lemmas.Map.Keys.{IsDistinct-head, IsDistinct-tail}
use Rattle.exam_commands.proofs.KeyedRows.{flips}

pub distinct_none : {K : Type 0} (e : K → K → Bool) → IsDistinct e []
unfolding IsDistinct
distinct_none e = tt

-- a key that comes later is equal to none before it
pub apart_before : {K : Type 0} (e : K → K → Bool) → ((x y : K) → e x y ≡ e y x) → (xs rest : List K) (y : K)
    → IsDistinct e (xs ++ y ∷ rest) → list_any (e y) xs ≡ false
apart_before e flips [] rest y distinct = refl
apart_before {K} e flips (x ∷ xs) rest y distinct =
    ap (λ b. b || list_any (e y) xs) (flips y x ∙ at xs (IsDistinct-head e x (xs ++ y ∷ rest) distinct))
    ∙ apart_before e flips xs rest y (IsDistinct-tail e x (xs ++ y ∷ rest) distinct)
  where
    at : (zs : List K) → AllByRecursion (λ z. e x z ≡ false) (zs ++ y ∷ rest) → e x y ≡ false
    at [] a = a.0
    at (z ∷ zs) a = at zs a.1

module _ {K : Type 0} (cmp : K → K → Ordering) (o : IsTotalOrder cmp) where
  -- one more key is seen
  pub seen_more : (xs : List K) (y k : K) (b : Bool) → b ≡ cond (is_at (cmp y) k) true (list_any (eq_by_cmp cmp k) xs)
      → b ≡ list_any (eq_by_cmp cmp k) (xs ++ y ∷ [])
  seen_more xs y k b e =
      e ∙ inner (is_at (cmp y) k) (list_any (eq_by_cmp cmp k) xs)
      ∙ ap (λ t. list_any (eq_by_cmp cmp k) xs || (t || false)) (flips cmp o y k)
      ∙ sym (list_any-append (eq_by_cmp cmp k) xs (y ∷ []))
    where
      inner : (s t : Bool) → cond s true t ≡ (t || (s || false))
      inner true true = refl
      inner true false = refl
      inner false true = refl
      inner false false = refl
