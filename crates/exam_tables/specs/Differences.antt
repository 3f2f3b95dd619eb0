-- What turns one table into another: the entries to put, and the keys to delete.
use Rattle.std.specs.Prelude.{◌≡◌, ◌&&◌, ◌||◌, Bool, true, false, not, List, [], ◌∷◌, ◌++◌, IsPermutation}
use Rattle.std.specs.declared.cmp.Ordering.{Ordering}
use Rattle.std.specs.declared.cmp.Ordering.TheVariants.{Less, Equal, Greater}
use Rattle.std.specs.List.{AllByRecursion, filter, list_any}
use Rattle.std.specs.Map.{keys_of}
use Rattle.std.specs.Ordering.{is_eq}
use Rattle.exam_rules.specs.Orders.{KeysRise}

-- How the first key of one table compares with that of another. An empty table compares as greater.
abbrev pub first_cmp : {K X : Type 0} → (K → K → Ordering) → List (K × X) → List (K × X) → Ordering
first_cmp cmp [] new = Greater
first_cmp cmp (e ∷ old) [] = Less
first_cmp cmp (e ∷ old) (n ∷ new) = cmp e.0 n.0

-- the key is one of these
abbrev pub is_one_of : {K : Type 0} → (K → K → Ordering) → List K → K → Bool
is_one_of cmp keys k = list_any (λ j. is_eq (cmp k j)) keys

module _ {K X : Type 0} (cmp : K → K → Ordering) where
  -- the table has this key
  abbrev pub has_key : List (K × X) → K → Bool
  has_key table k = list_any (λ e. is_eq (cmp k e.0)) table

  -- the table has this key with this value
  abbrev pub has_entry : (X → X → Bool) → List (K × X) → K × X → Bool
  has_entry same table n = list_any (λ e. is_eq (cmp n.0 e.0) && same e.1 n.1) table

  -- the entries that the new table has and the old one has not
  abbrev pub to_put : (X → X → Bool) → List (K × X) → List (K × X) → List (K × X)
  to_put same old new = filter (λ n. not (has_entry same old n)) new

  -- the keys that the old table has and the new one has not
  abbrev pub to_delete : List (K × X) → List (K × X) → List K
  to_delete old new = filter (λ k. not (has_key new k)) (keys_of old)

-- exactly these entries must be put and these keys deleted to make the new table from the old one
pub record Differs {K X : Type 0} (cmp : K → K → Ordering) (same : X → X → Bool)
    (old new puts : List (K × X)) (deletes : List K) : Type 0 where
  pub puts_are : puts ≡ to_put cmp same old new
  pub deletes_are : deletes ≡ to_delete cmp old new

-- keys that compare as equal are the same, and so are values
pub record AreExact {K X : Type 0} (cmp : K → K → Ordering) (same : X → X → Bool) : Type 0 where
  pub keys : (j k : K) → cmp j k ≡ Equal → j ≡ k
  pub values : (x y : X) → same x y ≡ true → x ≡ y

-- these puts and deletes turn the old table into the new one
pub record Turns {K X : Type 0} (cmp : K → K → Ordering) (old new puts : List (K × X))
    (deletes : List K) : Type 0 where
  -- no key is put twice
  pub rises : KeysRise cmp puts
  -- no key that is put is deleted
  pub spared : AllByRecursion (λ n. is_one_of cmp deletes n.0 ≡ false) puts
  -- what is put and what stays are together the new table
  pub made :
      IsPermutation (puts ++ filter (λ e. not (has_key cmp puts e.0 || is_one_of cmp deletes e.0)) old) new
