-- The appeals of a session, counted one by one.
use Rattle.exam_tables.proofs.Words.{AllByRecursion, deref_pair, Appeal, Code, same_code, KeyedAppeal}
use Rattle.std.proofs.Common.{◌≡◌, ℕ, ◌+◌, ◌≤◌, ◌∷◌, [], List, Bool, true, false, cond, if◌then◌else◌, length, Bor, ap}
use Rattle.std.proofs.Common.{arith}
use Rattle.exam_tables.specs.Rows.{IsAppeal}
use Rattle.exam_tables.specs.Appeals.{appeals_in}

abbrev pub HaveForms : List KeyedAppeal → Type 0
HaveForms = AllByRecursion (λ (a : KeyedAppeal). IsAppeal a.0 a.1)

-- with those that are left they are all
pub record HasCounted (s : Code) (all : List KeyedAppeal) (count : ℕ) (left : List KeyedAppeal) : Type 0 where
  pub many : count + length (appeals_in left s) ≡ length (appeals_in all s)
  pub forms : HaveForms left → HaveForms all

length_cond : (b : Bool) (a : KeyedAppeal) (rest : List KeyedAppeal)
    → length (cond b (a ∷ rest) rest) ≡ (if b then 1 else 0) + length rest
length_cond true a rest = omega arith
length_cond false a rest = omega arith

few : (s : Code) (appeals : List KeyedAppeal) → length (appeals_in appeals s) ≤ length appeals
few s [] = omega arith
few s (a ∷ rest) = at (same_code a.1.session s) (few s rest)
  where
    at : (b : Bool) → length (appeals_in rest s) ≤ length rest
        → length (cond b (a ∷ appeals_in rest s) (appeals_in rest s)) ≤ length (a ∷ rest)
    at true h = omega (arith, h)
    at false h = omega (arith, h)

module _ (s : Code) (all : List KeyedAppeal) (count one : ℕ) (old new : List KeyedAppeal)
    (x : Bor (ℕ × Code) × Bor Appeal) (counted : HasCounted s all count old) (is : old ≡ deref_pair x ∷ new)
    (one_is : one ≡ (if same_code x.1.now.session s then 1 else 0)) where
  sum_is : (count + one) + length (appeals_in new s) ≡ length (appeals_in all s)
  sum_is =
      let many = counted.many in
      let here : length (appeals_in old s) ≡ length (appeals_in (deref_pair x ∷ new) s) =
      ap (λ (l : List KeyedAppeal). length (appeals_in l s)) is in
      let parts = length_cond (same_code x.1.now.session s) (deref_pair x) (appeals_in new s) in
      omega (arith, many, here, parts, one_is)

  -- no more than there are
  pub still_fits : count + one ≤ length all
  still_fits = let sum = sum_is in let bound = few s all in omega (arith, sum, bound)
