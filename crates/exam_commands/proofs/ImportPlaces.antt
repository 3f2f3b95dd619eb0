-- The places of the first rows with each key.
use Rattle.std.proofs.Common.{◌≡◌, ◌+◌, ◌-◌, ◌≤◌, ◌<◌, Bool, true, false, refl, ℕ, List, [], ◌∷◌, ◌++◌, length, Some}
use Rattle.std.proofs.Common.{None, cond, arith, get_or, add-one}
use Rattle.std.specs.Option.{option_or}
use Rattle.std.specs.List.{find, position_from}

pub place-append : {X : Type 0} (t : X → Bool) (i : ℕ) (xs : List X) (y : X)
    → position_from t i (xs ++ y ∷ []) ≡ option_or (position_from t i xs) (cond (t y) (Some (i + length xs)) None)
place-append t i [] y = let e : i + 0 ≡ i = omega arith in rw e refl
place-append {X} t i (x ∷ xs) y = step (t x) (place-append t (i + 1) xs y)
  where
    step : (b : Bool) → position_from t (i + 1) (xs ++ y ∷ [])
        ≡ option_or (position_from t (i + 1) xs) (cond (t y) (Some (i + 1 + length xs)) None)
        → cond b (Some i) (position_from t (i + 1) (xs ++ y ∷ []))
        ≡ option_or (cond b (Some i) (position_from t (i + 1) xs)) (cond (t y) (Some (i + length (x ∷ xs))) None)
    step true h = refl
    step false h = let e : i + length (x ∷ xs) ≡ i + 1 + length xs = omega arith in rw e h

-- the element at the first place
pub record IsFirstAt {X : Type 0} (t : X → Bool) (i : ℕ) (xs : List X) (j : ℕ) : Type 0 where
  pub low : i ≤ j
  pub high : j < i + length xs
  pub found : (d : X) → find t xs ≡ Some (get_or xs (j - i) d)

pub first-at : {X : Type 0} (t : X → Bool) (i : ℕ) (xs : List X) (j : ℕ) → position_from t i xs ≡ Some j
    → IsFirstAt t i xs j
first-at t i [] j e = cc e
first-at {X} t i (x ∷ xs) j e = step (t x) refl (first-at t (i + 1) xs j) e
  where
    step : (b : Bool) → t x ≡ b → (position_from t (i + 1) xs ≡ Some j → IsFirstAt t (i + 1) xs j)
        → cond b (Some i) (position_from t (i + 1) xs) ≡ Some j → IsFirstAt t i (x ∷ xs) j
    step true h more e =
        let same : j ≡ i = cc in
        let zero_up : j - i ≡ 0 = omega arith in
        record { low = omega arith; high = omega arith; found = λ d. rw (zero_up, h) refl }
    step false h more e =
        let rest = more e in
        let up : j - i ≡ (j - (i + 1)) + 1 = let l = rest.low in omega arith in
        record {
          low = let l = rest.low in omega arith;
          high = let l = rest.high in omega arith;
          found = λ d. rw (up, add-one, h) (rest.found d);
        }

pub first-none : {X : Type 0} (t : X → Bool) (i : ℕ) (xs : List X) → position_from t i xs ≡ None → find t xs ≡ None
first-none t i [] e = refl
first-none {X} t i (x ∷ xs) e = step (t x) refl (first-none t (i + 1) xs) e
  where
    step : (b : Bool) → t x ≡ b → (position_from t (i + 1) xs ≡ None → find t xs ≡ None)
        → cond b (Some i) (position_from t (i + 1) xs) ≡ None → find t (x ∷ xs) ≡ None
    step true h more e = cc e
    step false h more e = rw h (more e)

pub place-none : {X : Type 0} (t : X → Bool) (i : ℕ) (xs : List X) → find t xs ≡ None → position_from t i xs ≡ None
place-none t i [] e = refl
place-none {X} t i (x ∷ xs) e = step (t x) (place-none t (i + 1) xs) e
  where
    step : (b : Bool) → (find t xs ≡ None → position_from t (i + 1) xs ≡ None) → cond b (Some x) (find t xs) ≡ None
        → cond b (Some i) (position_from t (i + 1) xs) ≡ None
    step true more e = cc e
    step false more e = more e
