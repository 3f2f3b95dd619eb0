-- Places in a list.
use Rattle.exam_rules.proofs.Words.{Less, nat_cmp, All, AllByRecursion, IsStrictlySortedBy, nat_cmp_is}
use Rattle.exam_rules.proofs.Words.{All-from_recursion, Code, Relations, has_live_entry, barred_halls, Room, positions}
use Rattle.exam_rules.proofs.Words.{fits, fitting_places, sitting_terms, is_suiting, opened_room}
use Rattle.std.proofs.Common.{◌≡◌, ℕ, ◌+◌, ◌<◌, ◌≤◌, Bool, true, false, cond, ◌&&◌, List, [], ◌∷◌, length, map, Option}
use Rattle.std.proofs.Common.{refl, sym, ap, ◌∙◌, arith}
use Rattle.std.proofs.lemmas.Bool.{and_left}
use Rattle.exam_rules.specs.Seatings.{with_rooms}

module _ {A : Type 0} where
  pub positions_same : (p q : A → Bool) (n : ℕ) (xs : List A) → ((x : A) → p x ≡ q x)
      → positions p n xs ≡ positions q n xs
  positions_same p q n [] h = refl
  positions_same p q n (x ∷ xs) h = inner (q x) (h x) (positions_same p q (n + 1) xs h)
    where
      inner : (b : Bool) → p x ≡ b → positions p (n + 1) xs ≡ positions q (n + 1) xs
          → cond (p x) (n ∷ positions p (n + 1) xs) (positions p (n + 1) xs)
          ≡ cond b (n ∷ positions q (n + 1) xs) (positions q (n + 1) xs)
      inner true e rest = rw e (ap (λ t. n ∷ t) rest)
      inner false e rest = rw e rest

  pub positions_none : (p : A → Bool) (n : ℕ) (xs : List A) → ((x : A) → p x ≡ false) → positions p n xs ≡ []
  positions_none p n [] h = refl
  positions_none p n (x ∷ xs) h = rw (h x) (positions_none p (n + 1) xs h)

pub positions-map : {A B : Type 0} (p : B → Bool) (f : A → B) (n : ℕ) (xs : List A)
    → positions p n (map f xs) ≡ positions (λ x. p (f x)) n xs
positions-map p f n [] = refl
positions-map p f n (x ∷ xs) = inner (p (f x)) (positions-map p f (n + 1) xs)
  where
    inner : (b : Bool) → positions p (n + 1) (map f xs) ≡ positions (λ x. p (f x)) (n + 1) xs
        → cond b (n ∷ positions p (n + 1) (map f xs)) (positions p (n + 1) (map f xs))
        ≡ cond b (n ∷ positions (λ x. p (f x)) (n + 1) xs) (positions (λ x. p (f x)) (n + 1) xs)
    inner true rest = ap (λ t. n ∷ t) rest
    inner false rest = rest

and_true : (x y : Bool) → x ≡ true → y ≡ (x && y)
and_true x y h = rw h refl

module _ (r : Relations) (s : Code) (c : ℕ) where
  -- no hall fits one who is no member
  pub fits_nowhere : has_live_entry r s c ≡ false → (halls : List Code) → [] ≡ fitting_places r s c halls
  fits_nowhere outside halls =
      sym (positions_none (fits r s c) 0 halls
      (λ h. and_left (has_live_entry r s c)
      (is_suiting (sitting_terms r s c) (barred_halls r s c) (h, opened_room r s h)) outside))

  -- what suits a member in the rooms fits them
  pub fits_by_rooms : has_live_entry r s c ≡ true → (rows : List (Code × Option Room))
      → rows ≡ with_rooms r s (map (λ (row : Code × Option Room). row.0) rows)
      → positions (is_suiting (sitting_terms r s c) (barred_halls r s c)) 0 rows
      ≡ fitting_places r s c (map (λ (row : Code × Option Room). row.0) rows)
  fits_by_rooms inside rows rooms =
      ap (positions (is_suiting (sitting_terms r s c) (barred_halls r s c)) 0) rooms
      ∙ positions-map (is_suiting (sitting_terms r s c) (barred_halls r s c)) (λ h. (h, opened_room r s h)) 0
      (map (λ (row : Code × Option Room). row.0) rows)
      ∙ positions_same _ (fits r s c) 0 (map (λ (row : Code × Option Room). row.0) rows)
      (λ h. and_true (has_live_entry r s c)
      (is_suiting (sitting_terms r s c) (barred_halls r s c) (h, opened_room r s h)) inside)

map-with_rooms : (r : Relations) (s : Code) (halls : List Code)
    → map (λ (row : Code × Option Room). row.0) (with_rooms r s halls) ≡ halls
map-with_rooms r s [] = refl
map-with_rooms r s (h ∷ halls) = ap (λ t. h ∷ t) (map-with_rooms r s halls)

-- rows with rooms name their halls
pub rooms_named : (r : Relations) (s : Code) (halls : List Code) (rows : List (Code × Option Room))
    → rows ≡ with_rooms r s halls → map (λ (row : Code × Option Room). row.0) rows ≡ halls
rooms_named r s halls rows rooms = ap (map (λ (row : Code × Option Room). row.0)) rooms ∙ map-with_rooms r s halls

module _ {A : Type 0} (p : A → Bool) where
  above : (m n : ℕ) (xs : List A) → m < n → AllByRecursion (λ i. nat_cmp m i ≡ Less) (positions p n xs)
  above m n [] h = tt
  above m n (x ∷ xs) h = inner (p x) (above m (n + 1) xs (omega arith))
    where
      inner : (b : Bool) → AllByRecursion (λ i. nat_cmp m i ≡ Less) (positions p (n + 1) xs)
          → AllByRecursion (λ i. nat_cmp m i ≡ Less) (cond b (n ∷ positions p (n + 1) xs) (positions p (n + 1) xs))
      inner true rest = (sym (nat_cmp_is m n Less h), rest)
      inner false rest = rest

  pub positions_rise : (n : ℕ) (xs : List A) → IsStrictlySortedBy nat_cmp (positions p n xs)
  unfolding IsStrictlySortedBy
  positions_rise n [] = tt
  positions_rise n (x ∷ xs) = inner (p x) (positions_rise (n + 1) xs)
    where
      inner : (b : Bool) → IsStrictlySortedBy nat_cmp (positions p (n + 1) xs)
          → IsStrictlySortedBy nat_cmp (cond b (n ∷ positions p (n + 1) xs) (positions p (n + 1) xs))
      inner true rest = (above n (n + 1) xs (omega arith), rest)
      inner false rest = rest

  pub within : (n bound : ℕ) (xs : List A) → n + length xs ≤ bound → AllByRecursion (λ i. i < bound) (positions p n xs)
  within n bound [] h = tt
  within n bound (x ∷ xs) h = inner (p x) (within (n + 1) bound xs (omega arith))
    where
      inner : (b : Bool) → AllByRecursion (λ i. i < bound) (positions p (n + 1) xs)
          → AllByRecursion (λ i. i < bound) (cond b (n ∷ positions p (n + 1) xs) (positions p (n + 1) xs))
      inner true rest = (omega arith, rest)
      inner false rest = rest

  pub positions_exist : (xs : List A) → All (λ i. i < length xs) (positions p 0 xs)
  positions_exist xs =
      All-from_recursion (λ i. i < length xs) (positions p 0 xs) (within 0 (length xs) xs (omega arith))
