-- What a plan by indices leaves when it is written seat by seat.
use Rattle.exam_rules.proofs.Words.{option_map, option_and_then, option_or, Ordering, Less, Equal, Greater}
use Rattle.exam_rules.proofs.Words.{ordering_then, nat_cmp, is_eq, is_at, texts_ties, le-ltb, lt-ltb, exact_unsigned_eq}
use Rattle.exam_rules.proofs.Words.{Code, Relations, code_cmp, same_code, members, ListsRise, number_at, hall_at}
use Rattle.exam_rules.proofs.Words.{index_of, named_plan}
use Rattle.std.proofs.Common.{◌≡◌, ℕ, ◌+◌, ◌<◌, ◌≤◌, ◌&&◌, Bool, true, false, cond, List, length, nat_eq, nat_lt}
use Rattle.std.proofs.Common.{Option, None, Some, refl, ap, sym, ◌∙◌, arith, eq-eqb}
use Rattle.std.specs.Cmp.{unsigned_ties}
use Rattle.exam_plan.specs.Problems.{plan_at}
use Rattle.exam_rules.specs.Relations.{seat_cmp}
use Rattle.exam_rules.proofs.Naming.{renames, index_known, index_below}

pub then_eq : (a b : Ordering) → is_eq (ordering_then a b) ≡ (is_eq a && is_eq b)
then_eq Less b = refl
then_eq Equal b = refl
then_eq Greater b = refl

-- whether a seat's key is this one
pub seat_at : (s t : Code) (n c : ℕ) → is_at (seat_cmp (s, n)) (t, c) ≡ (same_code s t && nat_eq n c)
seat_at s t n c = then_eq (code_cmp s t) (nat_cmp n c) ∙ ap (λ x. x && is_eq (nat_cmp n c)) (sym (texts_ties s t))
    ∙ ap (λ y. same_code s t && y) (sym (unsigned_ties n c))

module _ (r : Relations) (s : Code) (plan : List (Option ℕ)) where
  -- if a member among the first i sits
  abbrev pub written : ℕ → ℕ → Option Code
  written i c = option_and_then (λ k. cond (nat_lt k i) (option_map (hall_at r s) (plan_at plan k)) None)
      (index_of r s c)

  pub written_all : (i : ℕ) → length (members r s) ≤ i → (c : ℕ) → written i c ≡ named_plan r s (plan_at plan) c
  written_all i past c = inner (index_of r s c) refl
    where
      inner : (o : Option ℕ) → index_of r s c ≡ o
          → option_and_then (λ k. cond (nat_lt k i) (option_map (hall_at r s) (plan_at plan k)) None) o
          ≡ option_and_then (λ k. option_map (hall_at r s) (plan_at plan k)) o
      inner None e = refl
      inner (Some k) e = let below : k < length (members r s) =
          index_below r s c k e in
          ap (λ t. cond t (option_map (hall_at r s) (plan_at plan k)) None) (lt-ltb k i (omega arith))

  -- the next member at their place, and everybody else as before
  pub written_more : ListsRise r s → (i : ℕ) → i < length (members r s) → (old new : Option Code) (c : ℕ)
      → old ≡ written i c
      → (nat_eq (number_at r s i) c ≡ true → old ≡ None → new ≡ option_map (hall_at r s) (plan_at plan i))
      → (nat_eq (number_at r s i) c ≡ false → new ≡ old) → new ≡ written (i + 1) c
  written_more up i below old new c is own other = inner (nat_eq (number_at r s i) c) refl
    where
      same : (k : ℕ) → (k ≡ i → ⊥) → nat_lt k i ≡ nat_lt k (i + 1)
      same k apart = grind arith

      is_index : nat_eq (number_at r s i) c ≡ true → index_of r s c ≡ Some i
      is_index e = ap (index_of r s) (sym (exact_unsigned_eq (number_at r s i) c e)) ∙ index_known r s up i below

      none_yet : index_of r s c ≡ Some i → old ≡ None
      none_yet e = is ∙ ap
          (option_and_then (λ k. cond (nat_lt k i) (option_map (hall_at r s) (plan_at plan k)) None)) e
          ∙ ap (λ t. cond t (option_map (hall_at r s) (plan_at plan i)) None) (le-ltb i i (omega arith))

      at : (o : Option ℕ) → index_of r s c ≡ o
          → written (i + 1) c ≡ option_and_then
          (λ k. cond (nat_lt k (i + 1)) (option_map (hall_at r s) (plan_at plan k)) None) o
      at o e = ap (option_and_then (λ k. cond (nat_lt k (i + 1)) (option_map (hall_at r s) (plan_at plan k)) None)) e

      -- the next member is this one
      taken : nat_eq (number_at r s i) c ≡ true → new ≡ written (i + 1) c
      taken e =
          own e (none_yet (is_index e))
          ∙ ap (λ t. cond t (option_map (hall_at r s) (plan_at plan i)) None) (sym (lt-ltb i (i + 1) (omega arith)))
          ∙ sym (at (Some i) (is_index e))

      -- the next member is another
      passed : (o : Option ℕ) → index_of r s c ≡ o → nat_eq (number_at r s i) c ≡ false
          → option_and_then (λ k. cond (nat_lt k i) (option_map (hall_at r s) (plan_at plan k)) None) o
          ≡ option_and_then (λ k. cond (nat_lt k (i + 1)) (option_map (hall_at r s) (plan_at plan k)) None) o
      passed None e away = refl
      passed (Some k) e away = ap (λ t. cond t (option_map (hall_at r s) (plan_at plan k)) None) (same k apart)
        where
          apart : k ≡ i → ⊥
          apart is = let named : number_at r s i ≡ c = ap (number_at r s) (sym is) ∙ ((renames r s up).named c k e).0 in
              let yes : nat_eq (number_at r s i) c ≡ true = eq-eqb (number_at r s i) c named in
              let both : true ≡ false = sym yes ∙ away in cc

      inner : (b : Bool) → nat_eq (number_at r s i) c ≡ b → new ≡ written (i + 1) c
      inner true e = taken e
      inner false e = other e ∙ is ∙ passed (index_of r s c) refl e

-- one step: the seat of this candidate in this session is taken, the others stay
pub seat_taken : (mine own : Bool) (x old new : Option Code) → new ≡ cond (mine && own) (option_or x old) old
    → mine ≡ true → own ≡ true → old ≡ None → new ≡ x
seat_taken mine own x old new step m o none =
    step ∙ ap (λ t. cond (t && own) (option_or x old) old) m ∙ ap (λ t. cond t (option_or x old) old) o
    ∙ ap (option_or x) none ∙ inner x
  where
    inner : (x : Option Code) → option_or x None ≡ x
    inner None = refl
    inner (Some h) = refl

pub seat_other : (mine own : Bool) (x old new : Option Code) → new ≡ cond (mine && own) (option_or x old) old
    → mine ≡ false → new ≡ old
seat_other mine own x old new step m = step ∙ ap (λ t. cond (t && own) (option_or x old) old) m

pub seat_of_other : (mine own : Bool) (x old new : Option Code) → new ≡ cond (mine && own) (option_or x old) old
    → mine ≡ true → own ≡ false → new ≡ old
seat_of_other mine own x old new step m o =
    step ∙ ap (λ t. cond (t && own) (option_or x old) old) m ∙ ap (λ t. cond t (option_or x old) old) o
