-- What a reader answers that makes a value of another.
use Rattle.exam_tables.proofs.Words.{Row, Null, Refusal, NoMemory, BadStore}
use Rattle.std.proofs.Common.{◌≡◌, ◌↔◌, ℕ, IsTrue, List, [], ◌∷◌, length, Option, Some, None, Ok, Err, ◌⊎◌, inl, inr}
use Rattle.std.proofs.Common.{refl, sym, ap, ◌∙◌, arith}
use Rattle.std.specs.Option.{ok_or}
use Rattle.sqlite_value.specs.declared.value.Value.{Value}
use Rattle.sqlite_value.specs.Order.{column}
use Rattle.sqlite_value.specs.declared.value.Value.TheVariants.{Text}
use Rattle.exam_types.specs.Texts.{is_reason}
use Rattle.exam_tables.specs.Reading.{Reads, MayRead}
use Rattle.exam_tables.specs.Stored.{whole, IsAnswer, text_or_null}

-- a number of some range, made of a whole number
pub narrowed : (IsOne : ℕ → Type 0) (shown : Value) (n : ℕ) (made : Option ℕ) → shown ≡ whole n
    → ((m : ℕ) → (made ≡ Some m) ↔ (IsOne m × (m ≡ n))) → Reads IsOne whole shown (ok_or made BadStore)
narrowed IsOne shown n (Some m) is exact = let it = (exact m).0 refl in (it.0, is ∙ ap whole (sym it.1))
narrowed IsOne shown n None is exact = (
  refl,
  λ m one same.
      let e : m ≡ n = cc in
      let there : None ≡ Some m = (exact m).1 (one, e) in
      absurd cc,
)

-- if a value was found, memory did not run out
pub found : {V P : Type 0} (value : V) → (Ok value ≡ Err NoMemory) ⊎ P → P
found value (inl lacks) = absurd cc
found value (inr reads) = reads

-- five columns are a row
pub five : (row : Row) (a b c d e : Value) → length row ≡ 5 → column row 0 ≡ a → column row 1 ≡ b → column row 2 ≡ c
    → column row 3 ≡ d → column row 4 ≡ e → row ≡ a ∷ b ∷ c ∷ d ∷ e ∷ []
five [] a b c d e len p q r s t = absurd (omega arith)
five (x ∷ []) a b c d e len p q r s t = absurd (omega arith)
five (x ∷ y ∷ []) a b c d e len p q r s t = absurd (omega arith)
five (x ∷ y ∷ z ∷ []) a b c d e len p q r s t = absurd (omega arith)
five (x ∷ y ∷ z ∷ u ∷ []) a b c d e len p q r s t = absurd (omega arith)
five (x ∷ y ∷ z ∷ u ∷ v ∷ []) a b c d e len p q r s t = cc
five (x ∷ y ∷ z ∷ u ∷ v ∷ w ∷ more) a b c d e len p q r s t = absurd (omega arith)

-- eleven columns are a row
pub eleven : (row : Row) (a b c d e f g h i j k : Value) → length row ≡ 11 → column row 0 ≡ a → column row 1 ≡ b
    → column row 2 ≡ c → column row 3 ∷ column row 4 ∷ column row 5 ∷ column row 6 ∷ [] ≡ d ∷ e ∷ f ∷ g ∷ []
    → column row 7 ≡ h → column row 8 ∷ column row 9 ∷ [] ≡ i ∷ j ∷ [] → column row 10 ≡ k
    → row ≡ a ∷ b ∷ c ∷ d ∷ e ∷ f ∷ g ∷ h ∷ i ∷ j ∷ k ∷ []
eleven [] a b c d e f g h i j k len p q r s t u v = absurd (omega arith)
eleven (z ∷ []) a b c d e f g h i j k len p q r s t u v = absurd (omega arith)
eleven (z ∷ y ∷ []) a b c d e f g h i j k len p q r s t u v = absurd (omega arith)
eleven (z ∷ y ∷ x ∷ []) a b c d e f g h i j k len p q r s t u v = absurd (omega arith)
eleven (z ∷ y ∷ x ∷ w ∷ []) a b c d e f g h i j k len p q r s t u v = absurd (omega arith)
eleven (z ∷ y ∷ x ∷ w ∷ l ∷ []) a b c d e f g h i j k len p q r s t u v = absurd (omega arith)
eleven (z ∷ y ∷ x ∷ w ∷ l ∷ m ∷ []) a b c d e f g h i j k len p q r s t u v = absurd (omega arith)
eleven (z ∷ y ∷ x ∷ w ∷ l ∷ m ∷ n ∷ []) a b c d e f g h i j k len p q r s t u v = absurd (omega arith)
eleven (z ∷ y ∷ x ∷ w ∷ l ∷ m ∷ n ∷ o ∷ []) a b c d e f g h i j k len p q r s t u v = absurd (omega arith)
eleven (z ∷ y ∷ x ∷ w ∷ l ∷ m ∷ n ∷ o ∷ z1 ∷ []) a b c d e f g h i j k len p q r s t u v = absurd (omega arith)
eleven (z ∷ y ∷ x ∷ w ∷ l ∷ m ∷ n ∷ o ∷ z1 ∷ z2 ∷ []) a b c d e f g h i j k len p q r s t u v = absurd (omega arith)
eleven (z ∷ y ∷ x ∷ w ∷ l ∷ m ∷ n ∷ o ∷ z1 ∷ z2 ∷ z3 ∷ []) a b c d e f g h i j k len p q r s t u v = cc
eleven (z ∷ y ∷ x ∷ w ∷ l ∷ m ∷ n ∷ o ∷ z1 ∷ z2 ∷ z3 ∷ z4 ∷ more) a b c d e f g h i j k len p q r s t u v =
    absurd (omega arith)

-- a column that is neither NULL nor a reason has no answer
pub no_answer : (shown : Value) (e : Refusal) → (shown ≡ Null → ⊥)
    → MayRead (λ text. IsTrue (is_reason text)) Text shown (Err e) → MayRead IsAnswer text_or_null shown (Err e)
no_answer shown e filled (inl lacks) = inl cc
no_answer shown e filled (inr none) = inr (none.0, without)
  where
    without : (answer : Option (List ℕ)) → IsAnswer answer → shown ≡ text_or_null answer → ⊥
    without None one same = filled same
    without (Some text) one same = none.1 text one same
