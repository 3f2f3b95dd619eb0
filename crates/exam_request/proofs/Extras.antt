-- The extra time of a number.
use Rattle.std.proofs.Common.{◌≡◌, ◌≤◌, ◌<◌, ℕ, Option, Some, None, refl, arith, inl, inr}
use Rattle.std.specs.Prelude.{◌↔◌, nat_le, if◌then◌else◌}
use Rattle.std.proofs.lemmas.Bool.Decides.{leb_tells}

-- a value that is the number exactly if it is at most 100
pub extra_is : (r : Option ℕ) (number : ℕ) → ((n : ℕ) → (r ≡ Some n) ↔ ((n ≤ 100) × (n ≡ number)))
    → r ≡ (if nat_le number 100 then Some number else None)
extra_is r number exact =
    elim (leb_tells number 100)
    [ inl few ↦ rw few.0 ((exact number).1 (few.1, refl)) | inr many ↦ rw many.0 (none r exact many.1) ]
  where
    none : (x : Option ℕ) → ((n : ℕ) → (x ≡ Some n) ↔ ((n ≤ 100) × (n ≡ number))) → 100 < number → x ≡ None
    none None h many = refl
    none (Some n) h many = let both = (h n).0 refl in absurd (omega (arith, both.0, both.1))
