-- Decimal digits.
use Rattle.std.specs.Prelude.{ℕ, zero, suc, ◌+◌, ◌-◌, ◌*◌, ◌/◌, ◌%◌, ◌&&◌, nat_le, Bool, List, [], ◌∷◌, ◌++◌}
use Rattle.std.specs.Prelude.{fold, Option, Some, None, if◌then◌else◌}
use Rattle.std.specs.List.{list_all}

-- the last k decimal digits of n, from the left
abbrev pub digits : ℕ → ℕ → List ℕ
digits zero n = []
digits (suc k) n = digits k (n / 10) ++ (48 + n % 10) ∷ []

-- 0 to 9
abbrev pub is_digit : ℕ → Bool
is_digit b = nat_le 48 b && nat_le b 57

-- the number that some digits spell
abbrev pub digits_value : List ℕ → ℕ
digits_value bytes = fold (λ n b. n * 10 + (b - 48)) 0 bytes

-- the number that the digits spell, or none if a byte is no digit
abbrev pub number_of : List ℕ → Option ℕ
number_of bytes = if list_all is_digit bytes then Some (digits_value bytes) else None
