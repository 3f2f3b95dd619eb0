-- Texts padded with spaces.
use Rattle.std.specs.Prelude.{ℕ, ◌-◌, List, ◌++◌, length, replicate}

-- with spaces on the left, or on the right, up to n bytes
abbrev pub right_in : ℕ → List ℕ → List ℕ
right_in n text = replicate (n - length text) 32 ++ text

abbrev pub left_in : ℕ → List ℕ → List ℕ
left_in n text = text ++ replicate (n - length text) 32
