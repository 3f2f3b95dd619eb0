-- The lengths of codes, and their bytes in cells.
use Rattle.std.proofs.Common.{◌≡◌, ◌≤◌, ℕ, Bool, true, List, ◌++◌, length, take, IsTrue, arith}
use Rattle.std.proofs.Math.Seq.{take-append_seam}
use Rattle.exam_types.specs.Codes.{is_code}

pub longest : (allowed : ℕ → Bool) (low high : ℕ) (text : List ℕ) → is_code allowed low high text ≡ true
    → length text ≤ high
longest allowed low high text is = grind arith

-- a code's bytes, followed by other cells
pub front_is_code : (allowed : ℕ → Bool) (low high : ℕ) (text front rest : List ℕ) → front ≡ text
    → is_code allowed low high text ≡ true → IsTrue (is_code allowed low high (take (length text) (front ++ rest)))
front_is_code allowed low high text front rest same is = rw (same, take-append_seam) is
