-- Numbers of halls by binary digits, each digit the set of the halls that have a one there, the last digit first. The
-- halls below 128 and the others have digits of their own.
use Rattle.std.specs.Prelude.{◌≡◌, ℕ, Bool, ◌+◌, ◌-◌, ◌*◌, List, [], ◌∷◌, length, nat_lt, if◌then◌else◌}
use Rattle.exam_plan.specs.declared.tally.Tally.{Tally}
use Rattle.exam_plan.specs.HallSets.{holds}

-- as many digits as the number of all candidates has
abbrev pub digit_count : ℕ
digit_count = 13

abbrev pub one_if : Bool → ℕ
one_if b = if b then 1 else 0

-- the number of the hall in its word
abbrev pub tallied : List ℕ → ℕ → ℕ
tallied [] h = 0
tallied (digit ∷ digits) h = one_if (holds digit h) + 2 * tallied digits h

-- the number of the hall
abbrev pub tally_of : Tally → ℕ → ℕ
tally_of tally h = if nat_lt h 128 then tallied tally.low h else tallied tally.high (h - 128)

abbrev pub IsWhole : Tally → Type 0
IsWhole tally = (length tally.low ≡ digit_count) × (length tally.high ≡ digit_count)
