-- Small plans, and what the definitions say of them, by computation.
use Rattle.std.specs.Prelude.{◌≡◌, ℕ, [], ◌∷◌, refl, codes}
use Rattle.exam_rules.specs.Relations.{Code}
use Rattle.exam_commands.specs.Moves.{moved}
use Rattle.exam_commands.specs.State.{Seats}

abbrev pub sits : Code → ℕ → Code → (Code × ℕ) × Code
sits s c h = ((s, c), h)

abbrev pub seats_before : Seats
seats_before =
    sits (codes "S1") 1 (codes "A") ∷ sits (codes "S1") 2 (codes "B") ∷ sits (codes "S1") 3 (codes "C")
    ∷ sits (codes "S2") 1 (codes "A") ∷ sits (codes "S2") 2 (codes "A") ∷ []

-- the first has moved in both sessions and the second in one; the third has left, and the fourth has come
abbrev pub seats_after : Seats
seats_after =
    sits (codes "S1") 1 (codes "B") ∷ sits (codes "S1") 2 (codes "A") ∷ sits (codes "S1") 4 (codes "C")
    ∷ sits (codes "S2") 1 (codes "B") ∷ sits (codes "S2") 2 (codes "A") ∷ []

-- others who change halls count in each session
pub others_than_the_first : moved seats_before seats_after 1 ≡ 1
others_than_the_first = refl

pub others_than_the_second : moved seats_before seats_after 2 ≡ 2
others_than_the_second = refl

pub all_who_move : moved seats_before seats_after 9 ≡ 3
all_who_move = refl
