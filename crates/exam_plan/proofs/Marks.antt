-- Lists of marks: a list that marks more has fewer places without a mark.
use Rattle.std.proofs.Common.{◌≡◌, ◌≢◌, ℕ, suc, ◌<◌, ◌≤◌, Bool, true, false, not, List, [], ◌∷◌, length, get_or}
use Rattle.std.proofs.Common.{count_by, refl, sym, ap, ◌∙◌, arith}
use Rattle.std.specs.Cmp.{booleans_Decides}
use Rattle.std.specs.Cmp.Lexicographic.{pointwise}
use Rattle.std.proofs.Math.Bool.{beq}
use Rattle.std.proofs.lemmas.Slice.Eq.{slice_eq-Decides}
use Rattle.exam_plan.proofs.Counting.{count_by-cons}

-- every mark of the first list is one of the second
abbrev pub IsWider : List Bool → List Bool → Type 0
IsWider xs ys = (h : ℕ) → get_or xs h false ≡ true → get_or ys h false ≡ true

wider-tail : (x y : Bool) (xs ys : List Bool) → IsWider (x ∷ xs) (y ∷ ys) → IsWider xs ys
wider-tail x y xs ys w h = w (suc h)

unmarked-le : (xs ys : List Bool) → length ys ≡ length xs → IsWider xs ys → count_by not ys ≤ count_by not xs
unmarked-le [] [] e w = omega arith
unmarked-le [] (y ∷ ys) e w = absurd (omega arith)
unmarked-le (x ∷ xs) [] e w = absurd (omega arith)
unmarked-le (false ∷ xs) (true ∷ ys) e w =
    omega (
      arith,
      count_by-cons not false xs,
      count_by-cons not true ys,
      unmarked-le xs ys (omega arith) (wider-tail false true xs ys w),
    )
unmarked-le (false ∷ xs) (false ∷ ys) e w =
    omega (
      arith,
      count_by-cons not false xs,
      count_by-cons not false ys,
      unmarked-le xs ys (omega arith) (wider-tail false false xs ys w),
    )
unmarked-le (true ∷ xs) (true ∷ ys) e w =
    omega (
      arith,
      count_by-cons not true xs,
      count_by-cons not true ys,
      unmarked-le xs ys (omega arith) (wider-tail true true xs ys w),
    )
unmarked-le (true ∷ xs) (false ∷ ys) e w = absurd (let z : false ≡ true = w 0 refl in cc)

pub unmarked-lt : (xs ys : List Bool) → length ys ≡ length xs → IsWider xs ys → ys ≢ xs
    → count_by not ys < count_by not xs
unmarked-lt [] [] e w n = absurd (n refl)
unmarked-lt [] (y ∷ ys) e w n = absurd (omega arith)
unmarked-lt (x ∷ xs) [] e w n = absurd (omega arith)
unmarked-lt (false ∷ xs) (true ∷ ys) e w n =
    omega (
      arith,
      count_by-cons not false xs,
      count_by-cons not true ys,
      unmarked-le xs ys (omega arith) (wider-tail false true xs ys w),
    )
unmarked-lt (false ∷ xs) (false ∷ ys) e w n =
    omega (
      arith,
      count_by-cons not false xs,
      count_by-cons not false ys,
      unmarked-lt xs ys (omega arith) (wider-tail false false xs ys w) (λ t. n (ap (λ z. false ∷ z) t)),
    )
unmarked-lt (true ∷ xs) (true ∷ ys) e w n =
    omega (
      arith,
      count_by-cons not true xs,
      count_by-cons not true ys,
      unmarked-lt xs ys (omega arith) (wider-tail true true xs ys w) (λ t. n (ap (λ z. true ∷ z) t)),
    )
unmarked-lt (true ∷ xs) (false ∷ ys) e w n = absurd (let z : false ≡ true = w 0 refl in cc)

-- what a test of two lists of marks answers
pub marks_differ : (xs ys : List Bool) → pointwise beq xs ys ≡ false → xs ≢ ys
marks_differ xs ys e same = let t : pointwise beq xs ys ≡ true =
    (slice_eq-Decides booleans_Decides xs ys _ refl).1 same in let z : false ≡ true = sym e ∙ t in cc

pub marks_agree : (xs ys : List Bool) → pointwise beq xs ys ≡ true → xs ≡ ys
marks_agree xs ys e = (slice_eq-Decides booleans_Decides xs ys _ refl).0 e
