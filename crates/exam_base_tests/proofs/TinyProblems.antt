-- The small problems of the tests meet the conditions of a problem.
use Rattle.std.proofs.Common.{◌≡◌, ℕ, zero, suc, ◌+◌, ◌<◌, ◌≤◌, Bool, false, List, [], ◌∷◌, ◌++◌, length, map, nat_eq}
use Rattle.std.proofs.Common.{sym, ap, ◌∙◌, subst, arith, Vec, Global, Result, Ok, Err, IfOk}
use Rattle.std.specs.Prelude.{All, filter}
use Rattle.std.specs.List.{range_with_len, AllByRecursion, IsDistinct}
use Rattle.std.specs.List.Sorted.{IsStrictlySortedBy}
use Rattle.std.specs.Ordering.{nat_cmp}
use Rattle.std.proofs.lemmas.Bool.{ne_eqb}
use Rattle.std.proofs.lemmas.List.{length-map}
use Rattle.std.proofs.lemmas.List.Elements.{All-filter, All-from_get_or, All-map}
use Rattle.std.proofs.lemmas.List.FromFn.{length-range_with_len, get_or-range_with_len}
use Rattle.exam_plan.specs.Problems.{IsProblem, most_members}
use Rattle.exam_plan.proofs.Counting.{range_next}
use Rattle.exam_plan.proofs.Rising.{filter_sorted}

apart : (a b n : ℕ) → a < b → AllByRecursion (λ y. nat_eq a y ≡ false) (range_with_len b n)
apart a b zero l = tt
apart a b (suc n) l = (ne_eqb a b (λ e. absurd (omega arith)), apart a (b + 1) n (omega arith))

range_distinct : (a n : ℕ) → IsDistinct nat_eq (range_with_len a n)
unfolding IsDistinct
range_distinct a zero = tt
range_distinct a (suc n) = (apart a (a + 1) n (omega arith), range_distinct (a + 1) n)

pub ranks_distinct : (ranks : List ℕ) (n : ℕ) → ranks ≡ range_with_len 0 n → IsDistinct nat_eq ranks
ranks_distinct ranks n e = subst (IsDistinct nat_eq) (sym e) (range_distinct 0 n)

pub ranks_more : (ranks : List ℕ) (i : ℕ) → ranks ≡ range_with_len 0 i → ranks ++ i ∷ [] ≡ range_with_len 0 (i + 1)
ranks_more ranks i e = ap (λ rs. rs ++ i ∷ []) e ∙ sym (range_next i)

pub row_rises : (row : List ℕ) (P : ℕ → Bool) (n : ℕ) → row ≡ filter P (range_with_len 0 n)
    → IsStrictlySortedBy nat_cmp row
row_rises row P n e = subst (IsStrictlySortedBy nat_cmp) (sym e) (filter_sorted P n)

pub row_exists : (row : List ℕ) (P : ℕ → Bool) (n m : ℕ) → row ≡ filter P (range_with_len 0 n) → n ≡ m
    → All (λ h. h < m) row
row_exists row P n m e same =
    let R : List ℕ → Type 0 = λ hs. All (λ h. h < m) hs in
    subst R (sym e) (All-filter P (λ h. h < m) (range_with_len 0 n) (All-from_get_or (λ h. h < m) (range_with_len 0 n) 0
    (λ i l. let long = length-range_with_len 0 n in let at = get_or-range_with_len 0 n i 0 (omega (arith, l, long)) in
    omega (arith, at, l, long, same))))

pub tiny_problem : (desks : List ℕ) (rows : List (Vec ℕ Global)) (ranks : List ℕ) (n : ℕ) → length desks ≡ 3
    → length rows ≡ n → n ≤ most_members → ranks ≡ range_with_len 0 n
    → All (λ row. IsStrictlySortedBy nat_cmp row.items) rows → All (λ row. All (λ h. h < 3) row.items) rows
    → IsProblem (record { desk_counts = desks; fit = map (λ (row : Vec ℕ Global). row.items) rows; rank = ranks })
tiny_problem desks rows ranks n three count few ranked rising exist =
    let mapped : length (map (λ (row : Vec ℕ Global). row.items) rows) ≡ length rows =
    length-map rows (λ (row : Vec ℕ Global). row.items) in
    let many : length ranks ≡ n = ap length ranked ∙ length-range_with_len 0 n in
    record {
      few = omega (arith, mapped, count, few);
      ranked = omega (arith, mapped, count, many);
      distinct = ranks_distinct ranks n ranked;
      rising = All-map (IsStrictlySortedBy nat_cmp) (λ (row : Vec ℕ Global). row.items) rows rising;
      exist = All-map (λ hs. All (λ h. h < length desks) hs) (λ (row : Vec ℕ Global). row.items) rows
          (λ k d l j e m. (let x = exist k d l j e m in omega (arith, x, three)));
    }

pub if_ok : {T E : Type 0} (result : Result T E) (P Q : T → Type 0) → ((x : T) → P x → Q x) → IfOk result P
    → IfOk result Q
if_ok (Ok x) P Q f h = f x h
if_ok (Err e) P Q f h = tt
