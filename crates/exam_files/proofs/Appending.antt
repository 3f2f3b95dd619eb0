-- Texts that grow at their end.
use Rattle.std.proofs.Common.{◌≡◌, ◌∙◌, ◌+◌, ◌-◌, ◌<◌, ℕ, suc, List, [], ◌∷◌, ◌++◌, refl, sym, ap, arith, append_assoc}
use Rattle.std.proofs.Common.{append-nil, ◌≤◌}
use Rattle.std.specs.Prelude.{replicate}
use Rattle.std.specs.List.{flat_map, range_with_len}

-- one more piece
pub more : (t s u p q : List ℕ) → s ≡ t ++ p → u ≡ s ++ q → u ≡ t ++ (p ++ q)
more t s u p q before now = now ∙ ap (λ x. x ++ q) before ∙ append_assoc t p q

-- one more space of n
pub more_spaces : (s all : List ℕ) (i n : ℕ) → i < n → s ++ replicate (n - i) 32 ≡ all
    → (s ++ 32 ∷ []) ++ replicate (n - (i + 1)) 32 ≡ all
more_spaces s all i n below is =
    let left : n - i ≡ suc (n - (i + 1)) = omega arith in
    append_assoc s (32 ∷ []) (replicate (n - (i + 1)) 32) ∙ ap (λ k. s ++ replicate k 32) (sym left) ∙ is

-- one more of n numbers from a first on
pub more_numbers : {X : Type 0} (f : ℕ → List X) (first i n : ℕ) → i < n
    → flat_map f (range_with_len (first + i) (n - i)) ≡ f (first + i)
    ++ flat_map f (range_with_len (first + (i + 1)) (n - (i + 1)))
more_numbers f first i n below =
    let left : n - i ≡ suc (n - (i + 1)) = omega arith in
    let next : first + (i + 1) ≡ first + i + 1 = omega arith in
    rw (left, next) refl

-- no space is left to write
pub all_spaces : (s all : List ℕ) (i n : ℕ) → n ≤ i → s ++ replicate (n - i) 32 ≡ all → s ≡ all
all_spaces s all i n above is =
    let none : n - i ≡ 0 = omega arith in
    sym (append-nil s) ∙ ap (λ k. s ++ replicate k 32) (sym none) ∙ is
