-- A mask is the sum of the set that it represents.
use Rattle.std.specs.Prelude.{◌≡◌, ◌<◌, ◌≤◌, ℕ, zero, suc, ◌/◌, ◌%◌, ◌^◌, ◌==◌, List, [], ◌∷◌, length}
use Rattle.std.proofs.Common.{refl, arith, pow-suc}
use Rattle.exam_types.specs.Features.{feature_names, features_sum, greatest_sum, part, sum_among, summed_among}
use Rattle.exam_types.specs.Features.{summed_features}

last_bit : (n : ℕ) → n < 2 → part (n == 1) 1 ≡ n
last_bit zero l = refl
last_bit (suc zero) l = refl
last_bit (suc (suc n)) l = absurd (omega arith)

pub sum_of_bits : (names : List (List ℕ)) (n : ℕ)
    → n < 2 ^ length names → sum_among names (summed_among names n) ≡ n
sum_of_bits [] n l = omega arith
sum_of_bits (name ∷ names) n l =
    let low : part (n % 2 == 1) 1 ≡ n % 2 = last_bit (n % 2) (omega arith) in
    let within : n / 2 < 2 ^ length names = omega (arith, pow-suc 2 (length names)) in
    let high : sum_among names (summed_among names (n / 2)) ≡ n / 2 = sum_of_bits names (n / 2) within in
    omega arith

pub sum_of_summed : (n : ℕ) → n ≤ greatest_sum → features_sum (summed_features n) ≡ n
sum_of_summed n l = sum_of_bits feature_names n (omega arith)
