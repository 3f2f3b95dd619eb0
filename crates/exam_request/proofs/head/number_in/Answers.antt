use Rattle.std.proofs.Common.{ℕ, ◌<◌, ◌≤◌, ◌^◌, arith}
use Rattle.std.proofs.Math.Nat.{pow-le-pow_right}
use Rattle.exam_request.proofs.head.number_in.Goals as goal

below_power : (n i : ℕ) → n < 10 ^ i → i < 10 → n < 1000000000
below_power n i small few =
    let at_most : i ≤ 9 = omega arith in
    let most : 10 ^ i ≤ 10 ^ 9 = pow-le-pow_right {n = 10} (omega arith) {i = i} {j = 9} at_most in
    omega arith

pub overflow_mul-number : goal.overflow_mul-number
overflow_mul-number c =
    let small : c.loop-byte.number < 1000000000 = below_power _ _ c.loop-byte.invariant.bound (omega arith) in
    omega arith

pub overflow_add-number : goal.overflow_add-number
overflow_add-number c =
    let small : c.loop-byte.number < 1000000000 = below_power _ _ c.loop-byte.invariant.bound (omega arith) in
    omega arith
