-- The least and the greatest rank total of the sets of m of n entries.
use Rattle.std.proofs.Common.{ℕ, ◌+◌, ◌-◌, ◌*◌, ◌/◌, ◌≡◌, ◌≤◌, mul-le-mul_right, mul-le-mul_left, arith}
use Rattle.sets.specs.Crossed.{least_total, greatest_total}

-- no rank total of m of 120 entries passes 7,260
pub greatest_most : (n m : ℕ) → m ≤ n → n ≤ 120 → greatest_total n m ≤ 7260
greatest_most n m l h =
    let k = 120 - m in
    let wide : m * (2 * n - m + 1) ≤ m * (121 + k) = mul-le-mul_left m (omega arith) in
    let less : m * k ≤ 120 * k = mul-le-mul_right k (omega arith) in
    let both : m + k ≡ 120 = omega arith in
    half (m * (2 * n - m + 1)) (omega (arith, wide, less, both))
  where
    half : (a : ℕ) → a ≤ 14520 → a / 2 ≤ 7260
    half a b = omega arith

pub least-greatest : (n m : ℕ) → m ≤ n → least_total m ≤ greatest_total n m
least-greatest n m l = let wide : m * (m + 1) ≤ m * (2 * n - m + 1) = mul-le-mul_left m (omega arith) in half (m * (m + 1)) (m * (2 * n - m + 1)) wide
  where
    half : (a b : ℕ) → a ≤ b → a / 2 ≤ b / 2
    half a b h = omega arith
