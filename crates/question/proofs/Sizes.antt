-- How many values a table has: the columns end where the two ends begin, and the count fits 128 bits.
use Rattle.std.proofs.Common.{◌≡◌, ℕ, ◌+◌, ◌-◌, ◌*◌, ◌/◌, ◌≤◌, ap, ◌∙◌, mul_comm, add-mul, mul-le-mul, mul-one, mul-add, arith}
use Rattle.question.specs.Asking.{table_size}
use Rattle.squeezing.specs.Table.{offset}
use Rattle.squeezing.proofs.Columns.{offset_is}

-- the columns, then two ends
pub table_size_is : (n m : ℕ) → m ≤ n → table_size n m ≡ offset n m + 2
table_size_is n m h =
    let e : 2 * n - m + 1 ≡ 2 * n + 1 - m = omega arith in
    ap (λ k. m * k / 2 + 2) e ∙ ap (λ k. k + 2) (offset_is n m h)

-- twice the columns are at most n times n + 1
pub twice_columns : (n m : ℕ) → m ≤ n → m * (2 * n - m + 1) ≤ n * (n + 1)
twice_columns n m h =
    let d = n - m in
    let n_is : n ≡ m + d = omega arith in
    let k_is : 2 * n - m + 1 ≡ (m + d) + (d + 1) = omega arith in
    let left : m * (2 * n - m + 1) ≡ m * m + m * d + (m * d + m) = ap (λ k. m * k) k_is ∙ omega (arith, mul-add m (m + d) (d + 1), mul-add m m d, mul-add m d 1, mul-one m) in
    let right : n * (n + 1) ≡ m * m + d * m + (m * d + d * d) + (m + d) = ap (λ k. k * (k + 1)) n_is ∙ omega (arith, mul-add (m + d) (m + d) 1, mul-one (m + d), mul-add (m + d) m d, add-mul m d m, add-mul m d d) in
    omega (arith, left, right, mul_comm m d)

-- and so fit 128 bits
pub twice_columns_fit : (n m : ℕ) → m ≤ n → n ≤ 18446744073709551615 → m * (2 * n - m + 1) ≤ 340282366920938463444927863358058659840
twice_columns_fit n m h l =
    let l' : n + 1 ≤ 18446744073709551616 = omega arith in
    let top : n * (n + 1) ≤ 18446744073709551615 * 18446744073709551616 = mul-le-mul l l' in
    omega (arith, twice_columns n m h, top)
