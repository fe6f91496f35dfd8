-- Where a column of the table begins.
use Rattle.std.proofs.Common.{◌≡◌, ℕ, zero, suc, ◌+◌, ◌-◌, ◌*◌, ◌/◌, ◌≤◌, refl, ap, ◌∙◌, suc-mul, zero-mul, mul-one, mul-add, add-one, arith}
use native.Mathlib.Nat.{div-eq_of_eq-mul_right}
use Rattle.squeezing.specs.Table.{offset}

double : (n k d : ℕ) → k + d ≡ 2 * n → k ≤ n → k * (d + 1) ≡ 2 * offset n k
unfolding offset
double n zero d e h = zero-mul (d + 1)
double n (suc k) d e h =
    let again = double n k (d + 1) (omega arith) (omega arith) in
    omega (arith, again, suc-mul k (d + 1), mul-add k (d + 1) 1, mul-one k)

pub offset_is : (n k : ℕ) → k ≤ n → k * (2 * n + 1 - k) / 2 ≡ offset n k
offset_is n k h =
    let d : 2 * n + 1 - k ≡ (2 * n - k) + 1 = omega arith in
    div-eq_of_eq-mul_right (omega arith) (ap (λ x. k * x) d ∙ double n k (2 * n - k) (omega arith) h)

pub offset_next : (n k : ℕ) → offset n (k + 1) ≡ offset n k + (n - k)
unfolding offset
offset_next n k = rw add-one refl

pub offset_up : (n k j : ℕ) → offset n k ≤ offset n (k + j)
offset_up n k zero = omega (arith, ap (offset n) (let e : k + 0 ≡ k = omega arith in e))
offset_up n k (suc j) =
    let e : k + suc j ≡ (k + j) + 1 = omega arith in
    omega (arith, offset_up n k j, ap (offset n) e, offset_next n (k + j))

pub offset-zero : (n : ℕ) → offset n 0 ≡ 0
unfolding offset
offset-zero n = refl

-- the column of k + 1 neighbours begins past the column of k
pub offset_from : (n k : ℕ) → 1 ≤ k → k ≤ n → offset n k ≡ offset n (k - 1) + (n - k + 1)
offset_from n k h l =
    let e : k - 1 + 1 ≡ k = omega arith in
    omega (arith, offset_next n (k - 1), ap (offset n) e)

-- and past the entries
pub offset_past : (n k : ℕ) → 1 ≤ k → n ≤ offset n k
offset_past n k h =
    let e : 1 + (k - 1) ≡ k = omega arith in
    omega (arith, offset_next n 0, offset-zero n, offset_up n 1 (k - 1), ap (offset n) e)

-- fewer columns take no more
pub offset_fewer : (n k m : ℕ) → k ≤ m → offset n k ≤ offset n m
offset_fewer n k m h =
    let e : k + (m - k) ≡ m = omega arith in
    omega (arith, offset_up n k (m - k), ap (offset n) e)

-- the column of k neighbours lies in a table that is long enough for m columns
pub column_within : (n k m cells : ℕ) → 1 ≤ k → k ≤ m → m ≤ n → offset n m ≤ cells → offset n (k - 1) + (n - k + 1) ≤ cells
column_within n k m cells some few fits long = omega (arith, offset_from n k some (omega arith), offset_fewer n k m few)
