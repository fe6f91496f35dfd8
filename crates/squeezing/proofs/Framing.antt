-- What the arrays of a space keep.
use Rattle.std.proofs.Common.{ℕ, zero, suc, ◌≤◌, List, arith}
use Rattle.squeezing.specs.Standing.{Roomy, Under, Upto}

-- as many places as there are, at most
pub frame_fits : (n m : ℕ) (lo hi : List ℕ) → Roomy m lo → Under m lo hi → Upto m n hi → m ≤ n
frame_fits n zero lo hi roomy under upto = omega arith
frame_fits n (suc m) lo hi roomy under upto = omega (arith, roomy m (omega arith), under m (omega arith), upto m (omega arith))
