use Rattle.std.proofs.Common.{◌≡◌, ℕ, ◌+◌, ◌-◌, ◌<◌, length, get_or}
use Rattle.exploring.proofs.whole.whole.Given as goal

abbrev pub invariant-loop-j : goal.invariant-loop-j
invariant-loop-j l = (length l.lo ≡ 120) × (length l.hi ≡ 120) × ((k : ℕ) → k < l.j → get_or l.lo k 0 ≡ 1 + k) × ((k : ℕ) → k < l.j → get_or l.hi k 0 ≡ l.n - l.m + 1 + k)
