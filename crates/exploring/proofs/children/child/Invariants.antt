use Rattle.std.proofs.Common.{◌≡◌, ℕ, ◌+◌, ◌-◌, ◌<◌, ◌≤◌, max, length, get_or}
use Rattle.exploring.proofs.children.child.Given as goal

abbrev pub invariant-loop-j : goal.invariant-loop-j
invariant-loop-j l = (length l.lo ≡ 120) × ((k : ℕ) → k < l.i → get_or l.lo k 0 ≡ get_or l.initial.lo k 0) × ((k : ℕ) → l.i ≤ k → k < l.j → get_or l.lo k 0 ≡ max (get_or l.initial.lo k 0) (l.v + (k - l.i))) × ((k : ℕ) → l.j ≤ k → get_or l.lo k 0 ≡ get_or l.initial.lo k 0)
