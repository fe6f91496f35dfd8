use Rattle.std.proofs.Common.{ℕ, ◌≤◌, length, get_or, drop}
use Rattle.squeezing.specs.Standing.{StandsIn}
use Rattle.squeezing.proofs.raising.upper_totals.Given as goal

abbrev pub invariant-loop-j : goal.invariant-loop-j
invariant-loop-j g l =
    let m = g.M.Measure in
    let t = l.hi.totals.now in
    (k : ℕ) (d : g.row.M.Denot) → l.j ≤ k → k ≤ length l.hi.places.now → StandsIn m.algebra m.row m.span t (drop k l.hi.places.now) (get_or l.room k d)
