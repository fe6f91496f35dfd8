use Rattle.std.proofs.Common.{ℕ, ◌≤◌, get_or, take}
use Rattle.squeezing.specs.Standing.{StandsIn}
use Rattle.squeezing.proofs.lowering.lower_totals.Given as goal

abbrev pub invariant-loop-j : goal.invariant-loop-j
invariant-loop-j g l =
    let m = g.M.Measure in
    let t = l.lo.totals.now in
    (k : ℕ) (d : g.row.M.Denot) → k ≤ l.j → StandsIn m.algebra m.row m.span t (take k l.lo.places.now) (get_or l.room k d)
