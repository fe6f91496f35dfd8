use Rattle.std.proofs.Common.{◌≡◌, ◌≤◌, length, take}
use Rattle.roll.specs.Totals.{Few}
use Rattle.roll.proofs.Sums.{sums}
use Rattle.roll.proofs.values.sum.Given as goal

abbrev pub invariant-loop-one : goal.invariant-loop-one
invariant-loop-one g l =
    let m = g.M.Measure in
    (l.one-index ≤ length l.entries)
    × (Few m.span l.entries → m.row l.sum ≡ sums m.algebra m.row (take l.one-index l.entries))
    × (Few m.span l.entries → m.span l.sum ≤ l.one-index)
