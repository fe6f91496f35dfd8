use Rattle.std.proofs.Common.{◌≡◌, ◌+◌, ◌-◌, ◌<◌, ◌≤◌, length, get_or}
use Rattle.sets.specs.Spaces.{greatest, stays}
use Rattle.sets.specs.Spaces.{lower as lowers}
use Rattle.squeezing.specs.Standing.{HoldsIn, entries_in}
use Rattle.squeezing.specs.Standing.{Back as BackIs}
use Rattle.squeezing.proofs.lowering.lower.Given as goal

abbrev pub invariant-places : goal.invariant-places
invariant-places g l =
    let m = g.M.Measure in
    let t = l.lo.totals.now in
    let xs = entries_in m.row t in
    (l.v + length l.lo.places.now ≤ t.n + l.i + 1) × (l.v ≤ get_or l.hi l.i 0) × (l.i + 1 < length l.hi → l.v ≤ get_or l.hi (l.i + 1) 0 - 1) × BackIs m.algebra m.row m.span t l.lo.places.now l.i l.v l.back.end l.back.after × (HoldsIn m.algebra m.row m.span t → lowers m.algebra xs (m.row l.high) l.lo.places.now l.hi (l.i + 1) ≡ greatest (stays m.algebra xs (m.row l.high) l.lo.places.now (l.i + 1)) l.v (l.v + 1 - get_or l.lo.places.now l.i 0))
