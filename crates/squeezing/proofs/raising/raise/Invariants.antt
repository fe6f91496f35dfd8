use Rattle.std.proofs.Common.{◌≡◌, ◌+◌, ◌-◌, ◌<◌, ◌≤◌, get_or}
use Rattle.sets.specs.Spaces.{least, reaches}
use Rattle.sets.specs.Spaces.{raise as raises}
use Rattle.squeezing.specs.Standing.{HoldsIn, entries_in}
use Rattle.squeezing.specs.Standing.{Front as FrontIs}
use Rattle.squeezing.proofs.raising.raise.Given as goal

abbrev pub invariant-places : goal.invariant-places
invariant-places g l =
    let m = g.M.Measure in
    let t = l.hi.totals.now in
    let xs = entries_in m.row t in
    (l.i < l.v) × (get_or l.lo l.i 0 ≤ l.v) × (0 < l.i → get_or l.lo (l.i - 1) 0 < l.v) × FrontIs m.algebra m.row m.span t l.hi.places.now l.i l.v l.front.start l.front.before × (HoldsIn m.algebra m.row m.span t → raises m.algebra xs (m.row l.low) l.lo l.hi.places.now (l.i + 1) ≡ least (reaches m.algebra xs (m.row l.low) l.hi.places.now (l.i + 1)) l.v (get_or l.hi.places.now l.i 0 + 1 - l.v))
