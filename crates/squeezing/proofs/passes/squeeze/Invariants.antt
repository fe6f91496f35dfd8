use Rattle.std.proofs.Common.{◌≡◌, ℕ, ◌+◌, ◌-◌, ◌<◌, ◌≤◌, Bool, ◌||◌, length, get_or}
use Rattle.sets.specs.Spaces.{squeeze, raise_from, lower_from, space, widths}
use Rattle.squeezing.specs.Standing.{HoldsIn, entries_in}
use Rattle.squeezing.specs.Standing.{Front, Lower, Back, Higher, Fair, Above}
use Rattle.squeezing.proofs.LoweringPass.{Lowered, Fell}
use Rattle.squeezing.proofs.RaisingPass.{Settled, Rose}
use Rattle.squeezing.proofs.passes.squeeze.Given as goal

-- what is left to squeeze gives what was asked
abbrev pub invariant-passes : goal.invariant-passes
invariant-passes g l =
    let m = g.M.Measure in
    let t = l.totals in
    let xs = entries_in m.row t in
    Fair t.n l.lo l.hi × (length l.hi ≡ length l.initial.hi) × Above l.initial.lo l.lo × Above l.hi l.initial.hi × ((f : ℕ) × (widths l.lo l.hi ≤ f) × (HoldsIn m.algebra m.row m.span t → squeeze m.algebra xs (m.row l.low) (m.row l.high) (widths l.initial.lo l.initial.hi) (space l.initial.lo l.initial.hi) ≡ squeeze m.algebra xs (m.row l.low) (m.row l.high) f (space l.lo l.hi)))

abbrev pub decreases-passes : goal.decreases-passes
decreases-passes g l = widths l.lo l.hi

-- the positions before index i are raised
abbrev pub invariant-raising : goal.invariant-raising
invariant-raising g l =
    let m = g.M.Measure in
    let t = l.totals in
    let hi = l.uppers.places.now in
    let xs = entries_in m.row t in
    (length l.lo ≡ length hi) × Lower t.n l.lo × Settled l.i l.lo hi × Rose l.moved l.initial.lo l.lo × Front m.algebra m.row m.span t hi l.i (get_or l.lo (l.i - 1) 0 + 1) l.front.start l.front.before × (HoldsIn m.algebra m.row m.span t → raise_from m.algebra xs (m.row l.low) hi 1 (length hi) l.initial.lo ≡ raise_from m.algebra xs (m.row l.low) hi (l.i + 1) (length hi - l.i) l.lo)

-- the positions from index i on are lowered
abbrev pub invariant-lowering : goal.invariant-lowering
invariant-lowering g l =
    let m = g.M.Measure in
    let t = l.totals in
    let lo = l.lowers.places.now in
    let xs = entries_in m.row t in
    (length l.hi ≡ length lo) × Higher t.n l.hi × Lowered l.i lo l.hi × ((fell : Bool) × (l.moved ≡ (l.initial.moved || fell)) × Fell fell l.initial.hi l.hi) × (0 < l.i → Back m.algebra m.row m.span t lo (l.i - 1) (get_or l.hi (l.i - 1 + 1) 0 - 1) l.back.end l.back.after) × (HoldsIn m.algebra m.row m.span t → lower_from m.algebra xs (m.row l.high) lo (length lo) l.initial.hi ≡ lower_from m.algebra xs (m.row l.high) lo l.i l.hi)
