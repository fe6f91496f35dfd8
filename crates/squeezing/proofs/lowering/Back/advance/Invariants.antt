use Rattle.std.proofs.Common.{◌-◌}
use Rattle.squeezing.specs.Standing.{Back as BackIs}
use Rattle.squeezing.proofs.lowering.Back.advance.Given as goal

abbrev pub invariant-loop-self : goal.invariant-loop-self
invariant-loop-self g l =
    let m = g.M.Measure in
    let t = l.lo.totals.now in
    BackIs m.algebra m.row m.span t l.lo.places.now l.i l.v l.self.end l.self.after

abbrev pub decreases-loop-self : goal.decreases-loop-self
decreases-loop-self g l = l.self.end - l.i
