use Rattle.std.proofs.Common.{◌-◌}
use Rattle.squeezing.specs.Standing.{Front as FrontIs}
use Rattle.squeezing.proofs.raising.Front.advance.Given as goal

abbrev pub invariant-loop-self : goal.invariant-loop-self
invariant-loop-self g l =
    let m = g.M.Measure in
    let t = l.hi.totals.now in
    FrontIs m.algebra m.row m.span t l.hi.places.now l.i l.v l.self.start l.self.before

abbrev pub decreases-loop-self : goal.decreases-loop-self
decreases-loop-self g l = l.i - l.self.start
