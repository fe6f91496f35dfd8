use Rattle.std.proofs.Common.{arith}
use Rattle.squeezing.proofs.Sums.{places_of}
use Rattle.squeezing.proofs.LoweredTotals.{back_more}
use Rattle.squeezing.proofs.lowering.Back.advance.Goals as goal

pub loop-self-preserved : goal.loop-self-preserved
loop-self-preserved g c =
    let m = g.M.Measure in
    let t = c.args.lo.now.totals.now in
    back_more m.algebra g.met.M.Measure.lawful m.row m.span g.met.M.Measure.owned t c.args.lo.now.places.now (places_of c.args.lo.now) c.args.i c.args.v c.loop-self.self.end c.loop-self.self.after c.total.result c.plus-self.result (omega arith) (omega arith) c.loop-self.invariant c.total.ensures (c.plus-self.ensures.exact, c.plus-self.ensures.small)
