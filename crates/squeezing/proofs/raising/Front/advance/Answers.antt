use Rattle.std.proofs.Common.{arith}
use Rattle.squeezing.proofs.Sums.{places_of}
use Rattle.squeezing.proofs.RaisedTotals.{front_more}
use Rattle.squeezing.proofs.raising.Front.advance.Goals as goal

pub loop-self-preserved : goal.loop-self-preserved
loop-self-preserved g c =
    let m = g.M.Measure in
    let t = c.args.hi.now.totals.now in
    front_more m.algebra g.met.M.Measure.lawful m.row m.span g.met.M.Measure.owned t c.args.hi.now.places.now (places_of c.args.hi.now) c.args.i c.args.v c.loop-self.self.start c.loop-self.self.before c.total.result c.plus-self.result c.requires.within (omega arith) (omega arith) c.loop-self.invariant c.total.ensures (c.plus-self.ensures.exact, c.plus-self.ensures.small)
