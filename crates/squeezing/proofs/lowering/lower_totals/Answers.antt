use Rattle.std.proofs.Common.{take, sym, subst, arith}
use Rattle.std.proofs.lemmas.List.{length-set}
use Rattle.squeezing.specs.Standing.{StandsIn}
use Rattle.squeezing.proofs.Sums.{places_of}
use Rattle.squeezing.proofs.RaisedTotals.{prefix_more}
use Rattle.squeezing.proofs.LoweredTotals.{prefix_set}
use Rattle.squeezing.proofs.lowering.lower_totals.Goals as goal

pub loop-j-preserved : goal.loop-j-preserved
loop-j-preserved g c =
    let m = g.M.Measure in
    let t = c.args.lo.now.totals.now in
    let lo = c.args.lo.now.places.now in
    let room = c.loop-j.room in
    let j = c.loop-j.j in
    let before = subst (λ x. StandsIn m.algebra m.row m.span t (take j lo) x) (sym c.index-room-j.is) (c.loop-j.invariant j c.index-room-j.result (omega arith)) in
    let sum = prefix_more m.algebra g.met.M.Measure.lawful m.row m.span g.met.M.Measure.owned t lo (places_of c.args.lo.now) j c.index-room-j.result c.total.result c.plus.result (omega arith) before c.total.ensures (c.plus.ensures.exact, c.plus.ensures.small) in
    prefix_set m.algebra m.row m.span t lo room j c.plus.result (omega (arith, length-set c.args.room.now 0 c.nothing.result)) (λ k d h. c.loop-j.invariant k d h) sum
