use Rattle.std.proofs.Common.{◌+◌, ◌-◌, length, drop, sym, subst, arith}
use Rattle.std.proofs.lemmas.List.{length-set}
use Rattle.squeezing.specs.Standing.{StandsIn}
use Rattle.squeezing.proofs.Sums.{places_of}
use Rattle.squeezing.proofs.RaisedTotals.{suffix_more, suffix_set}
use Rattle.squeezing.proofs.raising.upper_totals.Goals as goal

pub loop-j-preserved : goal.loop-j-preserved
loop-j-preserved g c =
    let m = g.M.Measure in
    let t = c.args.hi.now.totals.now in
    let hi = c.args.hi.now.places.now in
    let room = c.loop-j.room in
    let j = c.loop-j.j - 1 in
    let rest = subst (λ x. StandsIn m.algebra m.row m.span t (drop (j + 1) hi) x) (sym c.index-room-j.is) (c.loop-j.invariant (j + 1) c.index-room-j.result (omega arith) (omega arith)) in
    let sum = suffix_more m.algebra g.met.M.Measure.lawful m.row m.span g.met.M.Measure.owned t hi (places_of c.args.hi.now) j c.total.result c.index-room-j.result c.plus.result (omega arith) c.total.ensures rest (c.plus.ensures.exact, c.plus.ensures.small) in
    suffix_set m.algebra m.row m.span t hi room j c.plus.result (omega (arith, length-set c.args.room.now (length hi) c.nothing.result)) (λ k d h l. c.loop-j.invariant k d (omega arith) l) sum
