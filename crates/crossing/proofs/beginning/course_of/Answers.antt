use Rattle.crossing.proofs.Totals.{greatest_most, least-greatest}
use Rattle.crossing.proofs.beginning.course_of.Goals as goal

pub invariant_of-result : goal.invariant_of-result
invariant_of-result c =
    let n = c.args.n in
    let m = c.args.asked.size in
    let r = c.requires in
    record { fallen = r.fallen; low = r.band.lows; high = r.band.highs; ahead = least-greatest n m r.most; few = greatest_most n m r.most r.few }
