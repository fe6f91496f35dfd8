use Rattle.std.proofs.Common.{get_or, arith}
use Rattle.std.proofs.lemmas.List.{get_or_default}
use Rattle.crossed.specs.Entries.{zero_entry}
use Rattle.crossing.proofs.Casting.{casts_more}
use Rattle.crossing.proofs.beginning.cast.Goals as goal

pub loop-i-preserved : goal.loop-i-preserved
loop-i-preserved c =
    let xs = c.args.entries.now in
    let i = c.loop-i.i in
    let one = get_or xs i zero_entry in
    let r = c.requires in
    casts_more c.args.falls xs c.loop-i.shadows i one _ r.ranged r.fallen c.loop-i-test.true r.few (omega (arith, r.room, c.loop-i.auto.shadows, c.loop-i-test.true)) (get_or_default xs i zero_entry one c.loop-i-test.true) c.shadow.ensures c.loop-i.invariant
