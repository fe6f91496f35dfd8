use Rattle.std.proofs.Common.{length, take, refl, arith}
use Rattle.std.proofs.lemmas.List.{length-take-le}
use Rattle.crossed.specs.Entries.{row_of}
use Rattle.crossing.proofs.Starting.{shadowed_over}
use Rattle.crossing.proofs.beginning.over_shadows.Goals as goal

pub returns : goal.returns
returns c =
    let xs = c.args.entries.now in
    let n = length xs in
    let fits = c.requires.fits in
    let made = c.cast.new.shadows in
    shadowed_over (row_of c.args.falls) xs (take n made) c.args.asked c.ranked.result c.ranked-2.result c.nothing-nothing.result c.args.table.now c.begin_over.result fits
    (length-take-le n made (omega (arith, fits.few, c.cast.auto.shadows))) c.cast.ensures c.ranked.ensures c.ranked-2.ensures c.begin_over.ensures.begins (λ ok. c.begin_over.ensures.paid ok refl)
