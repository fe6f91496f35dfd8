use Rattle.std.proofs.Common.{length, sym, subst}
use Rattle.exploring.specs.Meaning.{Begun}
use Rattle.question.specs.Filling.{EndsAsAsked}
use Rattle.question.proofs.Begins.{starts}
use Rattle.question.proofs.beginning.begin_accepted.Goals as goal

pub returns : goal.returns
returns g c =
    let m = g.M.Measure in
    let xs = c.args.entries.now in
    let is = c.write_table.new.table in
    let low = c.searched_band-band.result.low in
    let high = c.searched_band-band.result.high in
    let s = c.over.result in
    let begun = subst (λ k. Begun m.algebra m.row m.span (length xs) k is low high s) c.searched_size-m.ensures c.over.ensures in
    record {
      starts = starts m.algebra m.row m.span xs c.args.all c.args.asked c.args.table.now is s low high c.requires c.write_table.auto.table c.write_table.ensures.written c.searched_band-band.ensures.low c.searched_band-band.ensures.high begun;
      paid = λ side. subst (EndsAsAsked m.row (length xs) c.args.asked) (sym begun.table_is) (c.write_table.ensures.paid side);
    }
