use Rattle.std.proofs.Common.{◌≡◌, ◌-◌, length, take, drop}
use Rattle.roll.specs.Totals.{Few, rows_of}
use Rattle.squeezing.specs.Table.{offset}
use Rattle.question.specs.Filling.{Laid, values}
use Rattle.question.proofs.filling.fill.Given as goal

abbrev pub invariant-loop-k : goal.invariant-loop-k
invariant-loop-k g l =
    let m = g.M.Measure in
    let n = length l.entries in
    (l.start ≡ offset n (l.k - 1))
    × (take n l.table ≡ values l.entries)
    × (Few m.span l.entries → Laid m.algebra m.row m.span (rows_of m.row l.entries) n l.table (offset n l.k))
    × (drop (offset n l.m) l.table ≡ drop (offset n l.m) l.initial.table)
