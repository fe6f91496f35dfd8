use Rattle.std.proofs.Common.{◌≡◌, ◌+◌, length, take, drop}
use Rattle.roll.specs.Totals.{Few, rows_of}
use Rattle.squeezing.specs.Table.{offset}
use Rattle.question.specs.Filling.{Laid}
use Rattle.question.proofs.filling.next_column.Given as goal

abbrev pub invariant-loop-q : goal.invariant-loop-q
invariant-loop-q g l =
    let m = g.M.Measure in
    let n = length l.entries in
    let rows = rows_of m.row l.entries in
    (take l.next l.table ≡ take l.next l.initial.table)
    × (Few m.span l.entries → Laid m.algebra m.row m.span rows n l.initial.table l.next → Laid m.algebra m.row m.span rows n l.table (l.next + l.q))
    × (drop (offset n (l.k + 1)) l.table ≡ drop (offset n (l.k + 1)) l.initial.table)
