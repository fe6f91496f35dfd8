use Rattle.std.proofs.Common.{take}
use Rattle.crossed.specs.Entries.{row_of}
use Rattle.crossing.specs.Beginning.{Casts}
use Rattle.crossing.proofs.beginning.cast.Given as goal

abbrev pub invariant-loop-i : goal.invariant-loop-i
invariant-loop-i l = Casts (row_of l.falls) (take l.i l.entries) (take l.i l.shadows)
