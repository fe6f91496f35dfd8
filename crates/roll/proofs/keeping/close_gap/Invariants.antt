use Rattle.std.proofs.Common.{◌≡◌, ◌++◌, take, drop}
use Rattle.std.specs.List.{remove}
use Rattle.roll.proofs.keeping.close_gap.Given as goal

abbrev pub invariant-loop-i : goal.invariant-loop-i
invariant-loop-i g l =
    l.cells ≡ take l.i (remove l.initial.cells l.index) ++ drop l.i l.initial.cells
