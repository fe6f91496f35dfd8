use Rattle.std.proofs.Common.{◌≡◌, ◌++◌, get_or, take, drop}
use Rattle.std.specs.List.{insert}
use Rattle.roll.proofs.keeping.insert.Given as goal

abbrev pub invariant-loop-i : goal.invariant-loop-i
invariant-loop-i g l =
    let ins = insert l.initial.cells l.index l.initial.carried in
    (l.cells ≡ take l.i ins ++ drop l.i l.initial.cells) × (l.carried ≡ get_or ins l.i l.carried)
