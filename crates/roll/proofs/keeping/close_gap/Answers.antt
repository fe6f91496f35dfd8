use Rattle.std.proofs.Common.{arith}
use Rattle.roll.proofs.Moves.{gap_holds, gap_again, gap_ends}
use Rattle.roll.proofs.keeping.close_gap.Goals as goal

pub loop-i-init : goal.loop-i-init
loop-i-init g c = gap_holds c.args.cells.now c.args.index c.requires

pub loop-i-preserved : goal.loop-i-preserved
loop-i-preserved g c =
    let l = c.loop-i in
    gap_again c.args.cells.now c.args.index c.requires l.cells l.i c.index-cells-i.result l.auto.i c.loop-i-test.true l.invariant c.index-cells-i.is

pub returns : goal.returns
returns g c =
    let l = c.loop-i in
    gap_ends c.args.cells.now c.args.index c.requires l.cells l.i c.loop-i-test.false (l.auto.i-end (omega arith)) l.invariant
