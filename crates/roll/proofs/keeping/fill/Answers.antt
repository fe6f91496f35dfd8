use Rattle.roll.proofs.Moves.{filled_more}
use Rattle.roll.proofs.keeping.fill.Goals as goal

pub loop-cell-preserved : goal.loop-cell-preserved
loop-cell-preserved g c = filled_more c.args.one c.args.cells.now c.loop-cell.cells c.loop-cell.cell-index c.loop-cell-test.true c.loop-cell.invariant
