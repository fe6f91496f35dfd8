use Rattle.roll.proofs.Moves.{insert_holds, insert_again, insert_ends}
use Rattle.roll.proofs.keeping.insert.Goals as goal

pub loop-i-init : goal.loop-i-init
loop-i-init g c = insert_holds c.args.cells.now c.args.index c.args.one c.requires

pub loop-i-preserved : goal.loop-i-preserved
loop-i-preserved g c =
    let l = c.loop-i in
    insert_again c.args.cells.now c.args.index c.args.one c.requires l.cells l.i l.carried c.index-cells-i.result l.auto.i c.loop-i-test.true l.invariant.0 l.invariant.1 c.index-cells-i.is

pub returns : goal.returns
returns g c =
    let l = c.loop-i in
    insert_ends c.args.cells.now c.args.index c.args.one c.requires l.cells l.i c.loop-i-test.false (l.auto.i-end c.requires) l.invariant.0
