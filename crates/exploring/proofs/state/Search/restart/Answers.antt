use Rattle.std.proofs.Common.{ap, ◌∙◌}
use Rattle.exploring.specs.Waiting.{explore_of, to_come}
use Rattle.squeezing.proofs.Framing.{frame_fits}
use Rattle.exploring.proofs.Rooting.{first_again}
use Rattle.exploring.proofs.state.Search.restart.Goals as goal

pub returns-clause-comes : goal.returns-clause-comes
returns-clause-comes g c =
    let m = g.M.Measure in
    let s = c.args.self.now in
    let f = s.work.frontier.root in
    let low = m.row c.args.band.low in
    let high = m.row c.args.band.high in
    let table = s.table.now in
    let again = c.restart.ensures in
    ap (λ r. to_come (explore_of m.algebra m.row r.n table low high) c.restart.new.self) again.root
    ∙ again.items (explore_of m.algebra m.row f.n table low high)
    ∙ first_again m.algebra m.row table low high f.n f.m (frame_fits f.n f.m f.lo f.hi f.roomy f.under f.upto) f.few s.long
