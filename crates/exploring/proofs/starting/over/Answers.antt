use Rattle.std.proofs.Common.{length, refl, ◌∙◌}
use Rattle.exploring.specs.Waiting.{explore_of}
use Rattle.exploring.proofs.Rooting.{fits_long, first-planned, begun_sound}
use Rattle.exploring.proofs.starting.over.Goals as goal

pub invariant_of-result : goal.invariant_of-result
invariant_of-result g c =
    let is = c.plan_over.ensures in
    record { long = fits_long c.args.n c.args.m (length c.args.table.now) _ _ is.count is.size }

pub returns : goal.returns
returns g c =
    let m = g.M.Measure in
    let f = c.plan_over.result.root in
    let is = c.plan_over.ensures in
    let low = m.row c.args.band.low in
    let high = m.row c.args.band.high in
    let table = c.args.table.now in
    record {
      table_is = refl;
      count_is = is.count;
      size_is = is.size;
      comes = is.items (explore_of m.algebra m.row f.n table low high) ∙ first-planned m.algebra m.row table low high c.args.n c.args.m f.n f.m is.count is.size;
      sound = begun_sound m.algebra m.row m.span c.args.n c.args.m table f.n f.m is.count is.size;
    }
